-- The lists are read and shown, or one is refused.
use Rattle.std.proofs.Common.{refl}
use Rattle.any_list.proofs.Telling.{tells_as}
use Rattle.show_run.specs.Lists.{AreGiven, StopsReading}
use Rattle.show_run.specs.Run.{refused, shown}
use Rattle.show_run.proofs.run.show_run.Goals as goal

pub returns-in-Ok : goal.returns-in-Ok
returns-in-Ok g c =
    let names = c.args.names.now in
    let shows = rw c.as_slice.ensures.value at c.show_all.ensures in
    tells_as (λ told. AreGiven told names c.in-Ok.read.items) _ _ _ (λ told are. shown c.in-Ok.read.items are shows) c.in-Ok.ensures.found

pub returns-in-Err : goal.returns-in-Err
returns-in-Err g c =
    tells_as (λ told. StopsReading told c.args.names.now c.in-Err.fault) _ _ _ (λ told is. refused c.in-Err.fault is refl refl refl c.requires) c.in-Err.ensures.fault
