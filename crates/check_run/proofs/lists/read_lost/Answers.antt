-- The other list is read and compared, or refused; or an allocation failed.
use Rattle.std.proofs.Common.{refl}
use Rattle.any_list.proofs.Telling.{tells_as}
use Rattle.any_list.specs.List.{IsGiven, IsRefused}
use Rattle.check_run.proofs.Losing.{all_lost}
use Rattle.check_run.specs.Limits.{ran_out, unread}
use Rattle.check_run.proofs.lists.read_lost.Goals as goal

pub returns-in-Err-clause-fault : goal.returns-in-Err-clause-fault
returns-in-Err-clause-fault g c =
    rw c.in-Some.is (tells_as (λ told. IsRefused told c.in-Some.name.now c.in-Err.fault) _ _ _ (λ told is. unread is) c.in-Err.ensures.fault)

pub returns-in-Ok-difference-clause-found : goal.returns-in-Ok-difference-clause-found
returns-in-Ok-difference-clause-found g c =
    let given = c.in-Ok.given in
    rw c.in-Some.is (tells_as (λ told. IsGiven told c.in-Some.name.now given.bytes given.list) _ _ _ (λ told is own means. record {
      bytes = given.bytes;
      header = given.list.header;
      entries = is.is.entries;
      told_is = is.told_is;
      names = is.is.named;
      name_is = refl;
      named_are = refl;
      are = all_lost c.args.held.now given.list.revocations _ own is.is.entries means is.is.means c.in-Ok-difference.ensures.holds;
    }) c.in-Ok.ensures.found)

pub returns-clause-fault : goal.returns-clause-fault
returns-clause-fault g c =
    let given = c.in-Ok.given in
    rw c.in-Some.is (tells_as (λ told. IsGiven told c.in-Some.name.now given.bytes given.list) _ _ _ (λ told is. ran_out given.bytes given.list is c.whole.ensures) c.in-Ok.ensures.found)
