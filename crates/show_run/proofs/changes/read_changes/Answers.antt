-- Both lists are read, or one is refused; or an allocation failed.
use Rattle.std.proofs.Common.{refl}
use Rattle.std.proofs.lemmas.Result.{err_from_is_err_and}
use Rattle.any_list.proofs.Telling.{tells_as, tells_then}
use Rattle.any_list.specs.List.{IsGiven, IsRefused}
use Rattle.show_run.specs.Changes.{AreCompared, IsUncompared, new_refused, old_refused, ran_out}
use Rattle.show_run.proofs.TwoReadings.{both_read}
use Rattle.show_run.proofs.changes.read_changes.Goals as goal

pub returns-in_err-before-clause-fault : goal.returns-in_err-before-clause-fault
returns-in_err-before-clause-fault g c =
    let p = err_from_is_err_and c.from_residual.result c.from_residual.ensures.1 in
    let old = c.args.old.now in
    let stop = c.in_err-before.field-0.0 in
    rw (p.1, p.2) (tells_as (λ told. IsRefused told old stop) (λ told. IsUncompared told old c.args.new.now stop) _ _ (λ told is. old_refused is) c.in_err-before.ensures.fault)

pub returns-in_err-after-clause-fault : goal.returns-in_err-after-clause-fault
returns-in_err-after-clause-fault g c =
    let p = err_from_is_err_and c.from_residual-in_err-after.result c.from_residual-in_err-after.ensures.1 in
    let old = c.args.old.now in
    let new = c.args.new.now in
    let before = c.in_ok-before.field-0 in
    let stop = c.in_err-after.field-0.0 in
    rw (p.1, p.2) (tells_then (λ told. IsGiven told old before.bytes before.list) (λ told. IsRefused told new stop) (λ told. IsUncompared told old new stop) _ _ _
    (λ first last is other. new_refused first last refl before.bytes before.list is other) c.in_ok-before.ensures.found c.in_err-after.ensures.fault)

pub returns-in-Ok-clause-found : goal.returns-in-Ok-clause-found
returns-in-Ok-clause-found g c =
    let old = c.args.old.now in
    let new = c.args.new.now in
    let before = c.in_ok-before.field-0 in
    let after = c.in_ok-after.field-0 in
    tells_then (λ told. IsGiven told old before.bytes before.list) (λ told. IsGiven told new after.bytes after.list) (λ told. AreCompared told old new c.in-Ok.changes) _ _ _
    (λ first last is other. record { before = before.list; after = after.list; read = both_read first last old new before.bytes after.bytes before.list after.list is other; are = c.in-Ok.ensures }) c.in_ok-before.ensures.found c.in_ok-after.ensures.found

pub returns-clause-fault : goal.returns-clause-fault
returns-clause-fault g c =
    let old = c.args.old.now in
    let new = c.args.new.now in
    let before = c.in_ok-before.field-0 in
    let after = c.in_ok-after.field-0 in
    let stop = c.whole.result in
    tells_then (λ told. IsGiven told old before.bytes before.list) (λ told. IsGiven told new after.bytes after.list) (λ told. IsUncompared told old new stop) _ _ _
    (λ first last is other. ran_out before.list after.list (both_read first last old new before.bytes after.bytes before.list after.list is other) c.whole.ensures) c.in_ok-before.ensures.found c.in_ok-after.ensures.found
