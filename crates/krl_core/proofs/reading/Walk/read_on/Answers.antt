use Rattle.krl_core.proofs.Progress.{advance_nearer}
use Rattle.krl_core.proofs.Lists.{list_of_whole, same_holds_within}
use Rattle.std.proofs.Common.{◌∙◌}
use Rattle.krl_core.proofs.WholeLists.{ends_after, leads_further, leads_on, whole_unfaulted}
use Rattle.krl_core.proofs.reading.Walk.read_on.Goals as goal

pub fields-init : goal.fields-init
fields-init g c = leads_on c.args.self c.requires

pub fields-smaller : goal.fields-smaller
fields-smaller g c = advance_nearer c.fields.walk c.read_fields.new.self (c.in-Ok-true.ensures.more c.in-Ok-true.field-0-test)

pub fields-preserved : goal.fields-preserved
fields-preserved g c =
    leads_further _ c.fields.walk c.read_fields.new.self c.fields.invariant (c.in-Ok-true.ensures.more c.in-Ok-true.field-0-test).leads

pub returns-in-Ok-false-clause-found : goal.returns-in-Ok-false-clause-found
returns-in-Ok-false-clause-found g c = λ text fields h.
    let ends = ends_after _ _ _ c.fields.invariant (c.in-Ok-false.ensures.ends c.in-Ok-false.field-0-test) in
    let whole = ends.whole text fields h in
    let list = c.end-header.ensures.whole text _ whole.1 in
    (list.0, list.1, list_of_whole _ text _ _ (same_holds_within _ text _) list.2)

pub returns-in-Ok-false-clause-scope : goal.returns-in-Ok-false-clause-scope
returns-in-Ok-false-clause-scope g c =
    c.end-header.ensures.scope ∙ (c.in-Ok-false.ensures.ends c.in-Ok-false.field-0-test).scope_is ∙ c.fields.invariant.scope_is

pub returns-in-Ok-false-clause-no_fault : goal.returns-in-Ok-false-clause-no_fault
returns-in-Ok-false-clause-no_fault g c = λ text fields h.
    let ends = ends_after _ _ _ c.fields.invariant (c.in-Ok-false.ensures.ends c.in-Ok-false.field-0-test) in
    let whole = ends.whole text fields h in
    whole_unfaulted _ text _ _ (c.end-header.ensures.whole text _ whole.1).2

pub returns-in-Err-clause-fault : goal.returns-in-Err-clause-fault
returns-in-Err-clause-fault g c = λ text fields h.
    let one = c.fields.invariant.reads text fields h in
    rw (c.into_reader.ensures.left, c.into_reader.ensures.failed) (c.in-Err.ensures.fault.says text _ one.1)
