use Rattle.std.proofs.Common.{◌≡◌, None, arith}
use Rattle.krl_core.proofs.Progress.{stops_again}
use Rattle.krl_core.proofs.ListEnds.{ends_before}
use Rattle.krl_core.proofs.WholeLists.{ends_after, leads_further, leads_on, leads_one, step_nearer}
use Rattle.krl_core.proofs.reading.Walk.read_to.Goals as goal

pub fields-init : goal.fields-init
fields-init g c =
    let none : c.self.inside.fault ≡ None = c.in_default.is in
    (rw (← c.self.view_is) (leads_on _ none), rw (← c.self.view_is) (c.self.invariant.works none), rw (← c.self.view_is) c.self.invariant.bounded, λ le. le)

pub returns-then-self-clause-ends : goal.returns-then-self-clause-ends
returns-then-self-clause-ends g c = rw (← c.self.view_is) (λ _. ends_before _ c.self.invariant c.if-self.true)

pub returns-in-Some-clause-fault : goal.returns-in-Some-clause-fault
returns-in-Some-clause-fault g c = rw (← c.self.view_is) (stops_again _ _ c.in-Some.is)

pub fields-smaller : goal.fields-smaller
fields-smaller g c = step_nearer c.fields.self c.step.new.self (c.in-Ok-true.ensures.more c.in-Ok-true.field-0-test)

pub fields-preserved : goal.fields-preserved
fields-preserved g c =
    let ok = c.in-Ok-true.ensures in
    let follows = ok.more c.in-Ok-true.field-0-test in (
      leads_further _ c.fields.self c.step.new.self c.fields.invariant.0 (leads_one c.fields.self c.step.new.self follows),
      follows.works,
      ok.bounds,
      λ le. let size = follows.passes.whole in omega (arith, size, follows.taken, c.taken_with_next.ensures, c.fields-test.true),
    )

pub returns-in-Ok-false-clause-ends : goal.returns-in-Ok-false-clause-ends
returns-in-Ok-false-clause-ends g c = λ off. ends_after _ c.fields.self c.step.new.self c.fields.invariant.0 (c.in-Ok-false.ensures.ends c.in-Ok-false.field-0-test)

pub returns-in-Err-clause-fault : goal.returns-in-Err-clause-fault
returns-in-Err-clause-fault g c =
    let stops = c.in-Err.ensures.fault in
    let faultless = c.fields.invariant.0.faultless in record {
      says = λ text fields h. let one = c.fields.invariant.0.reads text fields h in stops.says text _ one.1;
      failure = λ _. stops.failure faultless;
      stays = stops.stays;
    }
