use Rattle.std.proofs.Common.{◌≡◌, ℕ, arith, subst}
use Rattle.krl_plan.proofs.CostTable.{Planned, Planned-all, Planned-more, Planned-start, choice_fits}
use Rattle.krl_plan.proofs.table.Table.plan.Goals as goal

pub loop-left-init : goal.loop-left-init
loop-left-init c = record { within = omega arith; planned = Planned-start c.args.self.now.choices.items _ c.len-left.result c.new-plan.ensures.items (omega arith) }

pub overflow_sub-left-in-loop-left : goal.overflow_sub-left-in-loop-left
overflow_sub-left-in-loop-left c =
    rw c.group-group.ensures (choice_fits c.args.self.now.choices.items c.requires.known.0 c.loop-left.left c.index.result.now c.requires.known.1.1.1.1.choices c.index.ensures (omega arith) c.loop-left.invariant.within).1

pub loop-left-smaller : goal.loop-left-smaller
loop-left-smaller c =
    let fits = choice_fits c.args.self.now.choices.items c.requires.known.0 c.loop-left.left c.index.result.now c.requires.known.1.1.1.1.choices c.index.ensures (omega arith) c.loop-left.invariant.within in
    rw c.group-group.ensures (omega arith)

pub loop-left-preserved : goal.loop-left-preserved
loop-left-preserved c =
    let choices = c.args.self.now.choices.items in
    let within = c.loop-left.invariant.within in
    let fits = choice_fits choices c.requires.known.0 c.loop-left.left c.index.result.now c.requires.known.1.1.1.1.choices c.index.ensures (omega arith) within in
    record {
      within = rw c.group-group.ensures (omega arith);
      planned = rw (c.in_ok-push.ensures.items, c.group-group.ensures) (Planned-more choices c.loop-left.plan.items c.loop-left.left c.index.result.now c.index.ensures (omega arith) within fits.1 c.loop-left.invariant.planned);
    }

pub returns : goal.returns
returns c runs known =
    let none : c.loop-left.left ≡ 0 = omega arith in
    Planned-all c.args.self.now.choices.items c.loop-left.plan.items runs
    (subst (λ (n : ℕ). Planned c.args.self.now.choices.items c.loop-left.plan.items n) none c.loop-left.invariant.planned) known.1.1.1.choices
