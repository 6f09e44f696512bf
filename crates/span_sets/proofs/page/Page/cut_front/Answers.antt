use Rattle.span_sets.proofs.Common.{◌∙◌, ap, arith, end_of, length, length-drop, sym}
use Rattle.span_sets.proofs.ChunkOrder.{end_drop}
use Rattle.span_sets.proofs.page.Page.cut_front.Goals as goal

pub invariant_of-self-clause-some : goal.invariant_of-self-clause-some
invariant_of-self-clause-some c =
    omega (arith, ap length c.remove.ensures, length-drop c.args.count c.args.self.now.items.items)

pub invariant_of-self-clause-most : goal.invariant_of-self-clause-most
invariant_of-self-clause-most c =
    let page = c.args.self.now in
    omega (arith, page.most, ap length c.remove.ensures, length-drop c.args.count page.items.items)

pub invariant_of-self-clause-ending : goal.invariant_of-self-clause-ending
invariant_of-self-clause-ending c =
    let page = c.args.self.now in
    page.ending ∙ sym (end_drop page.items.items c.args.count c.requires) ∙ ap end_of (sym c.remove.ensures)
