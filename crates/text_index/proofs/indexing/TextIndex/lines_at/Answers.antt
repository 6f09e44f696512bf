-- The line with the number is added, if there is one.
use Rattle.std.proofs.Common.{◌≡◌, ◌∙◌, ◌++◌, Some, None, refl, sym, ap, length, slice_get, filter_map}
use Rattle.std.proofs.lemmas.Option.{slice_get_past, slice_get_read}
use Rattle.text_index.proofs.Explained.{line_there, no_line_there}
use Rattle.text_index.proofs.indexing.TextIndex.lines_at.Goals as goal

pub numbers-preserved-in-Continue-branch-2 : goal.numbers-preserved-in-Continue-branch-2
numbers-preserved-in-Continue-branch-2 c =
    let lookup = rw c.deref.ensures.value at c.in-Some-get.ensures.lookup in
    let is : slice_get c.args.self.now.lines.items c.in-Some.number ≡ Some c.in-Some-get.line.now =
    slice_get_read c.args.self.now.lines.items (length c.args.self.now.lines.items) c.in-Some.number c.in-Some-get.line.now refl lookup.3.0 lookup.1 in
    rw c.in_ok-push.ensures.items
    (line_there (slice_get c.args.self.now.lines.items) c.numbers.lines.items c.in-Some-get.line.now c.in-Some.number c.pop_first.new.self.keys is
    ∙ ap (λ numbers. c.numbers.lines.items ++ filter_map (slice_get c.args.self.now.lines.items) numbers) (sym c.in-Some.ensures.removal) ∙ c.numbers.invariant)

pub numbers-preserved : goal.numbers-preserved
numbers-preserved c =
    let lookup = rw c.deref.ensures.value at c.in_default-get.ensures.lookup in
    let is : slice_get c.args.self.now.lines.items c.in-Some.number ≡ None = slice_get_past c.args.self.now.lines.items c.in-Some.number lookup.3 in
    ap (λ lines. c.numbers.lines.items ++ lines)
    (no_line_there (slice_get c.args.self.now.lines.items) c.in-Some.number c.pop_first.new.self.keys is
    ∙ ap (filter_map (slice_get c.args.self.now.lines.items)) (sym c.in-Some.ensures.removal)) ∙ c.numbers.invariant
