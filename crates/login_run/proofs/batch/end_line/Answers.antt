-- The line is kept as a whole, and its finding is told; or it is too long, or shows a format.
use Rattle.std.proofs.Common.{◌≡◌, ◌++◌, ◌∷◌, ◌∙◌, [], None, Option, ap, sym}
use Rattle.std.proofs.lemmas.Result.{err_from_is_err_and}
use Rattle.login_run.specs.Finding.{next_number}
use Rattle.login_run.specs.Packed.{packed_at}
use Rattle.login_run.specs.declared.batch.Stop.{Stop}
use Rattle.login_run.proofs.Lines.{line_as, lines_as, lines_err}
use Rattle.login_run.proofs.batch.end_line.Goals as goal

pub returns-in_err-say_line : goal.returns-in_err-say_line
returns-in_err-say_line g c =
    let p = err_from_is_err_and c.from_residual-in_err-say_line.result c.from_residual-in_err-say_line.ensures.1 in
    let begun = rw c.in_default.is at c.in_ok-stop.ensures in
    let numbered = c.saturating_add-number.ensures ∙ ap next_number begun.1 in
    let tells = line_as c.args.name.now c.args.start.now.number c.saturating_add-number.result (c.args.start.now.front.items ++ c.args.part.now) c.as_slice-2.result.now _ _ _ numbered (c.as_slice-2.ensures.value ∙ begun.0) c.in_err-say_line.ensures in
    rw (p.1, p.2) (record { after = tt; tells = lines_err {W = g.row.W.Denot} {A = Unit {0}} {B = Option Stop} c.args.name.now c.args.start.now.number ((c.args.start.now.front.items ++ c.args.part.now) ∷ []) _ _ _ tells })

pub returns : goal.returns
returns g c =
    let begun = rw c.in_default.is at c.in_ok-stop.ensures in
    let numbered = c.saturating_add-number.ensures ∙ ap next_number begun.1 in
    let line = c.as_slice.ensures.value ∙ begun.0 in
    let shows : packed_at c.args.start.now.number (c.args.start.now.front.items ++ c.args.part.now) ≡ None = rw (← begun.1, ← line) (sym c.packed_at.ensures ∙ c.in_default-packed_at.is) in
    let tells = line_as c.args.name.now c.args.start.now.number c.saturating_add-number.result (c.args.start.now.front.items ++ c.args.part.now) c.as_slice-2.result.now _ _ _ numbered (c.as_slice-2.ensures.value ∙ begun.0) c.in_ok-say_line.ensures in
    record {
      after = (shows, (c.clear.ensures.items, numbered));
      tells = lines_as c.args.name.now c.args.start.now.number ((c.args.start.now.front.items ++ c.args.part.now) ∷ []) (tt {0}) None _ _ tells;
    }
