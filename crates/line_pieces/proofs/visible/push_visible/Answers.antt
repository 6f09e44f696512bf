-- The text is UTF-8 or not.
use Rattle.std.proofs.Common.{sym, inl, inr}
use Rattle.std.proofs.lemmas.Bool.{cases_Bool}
use Rattle.std.proofs.lemmas.Str.{IsUtf8-from_is_utf8, is_utf8-from_IsUtf8}
use Rattle.std.specs.Str.{is_utf8}
use Rattle.line_pieces.specs.Visible.{visible}
use Rattle.line_pieces.proofs.visible.push_visible.Goals as goal

pub returns-in-Ok : goal.returns-in-Ok
unfolding visible
returns-in-Ok c = rw (is_utf8-from_IsUtf8 c.args.text.now c.in-Ok.ensures.cases.1, sym c.in-Ok.ensures.cases.0) c.push_chars.ensures

pub returns-in-Err : goal.returns-in-Err
unfolding visible
returns-in-Err c =
    elim (cases_Bool (is_utf8 c.args.text.now)) [
      | inl good ↦ absurd (c.in-Err.ensures.cases.0 (IsUtf8-from_is_utf8 c.args.text.now good))
      | inr other ↦ rw other c.push_bytes.ensures
    ]
