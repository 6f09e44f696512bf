-- A text without these bytes is its own text with escapes.
use Rattle.std.proofs.Common.{sym}
use Rattle.json_lines.proofs.Escaping.{untouched}
use Rattle.json_lines.proofs.escapes.without_controls.Goals as goal

pub returns-then-not-may_have_controls : goal.returns-then-not-may_have_controls
returns-then-not-may_have_controls c = untouched c.args.text.items (rw c.deref.ensures.value at (sym c.if-not-may_have_controls.ensures))
