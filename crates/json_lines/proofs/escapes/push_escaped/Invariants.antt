-- The bytes written so far and those still to be written are the whole text with its escapes.
use Rattle.std.proofs.Common.{◌≡◌, ◌++◌, drop}
use Rattle.json_lines.specs.Controls.{escaped_from}
use Rattle.json_lines.specs.declared.escapes.Held.TheVariants as held
use Rattle.json_lines.proofs.escapes.push_escaped.Given as goal

abbrev pub invariant-loop-byte : goal.invariant-loop-byte
invariant-loop-byte l = l.out.items ++ escaped_from l.held (drop l.byte-index l.text) ≡ l.initial.out.items ++ escaped_from held.Nothing l.text
