-- The lines so far are appended.
use Rattle.std.proofs.Common.{◌≡◌, ◌++◌, flat_map, map, take}
use Rattle.text_index.specs.Indexing.{line_of}
use Rattle.audit_text.specs.Text.{entry_line}
use Rattle.audit_text.proofs.explained.push_lines.Given as goal

abbrev pub invariant-loop-line : goal.invariant-loop-line
invariant-loop-line l = l.text.items ≡ l.initial.text.items ++ flat_map entry_line (map line_of (take l.line-index l.lines))
