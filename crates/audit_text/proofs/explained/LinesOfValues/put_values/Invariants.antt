-- The lines so far are written.
use Rattle.std.proofs.Common.{◌≡◌, ◌++◌, map, take}
use Rattle.json_lines.specs.Field.{values_tokens}
use Rattle.text_index.specs.Indexing.{line_of}
use Rattle.audit_text.specs.Objects.{entry_value}
use Rattle.audit_text.proofs.explained.LinesOfValues.put_values.Given as goal

abbrev pub invariant-loop-line : goal.invariant-loop-line
invariant-loop-line l = l.out ≡ l.initial.out ++ values_tokens (map entry_value (map line_of (take l.line-index l.self.0.now)))
