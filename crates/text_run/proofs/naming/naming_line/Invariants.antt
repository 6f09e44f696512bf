-- None of the lines so far gives such a name.
use Rattle.std.proofs.Common.{◌≡◌, ◌+◌, ◌≤◌, length}
use Rattle.std.specs.List.{slice_split}
use Rattle.key_text.specs.Lines.{is_newline}
use Rattle.text_run.specs.Naming.{bytes_naming, is_sought, lines_naming}
use Rattle.text_run.proofs.naming.naming_line.Given as goal

abbrev pub invariant-lines : goal.invariant-lines
invariant-lines l = record {
  left : bytes_naming (is_sought l.fn.is_exact l.fn.name) l.fn.text l.fn.bytes
      ≡ lines_naming (is_sought l.fn.is_exact l.fn.name) l.fn.text (l.passed + 1) (slice_split is_newline l.rest);
  counted : l.passed + length l.rest ≤ length l.fn.bytes;
}

abbrev pub decreases-lines : goal.decreases-lines
decreases-lines l = length l.rest
