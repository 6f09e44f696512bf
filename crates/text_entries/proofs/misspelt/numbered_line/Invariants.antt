-- The line is that of the rest which is as many lines further on.
use Rattle.std.proofs.Common.{◌≡◌}
use Rattle.std.specs.List.{slice_get, slice_split}
use Rattle.key_text.specs.Lines.{is_newline}
use Rattle.text_entries.specs.Misspelt.{numbered_line}
use Rattle.text_entries.proofs.misspelt.numbered_line.Given as goal

abbrev pub invariant-lines : goal.invariant-lines
invariant-lines l = slice_get (slice_split is_newline l.rest) l.left ≡ numbered_line l.fn.text l.fn.number

abbrev pub decreases-lines : goal.decreases-lines
decreases-lines l = l.left
