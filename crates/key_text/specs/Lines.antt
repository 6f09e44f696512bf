-- The lines of a text.
use Rattle.std.specs.Prelude.{ℕ, ◌==◌, Bool, List, [], Option, Some, None}
use Rattle.std.specs.Borrow.{Bor}
use Rattle.std.specs.List.{slice_split}
use Rattle.ssh_wire.specs.Ascii.{line_feed}

abbrev pub is_newline : ℕ → Bool
is_newline byte = byte == line_feed

-- the lines of the rest, if a line is left
abbrev pub lines_left : Option (Bor (List ℕ)) → List (List ℕ)
lines_left None = []
lines_left (Some text) = slice_split is_newline text.now
