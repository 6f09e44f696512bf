-- The lines of the other numbers are left.
use Rattle.std.proofs.Common.{◌≡◌, ◌++◌, filter_map, length, slice_get}
use Rattle.text_index.proofs.indexing.TextIndex.lines_at.Given as goal

abbrev pub invariant-numbers : goal.invariant-numbers
invariant-numbers l =
    l.lines.items ++ filter_map (slice_get l.self.lines.items) l.found.keys ≡ filter_map (slice_get l.self.lines.items) l.initial.found.keys

abbrev pub decreases-numbers : goal.decreases-numbers
decreases-numbers l = length l.found.keys
