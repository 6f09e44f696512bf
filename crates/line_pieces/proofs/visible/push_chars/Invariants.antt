-- The characters so far are appended.
use Rattle.std.proofs.Common.{◌≡◌, ◌++◌}
use Rattle.std.specs.List.{flat_map}
use Rattle.line_pieces.specs.Visible.{visible_char}
use Rattle.line_pieces.proofs.visible.push_chars.Given as goal

abbrev pub invariant-loop-character : goal.invariant-loop-character
invariant-loop-character l = l.out.items ≡ l.initial.out.items ++ flat_map (visible_char l.quoted) l.yielded
