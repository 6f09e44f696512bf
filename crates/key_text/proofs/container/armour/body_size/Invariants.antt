-- The lines so far have this size, and the others are left.
use Rattle.std.proofs.Common.{◌≡◌, ◌+◌, ◌≤◌, length, option_map}
use Rattle.key_text.specs.Armour.{body_of, lines_of}
use Rattle.key_text.proofs.container.armour.body_size.Given as goal

abbrev pub invariant-loop-after : goal.invariant-loop-after
invariant-loop-after l = record {
  counted : option_map length (body_of (lines_of l.fn.lines)) ≡ option_map (λ n. l.size + n) (option_map length (body_of (lines_of l.rest)));
  within : l.size + length l.rest ≤ length l.fn.lines;
}

abbrev pub decreases-loop-after : goal.decreases-loop-after
decreases-loop-after l = length l.rest
