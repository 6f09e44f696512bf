-- The lines so far are joined, and the others are left.
use Rattle.std.proofs.Common.{◌≡◌, ◌++◌, length, option_map}
use Rattle.key_text.specs.Armour.{body_of, lines_of}
use Rattle.key_text.proofs.container.armour.joined.Given as goal

abbrev pub invariant-loop-after : goal.invariant-loop-after
invariant-loop-after l = body_of (lines_of l.fn.lines) ≡ option_map (λ others. l.body.items ++ others) (body_of (lines_of l.rest))

abbrev pub decreases-loop-after : goal.decreases-loop-after
decreases-loop-after l = length l.rest
