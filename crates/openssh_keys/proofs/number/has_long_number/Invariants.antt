use Rattle.std.proofs.Common.{◌≡◌, ◌-◌}
use Rattle.openssh_keys.specs.Judgement.{has_long_number}
use Rattle.openssh_keys.proofs.number.has_long_number.Given as goal

-- The numbers that are left decide.
abbrev pub invariant-loop-i : goal.invariant-loop-i
invariant-loop-i l =
    has_long_number (l.count - l.i) l.cursor ≡ has_long_number l.fn.count l.fn.fields
