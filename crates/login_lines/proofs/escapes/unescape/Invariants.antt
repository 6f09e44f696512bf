use Rattle.std.proofs.Common.{◌≡◌, ℕ, List, ◌++◌, length}
use Rattle.login_lines.specs.Escapes.{Escapes}
use Rattle.login_lines.proofs.escapes.unescape.Given as goal

-- what the rest spells follows the bytes so far, and nothing else does
abbrev pub invariant-loop-rest : goal.invariant-loop-rest
invariant-loop-rest l = record {
  spells : (more : List ℕ) → Escapes l.rest more → Escapes l.text (l.bytes.items ++ more);
  only : (all : List ℕ) → Escapes l.text all → (more : List ℕ) × Escapes l.rest more × (all ≡ l.bytes.items ++ more);
}

abbrev pub decreases-loop-rest : goal.decreases-loop-rest
decreases-loop-rest l = length l.rest
