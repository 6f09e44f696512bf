use Rattle.std.proofs.Common.{List, length}
use Rattle.krl_format.specs.Krl.{SpelledSection, Spells}
use Rattle.krl_format.specs.declared.header.Header.{Header}
use Rattle.krl_format.proofs.TableRows.{fields_at}
use Rattle.krl_openssh.proofs.Spelled.{Leaves}
use Rattle.krl_openssh.proofs.authorities.past_header.Given as goal

-- the other fields and the sections are left
abbrev pub invariant-loop-at : goal.invariant-loop-at
invariant-loop-at l = (header : Header) (sections : List SpelledSection) (spells : Spells l.list header sections) → Leaves l.at l.left spells.body

abbrev pub decreases-loop-at : goal.decreases-loop-at
decreases-loop-at l = length (fields_at l.at)
