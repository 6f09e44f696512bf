use Rattle.std.proofs.Common.{List, length}
use Rattle.krl_format.specs.Krl.{SpelledSection, Spells, SpellsSection}
use Rattle.krl_format.specs.declared.header.Header.{Header}
use Rattle.krl_openssh.specs.Comparable.{IsFine}
use Rattle.krl_openssh.proofs.Walk.{Remains}
use Rattle.krl_openssh.proofs.authorities.are_fine.Given as goal

-- the sections that are left are valid exactly if all sections are
abbrev pub invariant-loop-left : goal.invariant-loop-left
invariant-loop-left l = (header : Header) (sections : List SpelledSection) → Spells l.list header sections → Remains SpellsSection (IsFine l.why) sections l.left

abbrev pub decreases-loop-left : goal.decreases-loop-left
decreases-loop-left l = length l.left
