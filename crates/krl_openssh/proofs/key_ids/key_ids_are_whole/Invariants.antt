use Rattle.std.proofs.Common.{◌<◌, ◌^◌, ℕ, List, length}
use Rattle.krl_format.specs.Krl.{SpellsCertificates, SpellsSubsection, Subsection}
use Rattle.krl_openssh.specs.Comparable.{HasWholeIds}
use Rattle.krl_openssh.proofs.Walk.{Remains}
use Rattle.krl_openssh.proofs.key_ids.key_ids_are_whole.Given as goal

-- the subsections that are left are valid exactly if all are
abbrev pub invariant-loop-left : goal.invariant-loop-left
invariant-loop-left l = (authority : List ℕ) (subsections : List Subsection) → SpellsCertificates l.content authority subsections → length l.content < 2 ^ 32 → Remains SpellsSubsection HasWholeIds subsections l.left

abbrev pub decreases-loop-left : goal.decreases-loop-left
decreases-loop-left l = length l.left
