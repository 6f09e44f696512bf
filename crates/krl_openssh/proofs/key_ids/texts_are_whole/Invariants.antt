use Rattle.std.proofs.Common.{◌≡◌, ◌<◌, ◌^◌, ℕ, List, length}
use Rattle.ssh_wire.specs.Wire.{strings}
use Rattle.krl_openssh.specs.Comparable.{IsWholeId}
use Rattle.krl_openssh.proofs.KeyIds.{SpellsText}
use Rattle.krl_openssh.proofs.Walk.{Remains}
use Rattle.krl_openssh.proofs.key_ids.texts_are_whole.Given as goal

-- the strings that are left are valid exactly if all are
abbrev pub invariant-loop-left : goal.invariant-loop-left
invariant-loop-left l = (texts : List (List ℕ)) → l.content ≡ strings texts → length l.content < 2 ^ 32 → Remains SpellsText IsWholeId texts l.left

abbrev pub decreases-loop-left : goal.decreases-loop-left
decreases-loop-left l = length l.left
