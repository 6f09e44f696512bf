-- The lost names of the sections so far are added, and the others are left.
use Rattle.list_diff.proofs.Common.{flat_map, Lost, nothing, section_entries}
use Rattle.list_diff.proofs.Gains.{Owes}
use Rattle.list_diff.proofs.without.difference.Given as goal

abbrev pub invariant-loop-listed : goal.invariant-loop-listed
invariant-loop-listed g l = Owes nothing (Lost l.old (flat_map section_entries l.new.sections)) l.gone (Lost l.old (flat_map section_entries l.listed-iterator))
