use Rattle.krl_core.proofs.Common.{flat_map}
use Rattle.krl_entries.specs.Canonical.{section_entries}
use Rattle.krl_core.proofs.GainedEntries.{IsGained}
use Rattle.krl_core.proofs.field_store.FieldStore.add_all.Given as goal

-- the sections so far were added, and the others are left
abbrev pub invariant-loop-section : goal.invariant-loop-section
invariant-loop-section g l = IsGained (flat_map section_entries) l.front.sections l.section-iterator l.fn.self l.self
