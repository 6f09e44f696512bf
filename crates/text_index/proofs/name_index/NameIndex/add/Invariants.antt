-- The names of the other facts are left.
use Rattle.krl_entries.specs.Facts.{facts_of}
use Rattle.text_index.proofs.FactNames.{AddsRest}
use Rattle.text_index.proofs.name_index.NameIndex.add.Given as goal

abbrev pub invariant-facts : goal.invariant-facts
invariant-facts l = AddsRest l.line (facts_of l.held) l.fact-iterator l.initial.self l.self
