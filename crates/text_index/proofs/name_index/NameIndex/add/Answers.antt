-- Each fact adds its names.
use Rattle.std.proofs.Common.{List, ap, subst}
use Rattle.krl_entries.specs.Facts.{Fact, fact_of, facts_of}
use Rattle.krl_entries.specs.Tested.{some_names}
use Rattle.krl_entries.specs.Canonical.{entries_in}
use Rattle.text_index.proofs.AddedNames.{adds_nothing, adds_same}
use Rattle.krl_fingerprints.proofs.FactEntries.{entries_of, facts_are}
use Rattle.text_index.proofs.FactNames.{AddsRest, one_fact_less}
use Rattle.text_index.proofs.name_index.NameIndex.add.Goals as goal

pub facts-preserved : goal.facts-preserved
facts-preserved c =
    let all = facts_of c.args.held.now in
    one_fact_less c.args.line all (fact_of c.in-Some.fact) c.next.new.self c.args.self.now c.facts.self c.add_fact.new.self
    (subst (λ (rest : List Fact). AddsRest c.args.line all rest c.args.self.now c.facts.self) c.in-Some.ensures.steps c.facts.invariant) c.in_ok-add_fact.ensures

pub returns : goal.returns
returns c =
    let all = facts_of c.args.held.now in
    let done = subst (λ (rest : List Fact). AddsRest c.args.line all rest c.args.self.now c.facts.self) c.in-None.ensures.steps.0 c.facts.invariant in
    adds_same c.args.line (some_names (entries_of all)) (some_names (entries_in c.args.held.now)) c.args.self.now c.facts.self
    (λ name. ap (λ entries. some_names entries name) (facts_are c.args.held.now)) (done c.facts.self (adds_nothing c.args.line c.facts.self))
