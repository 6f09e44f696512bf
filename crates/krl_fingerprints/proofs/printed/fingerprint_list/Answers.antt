use Rattle.std.proofs.Common.{◌≡◌, All, List, subst, sym, rules}
use Rattle.std.proofs.lemmas.List.Elements.{All-head, All-tail}
use Rattle.krl_entries.specs.Facts.{Fact, fact_of, facts_of}
use Rattle.krl_fingerprints.specs.Facts.{IsFine}
use Rattle.krl_fingerprints.proofs.FineFacts.{facts_fine}
use Rattle.krl_fingerprints.proofs.Printing.{PrintsRest, all_printed, one_fact_less}
use Rattle.krl_fingerprints.proofs.printed.fingerprint_list.Goals as goal

pub facts-init : goal.facts-init
facts-init c =
    let all = facts_of c.args.list.now in
    let none = c.new-prints.result in
    let is : c.into_iter-fact-iterator.result ≡ all = search rules in
    record {
      adds = subst (λ (rest : List Fact). PrintsRest all rest none none) (sym is) (λ new more. more);
      fine = subst (All IsFine) (sym is) (facts_fine c.args.list.now c.in_order-list.ensures.orderly);
    }

pub add_fact-requires : goal.add_fact-requires
add_fact-requires c = All-head IsFine (fact_of c.in-Some.fact) c.next.new.self (subst (All IsFine) c.in-Some.ensures.steps c.facts.invariant.fine)

pub facts-preserved : goal.facts-preserved
facts-preserved c =
    let all = facts_of c.args.list.now in
    let none = c.new-prints.result in
    let fact = fact_of c.in-Some.fact in
    record {
      adds = one_fact_less all fact c.next.new.self none c.facts.prints c.add_fact.new.prints
          (subst (λ (rest : List Fact). PrintsRest all rest none c.facts.prints) c.in-Some.ensures.steps c.facts.invariant.adds) c.in_ok-add_fact.ensures;
      fine = All-tail IsFine fact c.next.new.self (subst (All IsFine) c.in-Some.ensures.steps c.facts.invariant.fine);
    }

pub returns : goal.returns
returns c =
    let all = facts_of c.args.list.now in
    let done = subst (λ (rest : List Fact). PrintsRest all rest c.new-prints.result c.facts.prints) c.in-None.ensures.steps.0 c.facts.invariant.adds in
    all_printed c.args.list.now c.facts.prints (rw c.new-prints.ensures.nothing at done)
