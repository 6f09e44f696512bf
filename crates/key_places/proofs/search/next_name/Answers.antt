use Rattle.std.proofs.Common.{◌+◌, length, arith, inl, inr}
use Rattle.std.proofs.lemmas.Bool.{cases_lt}
use Rattle.key_places.proofs.SearchLaws.{behind, hyphen_at, length-behind, no_hyphen, none_before, none_behind}
use Rattle.key_places.proofs.SearchLaws.{none_up_to}
use Rattle.key_places.proofs.search.next_name.Goals as goal

pub returns-in-Some-name_before-clause-skipped : goal.returns-in-Some-name_before-clause-skipped
returns-in-Some-name_before-clause-skipped c =
    let line = c.args.line.now in
    let from = c.hyphens.at in
    let clear = no_hyphen line from c.in-Some.gap c.in-Some.ensures.0.before in
    λ at low high. elim (cases_lt at from) [
      | inl lt ↦ c.hyphens.invariant.none at low lt
      | inr le ↦ none_before line from (from + c.in-Some.gap) c.max-first.result c.in-Some-name_before.start clear
          (omega arith)
          c.in-Some-name_before.ensures.skipped (omega (arith, c.in-Some-name_before.ensures.within.1)) at le high
    ]

pub hyphens-preserved : goal.hyphens-preserved
hyphens-preserved c =
    let line = c.args.line.now in
    let from = c.hyphens.at in
    let clear = no_hyphen line from c.in-Some.gap c.in-Some.ensures.0.before in
    let here = hyphen_at line from c.in-Some.gap c.in-Some.ensures.1 in
    record {
      low = omega (arith, c.hyphens.invariant.low);
      high = omega (arith, c.in-Some.ensures.0.high, length-behind line from);
      none = λ at low high. elim (cases_lt at from) [
        | inl lt ↦ c.hyphens.invariant.none at low lt
        | inr le ↦ none_up_to line from (from + c.in-Some.gap) c.max-first.result clear here
            (omega arith) c.in_default-name_before.ensures.skipped at le high
      ];
    }

pub returns-clause-skipped : goal.returns-clause-skipped
returns-clause-skipped c =
    let line = c.args.line.now in
    let from = c.hyphens.at in
    let size = length-behind line from in
    let clear = no_hyphen line from (length (behind line from)) c.in_default.ensures in
    λ at low high. elim (cases_lt at from) [
      | inl lt ↦ c.hyphens.invariant.none at low lt
      | inr le ↦ none_behind line from (λ k above below. clear k above (omega arith)) at le high
    ]
