use Rattle.std.proofs.Common.{◌≡◌, ℕ, List, false, Option, Some, None, is_some, option_map, refl, sym, ap, subst, ◌∙◌}
use Rattle.std.proofs.Common.{arith, inl, inr}
use Rattle.std.proofs.lemmas.Bool.{cases_lt}
use Rattle.std.proofs.lemmas.List.{take_rest}
use Rattle.std.specs.Borrow.{Bor}
use Rattle.key_places.specs.Name.{name_at, parts}
use Rattle.key_places.specs.Reading.{place_at}
use Rattle.key_places.proofs.SearchLaws.{none_unless_begins, none_unless_named}
use Rattle.key_places.proofs.search.name_before.Goals as goal
use Rattle.key_places.proofs.search.name_before.Goals.{else-may_begin-via-then-may_begin+else-is_some}
use Rattle.key_places.proofs.search.name_before.Goals.{else-may_begin-via-else-may_begin}

none_mapped : (named : Option (Bor (List ℕ) × Bor (List ℕ))) → is_some named ≡ false → option_map parts named ≡ None
none_mapped None none = refl
none_mapped (Some p) none = absurd cc

pub loop-start-preserved : goal.loop-start-preserved
loop-start-preserved c =
    let line = c.args.line.now in
    let start = c.loop-start.start in
    let here : place_at line start ≡ None = elim c.else-may_begin.branch [
      | else-may_begin-via-then-may_begin+else-is_some w ↦
          let named =
          sym w.split_name.ensures ∙ none_mapped w.split_name.result (sym w.is_some.ensures ∙ w.if-is_some.false) in
          none_unless_named line start (ap name_at (sym (take_rest line start)) ∙ named)
      | else-may_begin-via-else-may_begin w ↦
          none_unless_begins line start (sym c.may_begin.ensures ∙ w.if-may_begin.false)
    ] in
    λ at low high. elim (cases_lt at start) [
      | inl lt ↦ c.loop-start.invariant at low lt
      | inr le ↦ let same : start ≡ at = omega arith in subst (λ (k : ℕ). place_at line k ≡ None) same here
    ]
