-- Serial numbers at the front of some bytes that are no topics.
use Rattle.krl_queries.proofs.Common.{◌%◌, ◌*◌, ◌+◌, ◌-◌, ◌∙◌, ◌≡◌, ap, arith, cases_lt, drop, inl}
use Rattle.krl_queries.proofs.Common.{inr, List, NoneHolds, number_of, serial_at, subst, sym, take}
use Rattle.krl_queries.proofs.Common.{ℕ}

-- one more serial number without the property
pub none_more : (Holds : ℕ → Type 0) (bytes : List ℕ) (at value : ℕ) → at % 8 ≡ 0 → value ≡ number_of (take (at + 8 - at) (drop at bytes)) → (Holds value → ⊥)
    → NoneHolds Holds bytes at → NoneHolds Holds bytes (at + 8)
none_more Holds bytes at value whole is other none k fits holds =
    elim (cases_lt (8 * k) at) [
      | inl below ↦ none k (omega (arith, below, whole)) holds
      | inr here ↦ (
          let same : 8 * k ≡ at = omega (arith, here, fits) in
          let eight : at + 8 - at ≡ 8 = omega arith in
          let value_is : serial_at bytes k ≡ value = ap (λ (n : ℕ). number_of (take 8 (drop n bytes))) same ∙ ap (λ (n : ℕ). number_of (take n (drop at bytes))) (sym eight) ∙ sym is in
          other (subst Holds value_is holds)
          )
    ]
