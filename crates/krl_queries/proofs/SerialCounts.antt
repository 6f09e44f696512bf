-- How many serial numbers are held after a change.
use Rattle.krl_queries.proofs.Common.{◌+◌, ◌∷◌, ◌≡◌, ◌≤◌, ◌⊎◌, ap₂, arith, HoldsSerial, inl, inr}
use Rattle.krl_queries.proofs.Common.{IsOrderly, List, Revocations, serials_in, sum_by-cons, sym, ℕ}
use Rattle.krl_types.proofs.Equivalences.{contains_cons}
use Rattle.krl_queries.proofs.DistinctLists.{sum_within}
use Rattle.krl_queries.proofs.Serials.{count_serials, in_serials, once_serials, serials_of}

-- a change that adds no serial number does not increase their number
pub serials_stay : (old new : Revocations) → IsOrderly old → IsOrderly new → ((a : List ℕ) (s : ℕ) → HoldsSerial new.sections a s → HoldsSerial old.sections a s) → serials_in new.sections ≤ serials_in old.sections
serials_stay old new o n was =
    let least = sum_within (λ p. 1) (serials_of new.sections) (serials_of old.sections) (once_serials new n)
    (λ p h. (in_serials old o p.0 p.1).1 (was p.0 p.1 ((in_serials new n p.0 p.1).0 h))) in
    omega (arith, least, count_serials old.sections, count_serials new.sections)

-- a change that adds at most one serial number increases their number by at most one
pub serials_grow : (old new : Revocations) (b : List ℕ) (t : ℕ) → IsOrderly old → IsOrderly new → ((a : List ℕ) (s : ℕ) → HoldsSerial new.sections a s → HoldsSerial old.sections a s ⊎ ((a ≡ b) × (s ≡ t))) → serials_in new.sections ≤ serials_in old.sections + 1
serials_grow old new b t o n was =
    let least = sum_within (λ p. 1) (serials_of new.sections) ((b, t) ∷ serials_of old.sections) (once_serials new n)
    (λ p h. (contains_cons (b, t) (serials_of old.sections) p).1 (elim (was p.0 p.1 ((in_serials new n p.0 p.1).0 h)) [
      | inl held ↦ inr ((in_serials old o p.0 p.1).1 held)
      | inr same ↦ inl (ap₂ (λ a s. (a, s)) (sym same.0) (sym same.1))
    ])) in
    omega (arith, least, sum_by-cons (λ p. 1) (b, t) (serials_of old.sections), count_serials old.sections, count_serials new.sections)
