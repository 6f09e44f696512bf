-- The hashes of the keys that are asked about.
use Rattle.krl_queries.proofs.Common.{[], ◌↔◌, ◌∷◌, ◌≡◌, ◌⊎◌, ap, Bool, bytes_cmp, Contains}
use Rattle.krl_queries.proofs.Common.{HashesOf, inl, inr, is_at, IsTrue, List, list_any, Puts}
use Rattle.krl_queries.proofs.Common.{subst, sym, ℕ}
use Rattle.krl_entries.proofs.AddedSections.{put_held}
use Rattle.krl_entries.proofs.Sets.{set_has}
use Rattle.krl_types.proofs.Elements.{contains_cases, contains_here, contains_later}
use Rattle.krl_types.proofs.Elements.{contains_none}
use Rattle.std.proofs.Math.Logic.Iff as Iff

-- each key is hashed or left, and each hash is one of a key
pub record AreHashedSoFar (hash : List ℕ → List ℕ) (keys hashes left : List (List ℕ)) : Type 0 where
  pub all : (blob : List ℕ) → Contains keys blob → Contains hashes (hash blob) ⊎ Contains left blob
  pub only : (text : List ℕ) → Contains hashes text → (key : List ℕ) × (Contains keys key × (hash key ≡ text))
  pub left_in : (blob : List ℕ) → Contains left blob → Contains keys blob

pub none_hashed : (hash : List ℕ → List ℕ) (keys hashes left : List (List ℕ)) → left ≡ keys → hashes ≡ [] → AreHashedSoFar hash keys hashes left
none_hashed hash keys hashes left is none = record {
  all = λ blob h. inr (subst (λ (xs : List (List ℕ)). Contains xs blob) (sym is) h);
  only = λ text h. absurd (contains_none text (subst (λ (xs : List (List ℕ)). Contains xs text) none h));
  left_in = λ blob h. subst (λ (xs : List (List ℕ)). Contains xs blob) is h;
}

pub one_hashed : (hash : List ℕ → List ℕ) (keys old new left rest : List (List ℕ)) (key : List ℕ) → left ≡ key ∷ rest → Puts old (hash key) new → AreHashedSoFar hash keys old left
    → AreHashedSoFar hash keys new rest
one_hashed hash keys old new left rest key is put before =
    let held = λ (text : List ℕ). put_held old (hash key) new put text in
    let later = λ (blob : List ℕ) (h : Contains (key ∷ rest) blob). before.left_in blob (subst (λ (xs : List (List ℕ)). Contains xs blob) (sym is) h) in
    record {
      all = λ blob h.
          elim (before.all blob h) [
            | inl done ↦ inl ((held (hash blob)).1 (inl done))
            | inr left ↦ elim (contains_cases key blob rest (subst (λ (xs : List (List ℕ)). Contains xs blob) is left)) [
              | inl now ↦ inl ((held (hash blob)).1 (inr (ap hash now)))
              | inr then ↦ inr then
            ]
          ];
      only = λ text h.
          elim ((held text).0 h) [
            | inl was ↦ before.only text was
            | inr now ↦ (key, (later key (contains_here key rest), now))
          ];
      left_in = λ blob h. later blob (contains_later key blob rest h);
    }

pub all_hashed : (hash : List ℕ → List ℕ) (keys hashes left : List (List ℕ)) → left ≡ [] → AreHashedSoFar hash keys hashes left → HashesOf hash keys hashes
all_hashed hash keys hashes left is h = record {
  all = λ blob c.
      elim (h.all blob c) [
        | inl done ↦ done
        | inr more ↦ absurd (contains_none blob (subst (λ (xs : List (List ℕ)). Contains xs blob) is more))
      ];
  only = h.only;
}

-- a hash is found exactly if a key has it
pub hashed_has : (hash : List ℕ → List ℕ) (keys hashes : List (List ℕ)) (text : List ℕ) (b : Bool) → HashesOf hash keys hashes → b ≡ list_any (is_at (bytes_cmp text)) hashes
    → IsTrue b ↔ ((key : List ℕ) × (Contains keys key × (hash key ≡ text)))
hashed_has hash keys hashes text b made is =
    Iff.trans (set_has text hashes b is) (made.only text, λ h. subst (Contains hashes) h.1.1 (made.all h.0 h.1.0))
