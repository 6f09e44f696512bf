-- Byte strings in a set of the standard library, which are its keys or are read from them.
use Rattle.krl_entries.proofs.Common.{[], ◌++◌, ◌||◌, ◌↔◌, ◌∙◌, ◌∷◌, ◌≡◌, ◌⊎◌, AllByRecursion, ap}
use Rattle.krl_entries.proofs.Common.{Bool, bytes_cmp, Contains, Equal, exact_bytes, false≢true}
use Rattle.krl_entries.proofs.Common.{Greater, inl, inr, insert_key, is_at, is_eq}
use Rattle.krl_entries.proofs.Common.{IsStrictlySortedBy, IsTrue, Less, List, list_any, map}
use Rattle.krl_entries.proofs.Common.{match_ordering, Ordering, Puts, refl, Rises, subst, sym, ℕ}
use Rattle.std.proofs.lemmas.Bool.Decides.{Decides-or}
use Rattle.krl_types.proofs.Equivalences.{contains_cons}
use Rattle.krl_entries.proofs.RisingLists.{back_above, front_below, tied}
use Rattle.krl_types.proofs.Elements.{contains_here, contains_later, contains_none}
use Rattle.std.proofs.Math.Logic.Iff as Iff

pub rises_sorted : (ks : List (List ℕ)) → IsStrictlySortedBy bytes_cmp ks → Rises ks
unfolding IsStrictlySortedBy
rises_sorted [] h = tt
rises_sorted (k ∷ ks) h = (h.0, rises_sorted ks h.1)

-- ---- one more

record Splits (k : List ℕ) (old new : List (List ℕ)) : Type 0 where
  front : List (List ℕ)
  back : List (List ℕ)
  before : old ≡ front ++ back
  after : new ≡ front ++ k ∷ back

abbrev Entered : (k : List ℕ) (old new : List (List ℕ)) → Type 0
Entered k old new = ((new ≡ old) × Contains old k) ⊎ Splits k old new

entered : (k : List ℕ) (ks : List (List ℕ)) → Entered k ks (insert_key bytes_cmp ks k)
entered k [] = inr (record { front = []; back = []; before = refl; after = refl })
entered k (x ∷ ks) = by (bytes_cmp k x) refl (entered k ks)
  where
    by : (o : Ordering) → bytes_cmp k x ≡ o → Entered k ks (insert_key bytes_cmp ks k)
        → Entered k (x ∷ ks) (match_ordering o (k ∷ x ∷ ks) (x ∷ ks) (x ∷ insert_key bytes_cmp ks k))
    by Less e h = inr (record { front = []; back = x ∷ ks; before = refl; after = refl })
    by Equal e h = inl (refl, subst (Contains (x ∷ ks)) (sym (exact_bytes k x e)) (contains_here x ks))
    by Greater e h =
        elim h [
          | inl there ↦ inl (ap (λ l. x ∷ l) there.0, contains_later x k ks there.1)
          | inr s ↦ inr (record { front = x ∷ s.front; back = s.back; before = ap (λ l. x ∷ l) s.before; after = ap (λ l. x ∷ l) s.after })
        ]

pub set_puts : (k : List ℕ) (old new : List (List ℕ)) → new ≡ insert_key bytes_cmp old k → IsStrictlySortedBy bytes_cmp new → Puts old k new
set_puts k old new is sorted =
    elim (subst (Entered k old) (sym is) (entered k old)) [
      | inl there ↦ inl there
      | inr s ↦ (let rises = subst Rises s.after (rises_sorted new sorted) in
          inr (record {
            front = s.front;
            back = s.back;
            before = s.before;
            after = s.after;
            below = front_below (λ bytes. bytes) s.front k s.back rises;
            above = back_above (λ bytes. bytes) s.front k s.back rises;
          }))
    ]

-- ---- whether there is one

at_decides : (k x : List ℕ) → IsTrue (is_at (bytes_cmp k) x) ↔ (x ≡ k)
at_decides k x = (by (bytes_cmp k x) refl, λ same. ap is_eq (tied k x same))
  where
    by : (o : Ordering) → bytes_cmp k x ≡ o → IsTrue (is_eq o) → x ≡ k
    by Equal e h = sym (exact_bytes k x e)
    by Less e h = absurd (false≢true h)
    by Greater e h = absurd (false≢true h)

any_listed : (k : List ℕ) (ks : List (List ℕ)) → IsTrue (list_any (is_at (bytes_cmp k)) ks) ↔ Contains ks k
any_listed k [] = (λ h. absurd (false≢true h), λ m. absurd (contains_none k m))
any_listed k (x ∷ ks) =
    Iff.trans (Decides-or (is_at (bytes_cmp k) x) (list_any (is_at (bytes_cmp k)) ks) (at_decides k x) (any_listed k ks)) (Iff.symm (contains_cons x ks k))

pub set_has : (k : List ℕ) (ks : List (List ℕ)) (b : Bool) → b ≡ list_any (is_at (bytes_cmp k)) ks → IsTrue b ↔ Contains ks k
set_has k ks b is = subst (λ (x : Bool). IsTrue x ↔ Contains ks k) (sym is) (any_listed k ks)

-- ---- byte strings that are read from the keys

module _ {K : Type 0} (read : K → List ℕ) where
  abbrev pub by_read : K → K → Ordering
  by_read x y = bytes_cmp (read x) (read y)

  all_read : (k : List ℕ) (ks : List K) → AllByRecursion (λ y. bytes_cmp k (read y) ≡ Less) ks → AllByRecursion (λ y. bytes_cmp k y ≡ Less) (map read ks)
  all_read k [] h = tt
  all_read k (x ∷ ks) h = (h.0, all_read k ks h.1)

  pub read_sorted : (ks : List K) → IsStrictlySortedBy by_read ks → IsStrictlySortedBy bytes_cmp (map read ks)
  unfolding IsStrictlySortedBy
  read_sorted [] h = tt
  read_sorted (k ∷ ks) h = (all_read (read k) ks h.0, read_sorted ks h.1)

  read_insert : (ks : List K) (k : K) → map read (insert_key by_read ks k) ≡ insert_key bytes_cmp (map read ks) (read k)
  read_insert [] k = refl
  read_insert (x ∷ ks) k = by (bytes_cmp (read k) (read x)) (read_insert ks k)
    where
      by : (o : Ordering) → map read (insert_key by_read ks k) ≡ insert_key bytes_cmp (map read ks) (read k)
          → map read (match_ordering o (k ∷ x ∷ ks) (x ∷ ks) (x ∷ insert_key by_read ks k))
          ≡ match_ordering o (read k ∷ read x ∷ map read ks) (read x ∷ map read ks) (read x ∷ insert_key bytes_cmp (map read ks) (read k))
      by Less h = refl
      by Equal h = refl
      by Greater h = ap (λ l. read x ∷ l) h

  read_any : (k : List ℕ) (ks : List K) → list_any (is_at (λ x. bytes_cmp k (read x))) ks ≡ list_any (is_at (bytes_cmp k)) (map read ks)
  read_any k [] = refl
  read_any k (x ∷ ks) = ap (λ b. is_at (bytes_cmp k) (read x) || b) (read_any k ks)

  pub read_puts : (k : K) (old new : List K) → new ≡ insert_key by_read old k → IsStrictlySortedBy by_read new → Puts (map read old) (read k) (map read new)
  read_puts k old new is sorted = set_puts (read k) (map read old) (map read new) (ap (map read) is ∙ read_insert old k) (read_sorted new sorted)

  pub read_has : (k : List ℕ) (ks : List K) (b : Bool) → b ≡ list_any (is_at (λ x. bytes_cmp k (read x))) ks → IsTrue b ↔ Contains (map read ks) k
  read_has k ks b is = set_has k (map read ks) b (is ∙ read_any k ks)
