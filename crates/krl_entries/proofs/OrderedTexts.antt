-- A few byte strings in order.
use Rattle.krl_entries.proofs.Common.{[], ◌+◌, ◌<◌, ◌↔◌, ◌∙◌, ◌∷◌, ◌≡◌, ◌≤◌, AllAbove}
use Rattle.krl_entries.proofs.Common.{AllByRecursion, AllWithin, AllZip, ap, arith, BTreeSet}
use Rattle.krl_entries.proofs.Common.{bytes_cmp, bytes_of, Contains, contains, drop, Err}
use Rattle.krl_entries.proofs.Common.{exact_bytes, false, get_or, GoesTo, HoldsAt, inl, inr, insert}
use Rattle.krl_entries.proofs.Common.{Inserts, is_lt, IsBinarySearchResult, IsFromIterResult}
use Rattle.krl_entries.proofs.Common.{IsSearchInRange, IsSortedBy, length, Less, List, map, map-id}
use Rattle.krl_entries.proofs.Common.{MatchOption, nat_list_cmp_total, Ok, ordering_reverse, Puts}
use Rattle.krl_entries.proofs.Common.{refl, Result, Rises, RisesBy, subst, suc, sym, take}
use Rattle.krl_entries.proofs.Common.{take-append-drop, texts_of, vec_len, zero, ℕ}
use Rattle.std.specs.Result.{result_err}
use Rattle.std.proofs.lemmas.List.Sorted.{searchable_from_sorted}
use Rattle.std.proofs.lemmas.Slice.Zip.{AllZip-map}
use Rattle.std.specs.Global.{Vec}
use Rattle.krl_entries.proofs.OneMeaning.{same_texts}
use Rattle.krl_entries.proofs.RisingLists.{inserts_map, inserts_rise, turned}
use Rattle.krl_entries.proofs.Sets.{by_read, read_has, read_sorted, rises_sorted}
use Rattle.krl_entries.proofs.Members.{absent_parts}
use Rattle.krl_types.proofs.Elements.{contains_cases, contains_here, contains_later}
use Rattle.krl_types.proofs.Elements.{contains_none}
use Rattle.std.proofs.Math.Logic.Iff as Iff

-- ---- the place of a byte string

sorted : (texts : List (Vec ℕ)) → RisesBy bytes_of texts → IsSortedBy (λ a b. is_lt (bytes_cmp (bytes_of a) (bytes_of b))) texts
sorted [] r k d low h = absurd (omega arith)
sorted (x ∷ []) r k d low h = absurd (omega arith)
sorted (x ∷ (y ∷ ys)) r zero d low h = ap is_lt (nat_list_cmp_total.antisymm (bytes_of y) (bytes_of x) ∙ ap ordering_reverse r.0.0)
sorted (x ∷ (y ∷ ys)) r (suc k) d low h =
    subst (λ n. is_lt (bytes_cmp (bytes_of (get_or (x ∷ (y ∷ ys)) n d)) (bytes_of (get_or (y ∷ ys) k d))) ≡ false) {x = suc (k + 1)} (omega arith) (sorted (y ∷ ys) r.1 k d (omega arith) (omega arith))

contained : (texts : List (Vec ℕ)) (at : ℕ) (id : List ℕ) → at < length texts → HoldsAt (λ t. bytes_of t ≡ id) texts at → Contains (texts_of texts) id
contained [] at id h same = absurd (omega arith)
contained (x ∷ xs) zero id h same = subst (Contains (bytes_of x ∷ texts_of xs)) (same x) (contains_here (bytes_of x) (texts_of xs))
contained (x ∷ xs) (suc at) id h same = contains_later (bytes_of x) id (texts_of xs) (contained xs at id (omega arith) same)

module _ {X : Type 0} (P : X → Type 0) where
  all_before : (xs : List X) (at : ℕ) → at ≤ length xs → AllWithin P xs 0 at → AllByRecursion P (take at xs)
  all_before xs zero h all = tt
  all_before [] (suc at) h all = absurd (omega arith)
  all_before (x ∷ xs) (suc at) h all = (all 0 x (omega arith) (omega arith), all_before xs at (omega arith) (λ k d low lt. all (suc k) d (omega arith) (omega arith)))

  all_after : (xs : List X) (at : ℕ) → AllWithin P xs at (length xs) → AllByRecursion P (drop at xs)
  all_after [] zero all = tt
  all_after [] (suc at) all = tt
  all_after (x ∷ xs) zero all = (all 0 x (omega arith) (omega arith), all_after xs zero (λ k d low lt. all (suc k) d (omega arith) (omega arith)))
  all_after (x ∷ xs) (suc at) all = all_after xs at (λ k d low lt. all (suc k) d (omega arith) (omega arith))

-- a binary search ends at the byte string, or at the index where it belongs
pub searched : (texts : List (Vec ℕ)) (id : List ℕ) (r : Result ℕ ℕ) → RisesBy bytes_of texts → IsSearchInRange r (length texts) → IsBinarySearchResult (λ t. bytes_cmp (bytes_of t) id) texts r
    → MatchOption (result_err r) (Contains (texts_of texts) id) (λ at. GoesTo at id texts)
searched texts id (Ok at) rise within equal = contained texts at id within (λ d. exact_bytes _ id (equal d))
searched texts id (Err at) rise within parted =
    let parts = parted (searchable_from_sorted nat_list_cmp_total bytes_of texts id (sorted texts rise)) in
    record {
      within = within;
      below = all_before (λ t. bytes_cmp (bytes_of t) id ≡ Less) texts at within parts.0;
      above = all_after (λ t. bytes_cmp id (bytes_of t) ≡ Less) texts at (λ k d low lt. turned _ id (parts.1 k d low lt));
    }

pub not_there : (at : ℕ) (bytes : List ℕ) (texts : List (Vec ℕ)) → GoesTo at bytes texts → Contains (texts_of texts) bytes → ⊥
not_there at bytes texts g there =
    absent_parts bytes_of bytes (take at texts) (drop at texts) g.below g.above (subst (λ l. Contains (texts_of l) bytes) (sym (take-append-drop at texts)) there)

-- ---- one byte string more

pub goes_in : (at : ℕ) (x : Vec ℕ) (texts grown new : List (Vec ℕ)) (id : List ℕ) → RisesBy bytes_of texts → GoesTo at id texts → x.items ≡ id → grown ≡ texts → new ≡ insert grown at x
    → RisesBy bytes_of new × Puts (texts_of texts) id (texts_of new)
goes_in at x texts grown new id rise goes is grows made =
    let made : new ≡ insert texts at x = made ∙ ap (λ l. insert l at x) grows in
    let goes : GoesTo at x.items texts = subst (λ b. GoesTo at b texts) (sym is) goes in
    let put : Inserts bytes_of texts x (insert texts at x) =
    record { front = take at texts; back = drop at texts; before = sym (take-append-drop at texts); after = refl; below = goes.below; above = goes.above } in (
      subst (RisesBy bytes_of) (sym made) (inserts_rise bytes_of texts x (insert texts at x) rise put),
      subst (λ l. Puts (texts_of texts) id (texts_of l)) (sym made)
          (subst (λ b. Puts (texts_of texts) b (texts_of (insert texts at x))) is (inr (inserts_map (λ b. b) bytes_of texts x (insert texts at x) put))),
    )

-- ---- a few and one more, collected into a set

module _ {X : Type 0} (key : X → List ℕ) where
  above_shown : (bytes : List ℕ) (xs : List X) → AllAbove key bytes xs ↔ AllAbove (λ b. b) bytes (map key xs)
  above_shown bytes [] = Iff.rfl
  above_shown bytes (x ∷ xs) = (λ a. (a.0, (above_shown bytes xs).0 a.1), λ a. (a.0, (above_shown bytes xs).1 a.1))

  rises_shown : (xs : List X) → RisesBy key xs ↔ Rises (map key xs)
  rises_shown [] = Iff.rfl
  rises_shown (x ∷ xs) =
      (λ r. ((above_shown (key x) xs).0 r.0, (rises_shown xs).0 r.1), λ r. ((above_shown (key x) xs).1 r.0, (rises_shown xs).1 r.1))

  shown : (bytes : List ℕ) (xs : List X) → Contains (map key xs) bytes → (x : X) × (key x ≡ bytes)
  shown bytes [] m = absurd (contains_none bytes m)
  shown bytes (x ∷ xs) m = elim (contains_cases (key x) bytes (map key xs) m) [ inl here ↦ (x, here) | inr later ↦ shown bytes xs later ]

-- clones have the bytes of their originals
pub cloned : (texts copies : List (Vec ℕ)) → AllZip (λ (t c : Vec ℕ). AllZip (λ x y. y ≡ x) t.items c.items × (vec_len c ≡ vec_len t)) texts copies → texts_of copies ≡ texts_of texts
cloned [] [] all = refl
cloned [] (c ∷ cs) all = absurd all
cloned (t ∷ ts) [] all = absurd all
cloned (t ∷ ts) (c ∷ cs) all =
    ap (λ b. b ∷ texts_of cs) (AllZip-map (λ n. n) t.items c.items all.0.0 ∙ map-id t.items) ∙ ap (λ l. bytes_of t ∷ l) (cloned ts cs all.1)

pub rises_again : (texts copies : List (Vec ℕ)) → texts_of copies ≡ texts_of texts → RisesBy bytes_of texts → RisesBy bytes_of copies
rises_again texts copies same rise = (rises_shown bytes_of copies).1 (subst Rises (sym same) ((rises_shown bytes_of texts).0 rise))

-- a set that is collected from a list in order has its elements
pub collected : (texts : List (Vec ℕ)) (set : BTreeSet (Vec ℕ)) → RisesBy bytes_of texts → IsFromIterResult (by_read bytes_of) texts set → texts_of set.keys ≡ texts_of texts
collected texts set rise made =
    same_texts (texts_of set.keys) (texts_of texts) (rises_sorted (texts_of set.keys) (read_sorted bytes_of set.keys made.1)) ((rises_shown bytes_of texts).0 rise)
    (λ bytes. (
      λ m. let x = shown bytes_of bytes set.keys m in subst (Contains (texts_of texts)) x.1 ((both x.0).0 (subst (Contains (texts_of set.keys)) (sym x.1) m)),
      λ m. let x = shown bytes_of bytes texts m in subst (Contains (texts_of set.keys)) x.1 ((both x.0).1 (subst (Contains (texts_of texts)) (sym x.1) m)),
    ))
  where
    both : (x : Vec ℕ) → Contains (texts_of set.keys) x.items ↔ Contains (texts_of texts) x.items
    both x =
        Iff.trans (Iff.symm (read_has bytes_of x.items set.keys (contains (by_read bytes_of) set x) refl))
        (read_has bytes_of x.items texts (contains (by_read bytes_of) set x) (made.0 x))
