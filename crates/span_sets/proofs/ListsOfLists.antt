-- A list of lists: what the lists before a position have, the one at the position, and those after it.
use Rattle.span_sets.proofs.Common.{[], ◌++◌, ◌+◌, ◌-◌, ◌<◌, ◌∙◌, ◌∷◌, ◌≡◌, ◌≤◌, add-zero, All}
use Rattle.span_sets.proofs.Common.{All-head, ap, append_assoc, arith, drop, drop-drop, drop-set}
use Rattle.span_sets.proofs.Common.{drop-set-lt, drop_at, drop_more, flat_map, get_or}
use Rattle.span_sets.proofs.Common.{get_or-append-add, get_or-drop, get_or_append_left, insert}
use Rattle.span_sets.proofs.Common.{length, length-append, length-drop, length-take-le, List, set}
use Rattle.span_sets.proofs.Common.{set_split, subst, suc, sym, take, take-append-drop}
use Rattle.span_sets.proofs.Common.{take_more_set, ℕ}
use Rattle.std.proofs.lemmas.List.Concat.{flat_map-append}

pub all_left : {X : Type 0} (P : X → Type 0) (xs ys : List X) → All P (xs ++ ys) → All P xs
all_left P xs ys h = λ k d q. subst P (get_or_append_left xs ys d k q) (h k d (omega (arith, length-append xs ys)))

pub all_right : {X : Type 0} (P : X → Type 0) (xs ys : List X) → All P (xs ++ ys) → All P ys
all_right P xs ys h = λ k d q. subst P (get_or-append-add xs ys k d) (h (length xs + k) d (omega (arith, length-append xs ys)))

-- ---- split at a position

pub flat_cut : {X Y : Type 0} (f : X → List Y) (xs : List X) (at : ℕ) → flat_map f xs ≡ flat_map f (take at xs) ++ flat_map f (drop at xs)
flat_cut f xs at = ap (flat_map f) (sym (take-append-drop at xs)) ∙ flat_map-append f (take at xs) (drop at xs)

pub flat_drop : {X Y : Type 0} (f : X → List Y) (xs : List X) (at : ℕ) (d : X) → at < length xs → flat_map f (drop at xs) ≡ f (get_or xs at d) ++ flat_map f (drop (at + 1) xs)
flat_drop f xs at d h = ap (flat_map f) (drop_more xs at d h)

pub flat_at : {X Y : Type 0} (f : X → List Y) (xs : List X) (at : ℕ) (d : X) → at < length xs → flat_map f xs ≡ flat_map f (take at xs) ++ (f (get_or xs at d) ++ flat_map f (drop (at + 1) xs))
flat_at f xs at d h = flat_cut f xs at ∙ ap (λ l. flat_map f (take at xs) ++ l) (flat_drop f xs at d h)

-- a split within the list between two others
cut_between : {Y : Type 0} (front l ys zs back : List Y) → l ≡ ys ++ zs → front ++ (l ++ back) ≡ (front ++ ys) ++ (zs ++ back)
cut_between front l ys zs back is =
    ap (λ t. front ++ (t ++ back)) is ∙ ap (λ t. front ++ t) (append_assoc ys zs back) ∙ sym (append_assoc front ys (zs ++ back))

-- the same with the list at the position split in two
pub part_at : {X Y : Type 0} (f : X → List Y) (xs : List X) (at : ℕ) (d : X) (ys zs : List Y) → at < length xs → f (get_or xs at d) ≡ ys ++ zs
    → flat_map f xs ≡ (flat_map f (take at xs) ++ ys) ++ (zs ++ flat_map f (drop (at + 1) xs))
part_at f xs at d ys zs h is = flat_at f xs at d h ∙ cut_between (flat_map f (take at xs)) (f (get_or xs at d)) ys zs (flat_map f (drop (at + 1) xs)) is

-- ---- one list replaced by another, and one inserted after it

pub flat_set : {X Y : Type 0} (f : X → List Y) (xs : List X) (at : ℕ) (y : X) → at < length xs → flat_map f (set xs at y) ≡ flat_map f (take at xs) ++ (f y ++ flat_map f (drop (at + 1) xs))
flat_set f xs at y h =
    let one : suc at ≡ at + 1 = omega arith in
    ap (flat_map f) (set_split xs at y h)
    ∙ flat_map-append f (take at xs) (y ∷ drop (suc at) xs)
    ∙ ap (λ n. flat_map f (take at xs) ++ (f y ++ flat_map f (drop n xs))) one

pub part_set : {X Y : Type 0} (f : X → List Y) (xs : List X) (at : ℕ) (y : X) (ys zs : List Y) → at < length xs → f y ≡ ys ++ zs
    → flat_map f (set xs at y) ≡ (flat_map f (take at xs) ++ ys) ++ (zs ++ flat_map f (drop (at + 1) xs))
part_set f xs at y ys zs h is = flat_set f xs at y h ∙ cut_between (flat_map f (take at xs)) (f y) ys zs (flat_map f (drop (at + 1) xs)) is

pub flat_same : {X Y : Type 0} (f : X → List Y) (xs : List X) (at : ℕ) (x y : X) → at < length xs → x ≡ get_or xs at x → f y ≡ f x → flat_map f (set xs at y) ≡ flat_map f xs
flat_same f xs at x y h read same =
    flat_set f xs at y h
    ∙ ap (λ l. flat_map f (take at xs) ++ (l ++ flat_map f (drop (at + 1) xs))) (same ∙ ap f read)
    ∙ sym (flat_at f xs at x h)

pub flat_split : {X Y : Type 0} (f : X → List Y) (xs : List X) (at : ℕ) (x y z : X) → at < length xs → x ≡ get_or xs at x → f x ≡ f y ++ f z → flat_map f (insert (set xs at y) (at + 1) z) ≡ flat_map f xs
flat_split f xs at x y z h read whole =
    let later : at < at + 1 = omega arith in
    ap (λ l. flat_map f (l ++ z ∷ drop (at + 1) (set xs at y))) (take_more_set xs at y h)
    ∙ ap (λ l. flat_map f ((take at xs ++ y ∷ []) ++ z ∷ l)) (drop-set-lt (at + 1) xs at y later)
    ∙ ap (flat_map f) (append_assoc (take at xs) (y ∷ []) (z ∷ drop (at + 1) xs))
    ∙ flat_map-append f (take at xs) (y ∷ (z ∷ drop (at + 1) xs))
    ∙ ap (λ l. flat_map f (take at xs) ++ l) (sym (append_assoc (f y) (f z) (flat_map f (drop (at + 1) xs))))
    ∙ ap (λ l. flat_map f (take at xs) ++ (l ++ flat_map f (drop (at + 1) xs))) (sym whole ∙ ap f read)
    ∙ sym (flat_at f xs at x h)

pub flat_drop_set : {X Y : Type 0} (f : X → List Y) (xs : List X) (at : ℕ) (y : X) → at < length xs → flat_map f (drop at (set xs at y)) ≡ f y ++ flat_map f (drop (at + 1) xs)
flat_drop_set f xs at y h = ap (flat_map f) (drop-set xs at y h)

-- ---- what is left after some are removed

pub removed_back : {X : Type 0} (xs ys : List X) (from gone : ℕ) → ys ≡ take from xs ++ drop gone (drop from xs) → from ≤ length xs → drop from ys ≡ drop gone (drop from xs)
removed_back xs ys from gone is h = ap (drop from) is ∙ drop_at (take from xs) (drop gone (drop from xs)) from (length-take-le from xs h)

pub removed_more : {X : Type 0} (xs ys : List X) (from gone : ℕ) → drop from ys ≡ drop gone xs → (from < length ys → gone < length xs) × (length ys ≤ from → length xs ≤ gone)
removed_more xs ys from gone is =
    let same : length ys - from ≡ length xs - gone = sym (length-drop from ys) ∙ (ap length is ∙ length-drop gone xs) in
    (λ h. omega arith, λ h. omega arith)

pub removed_at : {X : Type 0} (xs ys : List X) (from gone : ℕ) (d : X) → drop from ys ≡ drop gone xs → get_or ys from d ≡ get_or xs gone d
removed_at xs ys from gone d is =
    ap (λ n. get_or ys n d) (sym (add-zero from)) ∙ sym (get_or-drop from ys 0 d) ∙ ap (λ l. get_or l 0 d) is ∙ get_or-drop gone xs 0 d ∙ ap (λ n. get_or xs n d) (add-zero gone)

pub removed_rest : {X : Type 0} (xs ys : List X) (from gone : ℕ) → drop from ys ≡ drop gone xs → drop (from + 1) ys ≡ drop (gone + 1) xs
removed_rest xs ys from gone is = sym (drop-drop 1 from ys) ∙ ap (drop 1) is ∙ drop-drop 1 gone xs

-- the first that is left after the position where some were removed
pub removed_first : {X : Type 0} (xs ys : List X) (from gone : ℕ) (y : X) → ys ≡ take from xs ++ drop gone (drop from xs) → from ≤ length xs → from < length ys → y ≡ get_or ys from y → (gone < length (drop from xs)) × (y ≡ get_or (drop from xs) gone y)
removed_first xs ys from gone y is h some first =
    let back = removed_back xs ys from gone is h in
    ((removed_more (drop from xs) ys from gone back).0 some, first ∙ removed_at (drop from xs) ys from gone y back)

-- what holds for all of a tail holds for its first element
pub first_of : {X : Type 0} (P : X → Type 0) (xs : List X) (at : ℕ) (d : X) → at < length xs → All P (drop at xs) → P (get_or xs at d)
first_of P xs at d h all = All-head P (get_or xs at d) (drop (at + 1) xs) (subst (All P) (drop_more xs at d h) all)
