-- Lines that are written one after the other.
use Rattle.std.proofs.Common.{[], ◌+◌, ◌++◌, ◌<◌, ◌∙◌, ◌∷◌, ◌≡◌, ap, append_assoc, get_or, length, List, map, sym, take, ℕ}
use Rattle.std.proofs.lemmas.List.{map-append, take_more}

pub one_more : {A B C : Type 0} (f : A → B) (written : List B → List C) → ((a b : List B) → written (a ++ b) ≡ written a ++ written b)
    → (old now new : List C) (xs : List A) (i : ℕ) (d : A) → i < length xs
    → now ≡ old ++ written (map f (take i xs)) → new ≡ now ++ written (f (get_or xs i d) ∷ []) → new ≡ old ++ written (map f (take (i + 1) xs))
one_more {A} {B} {C} f written joins old now new xs i d lt so_far one =
    let before : List B = map f (take i xs) in
    let last : List B = f (get_or xs i d) ∷ [] in
    let more : map f (take (i + 1) xs) ≡ before ++ last = ap (map f) (take_more xs i d lt) ∙ map-append f (take i xs) (get_or xs i d ∷ []) in
    one ∙ ap (λ (cs : List C). cs ++ written last) so_far ∙ append_assoc old (written before) (written last)
    ∙ ap (λ (cs : List C). old ++ cs) (sym (joins before last)) ∙ ap (λ (bs : List B). old ++ written bs) (sym more)
