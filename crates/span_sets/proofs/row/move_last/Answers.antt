use Rattle.std.proofs.Common.{◌≡◌, ℕ, ◌-◌, ◌<◌, List, [], ◌∷◌, ◌++◌, length, take, drop, refl, ap}
use Rattle.std.proofs.Common.{◌∙◌, arith, length-append, length-drop, insert, append-nil, take_at}
use Rattle.std.proofs.Common.{drop_at}
use Rattle.std.proofs.lemmas.List.{take_rest, drop_all, take-append-le, drop-append-le}
use Rattle.span_sets.proofs.row.move_last.Goals as goal

turned : {X : Type 0} (xs : List X) (x : X) (at : ℕ) (row ys : List X) → row ≡ xs ++ x ∷ [] → at < length row
    → ys ≡ drop (length (take (length row - at) (drop at row)) - 1) (take (length row - at) (drop at row)) ++ take (length (take (length row - at) (drop at row)) - 1) (take (length row - at) (drop at row))
    → take at row ++ (ys ++ drop (length row - at) (drop at row)) ≡ insert xs at x
turned xs x at row ys is within e =
    let long = length-append xs (x ∷ []) in
    let size = ap length is in
    let rest = drop at xs in
    let part : take (length row - at) (drop at row) ≡ rest ++ x ∷ [] =
    take_rest row at ∙ ap (drop at) is ∙ drop-append-le at xs (x ∷ []) (omega arith) in
    let one : length (rest ++ x ∷ []) - 1 ≡ length rest = omega (arith, length-append rest (x ∷ [])) in
    let made : ys ≡ x ∷ rest =
    e ∙ ap (λ l. drop (length l - 1) l ++ take (length l - 1) l) part
    ∙ ap (λ n. drop n (rest ++ x ∷ []) ++ take n (rest ++ x ∷ [])) one
    ∙ ap (λ l. l ++ take (length rest) (rest ++ x ∷ [])) (drop_at rest (x ∷ []) (length rest) refl)
    ∙ ap (λ l. x ∷ l) (take_at rest (x ∷ []) (length rest) refl) in
    ap (λ l. take at row ++ (ys ++ l)) (drop_all (length row - at) (drop at row) (omega (arith, length-drop at row)))
    ∙ ap (λ l. take at row ++ l) (append-nil ys ∙ made)
    ∙ ap (λ l. l ++ x ∷ rest) (ap (take at) is ∙ take-append-le at xs (x ∷ []) (omega arith))

pub returns : goal.returns
returns c c' = λ xs x is. turned xs x c'.args.at c'.args.row.now c'.rotate_right.new.self is c'.requires c'.rotate_right.ensures.after
