-- The first line of a text, by the position of its line feed.
use Rattle.std.proofs.Common.{◌≡◌, ℕ, zero, suc, ◌+◌, ◌-◌, ◌<◌, ◌==◌, true, false, List, [], ◌∷◌, length, take, drop, get_or, refl, arith}
use Rattle.std.proofs.lemmas.List.{take_all, length-drop}
use Rattle.std.specs.List.{slice_split}
use Rattle.key_text.specs.Lines.{is_newline}

pub only_line : (text : List ℕ) → ((k : ℕ) → k < length text → (get_or text k 0 == 10) ≡ false) → slice_split is_newline text ≡ text ∷ []
only_line [] no_feed = refl
only_line (byte ∷ text) no_feed =
    let here : (byte == 10) ≡ false = no_feed 0 (omega arith) in
    let later = only_line text (λ k lt. no_feed (suc k) (omega arith)) in
    rw (here, later) refl

first_line_at : (text : List ℕ) (i : ℕ) → i < length text → ((k : ℕ) → k < i → (get_or text k 0 == 10) ≡ false) → (get_or text i 0 == 10) ≡ true → slice_split is_newline text ≡ take i text ∷ slice_split is_newline (drop (suc i) text)
first_line_at [] i lt no_feed feed = absurd (omega arith)
first_line_at (byte ∷ text) zero lt no_feed feed = rw feed refl
first_line_at (byte ∷ text) (suc i) lt no_feed feed =
    let here : (byte == 10) ≡ false = no_feed 0 (omega arith) in
    let later = first_line_at text i (omega arith) (λ k below. no_feed (suc k) (omega arith)) feed in
    rw (here, later) refl

-- the same, with the text after the line feed as a slice
pub first_line : (text : List ℕ) (i : ℕ) → i < length text → ((k : ℕ) → k < i → (get_or text k 0 == 10) ≡ false) → (get_or text i 0 == 10) ≡ true → slice_split is_newline text ≡ take i text ∷ slice_split is_newline (take (length text - (i + 1)) (drop (i + 1) text))
first_line text i lt no_feed feed =
    let rest : take (length text - (i + 1)) (drop (i + 1) text) ≡ drop (i + 1) text = take_all _ _ (omega (arith, length-drop (i + 1) text)) in
    let next : i + 1 ≡ suc i = omega arith in
    rw (rest, next) (first_line_at text i lt no_feed feed)
