-- Where words and blanks end.
use Rattle.std.proofs.lemmas.Grind.{common_steps}
use Rattle.std.proofs.Common.{◌≡◌, ℕ, ◌+◌, ◌<◌, Bool, true, false, not, List, [], ◌∷◌, ◌++◌, length, take, drop, refl, sym, ap, subst, ◌∙◌, arith, inl, inr}
use Rattle.std.proofs.lemmas.Bool.{cases_lt, not-false, not-true}
use Rattle.std.proofs.lemmas.List.{drop_all, drop_at, drop_more, get_or_append_left, get_or-take, get_or_at, length-append, length-take, take-append-drop, take_at}
use Rattle.std.proofs.lemmas.List.Sums.{prefix_len_is, prefix_len_passes, prefix_len_stops}
use Rattle.std.specs.List.{AllPass, prefix_len}
use Rattle.ssh_wire.specs.Wire.{IsBytes}
use Rattle.key_text.specs.Blanks.{AreBlanks, IsWord, BeginsWithNoBlank, after_blanks, before_ending, first_word, is_blank, trimmed}
use Rattle.key_text.specs.KeyLine.{Comment, comment_after, no_comment}
use Rattle.key_text.specs.LineReading.{after_word}

-- xs does not begin with an element that passes the test
abbrev pub FailsFirst : (ℕ → Bool) → List ℕ → Type 0
FailsFirst p [] = Unit {0}
FailsFirst p (x ∷ xs) = p x ≡ false

abbrev pub not_blank : ℕ → Bool
not_blank byte = not (is_blank byte)

-- ---- the longest front whose elements pass the test

pub prefix_len-front : (p : ℕ → Bool) (xs ys : List ℕ) → AllPass p xs → FailsFirst p ys → prefix_len p (xs ++ ys) ≡ length xs
prefix_len-front p xs [] each stops =
    prefix_len_is p (xs ++ []) (length xs) 0 (omega (arith, length-append xs []))
    (λ k h. ap p (get_or_append_left xs [] 0 k h) ∙ each k 0 h)
    (λ h. absurd (omega (arith, length-append xs [])))
prefix_len-front p xs (y ∷ ys) each stops =
    prefix_len_is p (xs ++ y ∷ ys) (length xs) 0 (omega (arith, length-append xs (y ∷ ys)))
    (λ k h. ap p (get_or_append_left xs (y ∷ ys) 0 k h) ∙ each k 0 h)
    (λ h. ap p (get_or_at xs y ys 0 (length xs) refl) ∙ stops)

pub stops_after : (p : ℕ → Bool) (xs : List ℕ) → FailsFirst p (drop (prefix_len p xs) xs)
stops_after p xs = elim (cases_lt (prefix_len p xs) (length xs)) [
  | inl lt ↦ subst (FailsFirst p) (sym (drop_more xs (prefix_len p xs) 0 lt)) (prefix_len_stops p xs 0 lt)
  | inr le ↦ subst (FailsFirst p) (sym (drop_all (prefix_len p xs) xs le)) tt
]

pub front_passes : (p : ℕ → Bool) (xs : List ℕ) → AllPass p (take (prefix_len p xs) xs)
front_passes p xs k d h = grind (arith, common_steps, get_or-take, length-take, prefix_len_passes)

-- ---- words and blanks at the front

pub word_front : (word rest : List ℕ) → AllPass not_blank word → FailsFirst not_blank rest → (first_word (word ++ rest) ≡ word) × (after_word (word ++ rest) ≡ rest)
unfolding first_word after_word
word_front word rest each ends = grind (arith, common_steps, drop_at, not_blank, prefix_len-front, take_at)

pub blanks_front : (blanks rest : List ℕ) → AllPass is_blank blanks → FailsFirst is_blank rest → after_blanks (blanks ++ rest) ≡ rest
unfolding after_blanks
blanks_front blanks rest each ends = grind (arith, common_steps, drop_at, prefix_len-front)

pub word_cut : (text : List ℕ) → (text ≡ first_word text ++ after_word text) × FailsFirst not_blank (after_word text)
unfolding first_word after_word
word_cut text = grind (arith, common_steps, not_blank, stops_after, take-append-drop)

-- the blanks that `after_blanks` leaves out
abbrev pub leading : List ℕ → List ℕ
leading text = take (prefix_len is_blank text) text

pub blanks_cut : (text : List ℕ) → (text ≡ leading text ++ after_blanks text) × FailsFirst is_blank (after_blanks text) × AllPass is_blank (leading text)
unfolding after_blanks
blanks_cut text = grind (arith, common_steps, front_passes, stops_after, take-append-drop)

pub fails_bare : (text : List ℕ) → BeginsWithNoBlank text → FailsFirst is_blank text
fails_bare [] h = tt
fails_bare (byte ∷ text) h = h

pub bare_fails : (text : List ℕ) → FailsFirst is_blank text → BeginsWithNoBlank text
bare_fails [] h = tt
bare_fails (byte ∷ text) h = h

-- blanks end a word
pub blanks_stop : (blanks rest : List ℕ) → AreBlanks blanks → FailsFirst not_blank (blanks ++ rest)
blanks_stop [] rest are = absurd (omega (arith, are.some))
blanks_stop (byte ∷ blanks) rest are = ap not (are.each 0 0 (omega arith))

-- if a word ends and bytes follow the blanks, there are blanks
pub gap : (text : List ℕ) → FailsFirst not_blank text → 0 < length (after_blanks text) → AreBlanks (leading text)
unfolding after_blanks
gap [] stops some = absurd (omega (arith, some))
gap (byte ∷ text) stops some =
    let blank : is_blank byte ≡ true = not-false (is_blank byte) stops in
    let one : prefix_len is_blank (byte ∷ text) ≡ 1 + prefix_len is_blank text = rw blank refl in
    record { some = omega (arith, one, length-take (prefix_len is_blank (byte ∷ text)) (byte ∷ text)); each = front_passes is_blank (byte ∷ text) }

-- a word has no blank
pub first_word_is : (text : List ℕ) → 0 < length text → FailsFirst is_blank text → IsWord (first_word text)
unfolding first_word
first_word_is [] some bare = absurd (omega (arith, some))
first_word_is (byte ∷ text) some bare =
    let one : prefix_len not_blank (byte ∷ text) ≡ 1 + prefix_len not_blank text = rw bare refl in
    record { some = omega (arith, one, length-take (prefix_len not_blank (byte ∷ text)) (byte ∷ text)); each = front_passes not_blank (byte ∷ text) }

-- and a word begins with no blank, whatever follows it
pub word_stops : (word rest : List ℕ) → IsWord word → FailsFirst is_blank (word ++ rest)
word_stops [] rest is = absurd (omega (arith, is.some))
word_stops (byte ∷ word) rest is = not-true (is_blank byte) (is.each 0 0 (omega arith))

-- ---- the comment

pub comment_cut : (end : List ℕ) → FailsFirst not_blank end → Comment end (after_blanks end)
unfolding after_blanks
comment_cut [] stops = no_comment
comment_cut (byte ∷ rest) stops =
    let blank : is_blank byte ≡ true = not-false (is_blank byte) stops in
    let one : prefix_len is_blank (byte ∷ rest) ≡ 1 + prefix_len is_blank rest = rw blank refl in
    let are : AreBlanks (leading (byte ∷ rest)) = record { some = omega (arith, one, length-take (prefix_len is_blank (byte ∷ rest)) (byte ∷ rest)); each = front_passes is_blank (byte ∷ rest) } in
    let comment : List ℕ = drop (prefix_len is_blank (byte ∷ rest)) (byte ∷ rest) in
    let bare = bare_fails comment (stops_after is_blank (byte ∷ rest)) in
    subst (λ (text : List ℕ). Comment text comment) (take-append-drop (prefix_len is_blank (byte ∷ rest)) (byte ∷ rest)) (comment_after (leading (byte ∷ rest)) comment are bare)

pub comment_stops : (end comment : List ℕ) → Comment end comment → FailsFirst not_blank end × (after_blanks end ≡ comment)
unfolding after_blanks
comment_stops end comment no_comment = (tt, refl)
comment_stops end comment (comment_after blanks comment' are bare) = (blanks_stop blanks comment' are, blanks_again blanks comment' are bare)
  where
    blanks_again : (blanks comment : List ℕ) → AreBlanks blanks → BeginsWithNoBlank comment → after_blanks (blanks ++ comment) ≡ comment
    blanks_again blanks comment are bare = blanks_front blanks comment are.each (fails_bare comment bare)

-- ---- parts of bytes are bytes

pub IsBytes-after_blanks : (text : List ℕ) → IsBytes text → IsBytes (after_blanks text)
unfolding after_blanks
IsBytes-after_blanks text fits = grind (arith, common_steps)

pub IsBytes-trimmed : (text : List ℕ) → IsBytes text → IsBytes (trimmed text)
unfolding trimmed before_ending
IsBytes-trimmed text fits = grind (arith, common_steps, IsBytes-after_blanks)
