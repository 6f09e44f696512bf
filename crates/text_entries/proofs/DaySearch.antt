-- A last day begins with the first letter of its word, which a search finds.
use Rattle.std.proofs.Common.{◌≡◌, ℕ, ◌-◌, ◌==◌, ◌<◌, ◌≤◌, true, false, List, [], ◌∷◌, length, take, drop, suc, zero, refl, sym, ap, ◌∙◌, arith, le_refl}
use Rattle.std.proofs.lemmas.Bool.{false_from_ne_true, false≢true}
use Rattle.std.proofs.lemmas.List.{drop_all, length-drop, take_rest}
use Rattle.std.specs.Char.{to_ascii_lowercase}
use Rattle.memchr.specs.Find.{Nowhere, Passes, is_byte2}
use Rattle.text_entries.specs.Day.{begins_with_day, is_u, says_until}

-- no byte before this place is the first letter of the word
abbrev pub Lacks : (text : List ℕ) (at : ℕ) → Type 0
Lacks text at = Nowhere (Passes (is_byte2 117 85) text) 0 at

-- the text from this place on, as a slice
abbrev pub behind : (text : List ℕ) (at : ℕ) → List ℕ
behind text at = take (length text - at) (drop at text)

lowered : (byte : ℕ) → is_u byte ≡ false → (to_ascii_lowercase byte == 117) ≡ false
lowered byte other = grind arith

undated : (byte : ℕ) (bytes : List ℕ) → is_u byte ≡ false → begins_with_day (byte ∷ bytes) ≡ false
undated byte bytes other = rw (lowered byte other) refl

-- No last day begins before the first such letter.
skipped : (text : List ℕ) (at : ℕ) → at ≤ length text → Lacks text at → says_until (drop at text) ≡ says_until text
unfolding says_until
skipped text zero within lacks = refl
skipped [] (suc at) within lacks = absurd (omega arith)
skipped (byte ∷ bytes) (suc at) within lacks =
    let other = false_from_ne_true (is_u byte) (lacks 0 (omega arith) (omega arith)) in
    let more = skipped bytes at (omega arith) (λ k low high. lacks (suc k) (omega arith) (omega arith)) in
    rw (undated byte bytes other) more

begun : (word : List ℕ) → begins_with_day word ≡ true → says_until word ≡ true
unfolding says_until
begun [] is = absurd (false≢true is)
begun (byte ∷ bytes) is = rw is refl

passed : (word : List ℕ) → 0 < length word → begins_with_day word ≡ false → says_until (drop 1 word) ≡ says_until word
unfolding says_until
passed [] long other = absurd (omega arith)
passed (byte ∷ bytes) long other = rw other refl

pub day_here : (text : List ℕ) (at : ℕ) → at < length text → Lacks text at → begins_with_day (behind text at) ≡ true → says_until text ≡ true
day_here text at within lacks is =
    sym (skipped text at (omega arith) lacks) ∙ begun (drop at text) (rw (take_rest text at) at is)

pub day_later : (text : List ℕ) (at : ℕ) → at < length text → Lacks text at → begins_with_day (behind text at) ≡ false
    → says_until (behind (behind text at) 1) ≡ says_until text
day_later text at within lacks other =
    let next = passed (drop at text) (omega (arith, length-drop at text)) (rw (take_rest text at) at other) in
    rw (take_rest text at, take_rest (drop at text) 1) (next ∙ skipped text at (omega arith) lacks)

pub no_day : (text : List ℕ) → Lacks text (length text) → says_until text ≡ false
unfolding says_until
no_day text lacks =
    sym (skipped text (length text) (le_refl (length text)) lacks) ∙ ap says_until (drop_all (length text) text (le_refl (length text)))
