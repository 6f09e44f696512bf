-- Base64 words: reading agrees with the spelling.
use Rattle.std.proofs.Common.{◌≡◌, ℕ, zero, suc, ◌+◌, ◌<◌, ◌≤◌, ◌==◌, ◌&&◌, append_assoc, Bool, true, false, not, List}
use Rattle.std.proofs.Common.{[], ◌∷◌, ◌++◌, length, take, drop, get_or, refl, sym, ap, ◌∙◌, arith, inl, inr}
use Rattle.std.proofs.lemmas.Bool.{and_from, and_parts, and_right, cases_Bool, eqb-true, false_from_ne_true, false≢true}
use Rattle.std.proofs.lemmas.Bool.{or_cases}
use Rattle.std.proofs.lemmas.List.{append-nil, drop_all, drop_more}
use Rattle.std.specs.List.{prefix_len}
use Rattle.ssh_wire.specs.Ascii.{backslash, slash, space, tab}
use Rattle.ssh_wire.specs.Wire.{IsBytes}
use Rattle.key_text.specs.Blanks.{is_blank}
use Rattle.key_text.proofs.LineWords.{FailsFirst}
use Rattle.key_places.specs.Word.{EndsWord, IsNoSlash, SpellsWord, begins_escape, begins_escaped, belongs}
use Rattle.key_places.specs.Word.{escaped_slash, is_symbol, symbol, word_at, word_end}

-- ---- one byte

pub word_more : (escaped : Bool) (byte : ℕ) (rest : List ℕ) → belongs escaped byte ≡ true
    → word_at escaped (byte ∷ rest) ≡ byte ∷ word_at false rest
unfolding word_at
word_more escaped byte rest is = rw is refl

pub word_escape : (escaped : Bool) (byte : ℕ) (rest : List ℕ) → belongs escaped byte ≡ false
    → begins_escape escaped byte ≡ true → word_at escaped (byte ∷ rest) ≡ word_at true rest
unfolding word_at
word_escape escaped byte rest other is = rw (other, is) refl

pub word_stop : (escaped : Bool) (byte : ℕ) (rest : List ℕ) → belongs escaped byte ≡ false
    → begins_escape escaped byte ≡ false → word_at escaped (byte ∷ rest) ≡ []
unfolding word_at
word_stop escaped byte rest other end = rw (other, end) refl

pub word_none : (escaped : Bool) → word_at escaped [] ≡ []
unfolding word_at
word_none escaped = refl

-- ---- a step of the loop: the bytes of the word so far, and the word of the rest

pub word_pushed : (text items more word : List ℕ) (i : ℕ) (escaped : Bool) → i < length text
    → belongs escaped (get_or text i 0) ≡ true → more ≡ items ++ get_or text i 0 ∷ []
    → items ++ word_at escaped (drop i text) ≡ word → more ++ word_at false (drop (i + 1) text) ≡ word
word_pushed text items more word i escaped within is pushed so_far =
    let rest : List ℕ = drop (i + 1) text in
    ap (λ (xs : List ℕ). xs ++ word_at false rest) pushed
    ∙ (append_assoc items (get_or text i 0 ∷ []) (word_at false rest)
    ∙ (ap (λ (xs : List ℕ). items ++ xs) (sym (word_more escaped (get_or text i 0) rest is))
    ∙ (ap (λ (xs : List ℕ). items ++ word_at escaped xs) (sym (drop_more text i 0 within)) ∙ so_far)))

pub word_escaped : (text items word : List ℕ) (i : ℕ) (escaped : Bool) → i < length text
    → belongs escaped (get_or text i 0) ≡ false → begins_escape escaped (get_or text i 0) ≡ true
    → items ++ word_at escaped (drop i text) ≡ word → items ++ word_at true (drop (i + 1) text) ≡ word
word_escaped text items word i escaped within other is so_far =
    ap (λ (xs : List ℕ). items ++ xs) (sym (word_escape escaped (get_or text i 0) (drop (i + 1) text) other is))
    ∙ (ap (λ (xs : List ℕ). items ++ word_at escaped xs) (sym (drop_more text i 0 within)) ∙ so_far)

pub word_ended : (text items word : List ℕ) (i : ℕ) (escaped : Bool) → i < length text
    → belongs escaped (get_or text i 0) ≡ false → begins_escape escaped (get_or text i 0) ≡ false
    → items ++ word_at escaped (drop i text) ≡ word → items ≡ word
word_ended text items word i escaped within other end so_far =
    sym (append-nil items)
    ∙ (ap (λ (xs : List ℕ). items ++ xs) (sym (word_stop escaped (get_or text i 0) (drop (i + 1) text) other end))
    ∙ (ap (λ (xs : List ℕ). items ++ word_at escaped xs) (sym (drop_more text i 0 within)) ∙ so_far))

pub word_past : (text items word : List ℕ) (i : ℕ) (escaped : Bool) → length text ≤ i
    → items ++ word_at escaped (drop i text) ≡ word → items ≡ word
word_past text items word i escaped past so_far =
    sym (append-nil items) ∙ (ap (λ (xs : List ℕ). items ++ xs) (sym (word_none escaped))
    ∙ (ap (λ (xs : List ℕ). items ++ word_at escaped xs) (sym (drop_all i text past)) ∙ so_far))

-- ---- a word without escapes

pub no_word : (byte : ℕ) (rest : List ℕ) → is_symbol byte ≡ false → begins_escaped (byte ∷ rest) ≡ false
    → word_at false (byte ∷ rest) ≡ []
no_word byte [] other plain = elim (cases_Bool (byte == backslash)) [
  | inl is ↦ word_escape false byte [] other (rw is refl) ∙ word_none true
  | inr end ↦ word_stop false byte [] other (rw end refl)
]
no_word byte (next ∷ rest) other plain = elim (cases_Bool (byte == backslash)) [
  | inl is ↦
      let end : (next == slash) ≡ false = rw is at plain in
      word_escape false byte (next ∷ rest) other (rw is refl)
      ∙ word_stop true next rest end (and_right (next == backslash) (not true) refl)
  | inr end ↦ word_stop false byte (next ∷ rest) other (rw end refl)
]

pub plain_word : (text : List ℕ) → begins_escaped (drop (prefix_len is_symbol text) text) ≡ false
    → word_at false text ≡ take (prefix_len is_symbol text) text
plain_word [] plain = word_none false
plain_word (byte ∷ rest) plain = elim (cases_Bool (is_symbol byte)) [
  | inl is ↦
      let one : prefix_len is_symbol (byte ∷ rest) ≡ suc (prefix_len is_symbol rest) = rw is (omega arith) in
      let more = plain_word rest (rw one at plain) in
      word_more false byte rest is ∙ rw one (ap (λ (xs : List ℕ). byte ∷ xs) more)
  | inr other ↦
      let none : prefix_len is_symbol (byte ∷ rest) ≡ 0 = rw other refl in
      no_word byte rest other (rw none at plain) ∙ rw none refl
]

-- ---- a word is bytes

symbol_small : (byte : ℕ) → is_symbol byte ≡ true → byte < 256
symbol_small byte is = grind arith

pub IsBytes-spelled : (text word : List ℕ) → SpellsWord text word → IsBytes word
IsBytes-spelled text word word_end zero = omega arith
IsBytes-spelled text word word_end (suc i) = omega arith
IsBytes-spelled text word (symbol byte text' word' is spells) zero = symbol_small byte is
IsBytes-spelled text word (symbol byte text' word' is spells) (suc i) = IsBytes-spelled text' word' spells i
IsBytes-spelled text word (escaped_slash text' word' spells) zero = omega arith
IsBytes-spelled text word (escaped_slash text' word' spells) (suc i) = IsBytes-spelled text' word' spells i

-- ---- what is read is spelled

pub record CutWord (text : List ℕ) : Type 0 where
  pub front : List ℕ
  pub rest : List ℕ
  pub spelled : text ≡ front ++ rest
  pub spells : SpellsWord front (word_at false text)
  pub ends : EndsWord rest

cut_none : CutWord []
cut_none = record { front = []; rest = []; spelled = refl; spells = rw (word_none false) word_end; ends = tt }

cut_more : (byte : ℕ) (rest : List ℕ) → is_symbol byte ≡ true → CutWord rest → CutWord (byte ∷ rest)
cut_more byte rest is cut = record {
  front = byte ∷ cut.front;
  rest = cut.rest;
  spelled = ap (λ (xs : List ℕ). byte ∷ xs) cut.spelled;
  spells = rw (word_more false byte rest is) (symbol byte cut.front (word_at false rest) is cut.spells);
  ends = cut.ends;
}

slash_more : (rest : List ℕ) → word_at false (backslash ∷ slash ∷ rest) ≡ slash ∷ word_at false rest
slash_more rest = word_escape false backslash (slash ∷ rest) refl refl ∙ word_more true slash rest refl

cut_slash : (rest : List ℕ) → CutWord rest → CutWord (backslash ∷ slash ∷ rest)
cut_slash rest cut = record {
  front = backslash ∷ slash ∷ cut.front;
  rest = cut.rest;
  spelled = ap (λ (xs : List ℕ). backslash ∷ slash ∷ xs) cut.spelled;
  spells = rw (slash_more rest) (escaped_slash cut.front (word_at false rest) cut.spells);
  ends = cut.ends;
}

no_slash : (byte : ℕ) (rest : List ℕ) → begins_escaped (byte ∷ rest) ≡ false → IsNoSlash byte rest
no_slash byte [] plain = tt
no_slash byte (next ∷ rest) plain =
    λ first second. false≢true
    (sym plain ∙ and_from (byte == backslash) (next == slash) (rw first refl) (rw second refl))

plain : (byte : ℕ) (rest : List ℕ) → IsNoSlash byte rest → begins_escaped (byte ∷ rest) ≡ false
plain byte [] none = refl
plain byte (next ∷ rest) none = false_from_ne_true ((byte == backslash) && (next == slash)) (λ both.
    let parts = and_parts (byte == backslash) (next == slash) both in
    none (eqb-true byte backslash parts.0) (eqb-true next slash parts.1))

cut_end : (byte : ℕ) (rest : List ℕ) → is_symbol byte ≡ false → begins_escaped (byte ∷ rest) ≡ false
    → CutWord (byte ∷ rest)
cut_end byte rest other plain = record {
  front = [];
  rest = byte ∷ rest;
  spelled = refl;
  spells = rw (no_word byte rest other plain) word_end;
  ends = (other, no_slash byte rest plain);
}

cut_escaped : (byte next : ℕ) (rest : List ℕ) → begins_escaped (byte ∷ next ∷ rest) ≡ true → CutWord rest
    → CutWord (byte ∷ next ∷ rest)
cut_escaped byte next rest is cut =
    let both = and_parts (byte == backslash) (next == slash) is in
    rw (eqb-true byte backslash both.0, eqb-true next slash both.1) (cut_slash rest cut)

pub cut_word : (text : List ℕ) → CutWord text
cut_word [] = cut_none
cut_word (byte ∷ []) = elim (cases_Bool (is_symbol byte)) [
  | inl is ↦ cut_more byte [] is cut_none
  | inr other ↦ cut_end byte [] other refl
]
cut_word (byte ∷ next ∷ rest) = elim (cases_Bool (is_symbol byte)) [
  | inl is ↦ cut_more byte (next ∷ rest) is (cut_word (next ∷ rest))
  | inr other ↦ elim (cases_Bool (begins_escaped (byte ∷ next ∷ rest))) [
    | inl is ↦ cut_escaped byte next rest is (cut_word rest)
    | inr end ↦ cut_end byte (next ∷ rest) other end
  ]
]

-- ---- what is spelled is read

pub word_read : (text word rest : List ℕ) → SpellsWord text word → EndsWord rest → word_at false (text ++ rest) ≡ word
word_read text word rest word_end ends = word_ends rest ends
  where
    word_ends : (rest : List ℕ) → EndsWord rest → word_at false rest ≡ []
    word_ends [] ends = word_none false
    word_ends (byte ∷ rest) ends = no_word byte rest ends.0 (plain byte rest ends.1)
word_read text word rest (symbol byte text' word' is spells) ends =
    word_more false byte (text' ++ rest) is ∙ ap (λ (xs : List ℕ). byte ∷ xs) (word_read text' word' rest spells ends)
word_read text word rest (escaped_slash text' word' spells) ends =
    slash_more (text' ++ rest) ∙ ap (λ (xs : List ℕ). slash ∷ xs) (word_read text' word' rest spells ends)

-- ---- the first byte of a text with a word

pub word_some : (text : List ℕ) → 0 < length (word_at false text) → 0 < length text
word_some [] some = absurd (omega (arith, some, ap length (word_none false)))
word_some (byte ∷ text) some = omega arith

no_blank : (byte : ℕ) → is_symbol byte ≡ true → is_blank byte ≡ false
no_blank byte is = false_from_ne_true (is_blank byte) (λ blank. elim (or_cases (byte == space) (byte == tab) blank) [
  | inl same ↦ false≢true (ap is_symbol (sym (eqb-true byte space same)) ∙ is)
  | inr same ↦ false≢true (ap is_symbol (sym (eqb-true byte tab same)) ∙ is)
])

pub word_stops : (text word rest : List ℕ) → SpellsWord text word → 0 < length word → FailsFirst is_blank (text ++ rest)
word_stops text word rest word_end some = absurd (omega arith)
word_stops text word rest (symbol byte text' word' is spells) some = no_blank byte is
word_stops text word rest (escaped_slash text' word' spells) some = refl
