-- The names of types: where the first word of a text ends, and which words are names.
use Rattle.std.proofs.Common.{◌≡◌, ℕ, ◌+◌, ◌<◌, ◌≤◌, Bool, true, false, not, List, [], ◌∷◌, ◌++◌, Some, None, length}
use Rattle.std.proofs.Common.{take, drop, min, get_or, is_some, if◌then◌else◌, refl, sym, ap, subst, ◌∙◌, ◌-◌, ◌==◌}
use Rattle.std.proofs.Common.{◌&&◌, ◌||◌, nat_lt, append_assoc, arith, inl, inr}
use Rattle.std.proofs.lemmas.Bool.{and_parts, cases_Bool, cases_lt, eqb-true, false_from_ne_true, false≢true, lt-ltb}
use Rattle.std.proofs.lemmas.Bool.{ltb-true, not-true, or_cases, or_left, or_right}
use Rattle.std.proofs.lemmas.List.{append-nil, drop_all, drop_more, get_or-take, get_or_at, length-append, length-take}
use Rattle.std.proofs.lemmas.List.{take_more}
use Rattle.std.proofs.lemmas.List.Sums.{prefix_len_is, prefix_len_stops, prefix_len-le-length}
use Rattle.std.specs.List.{AllPass, prefix_len}
use Rattle.ssh_wire.specs.Ascii.{backslash}
use Rattle.key_text.specs.Blanks.{after_blanks, first_word, is_blank}
use Rattle.key_text.specs.LineReading.{after_word, host_part, typed}
use Rattle.key_text.specs.TypeName.{certificate_names, is_type_name, plain_names, type_names}
use Rattle.key_text.proofs.LineNames.{Contains-from_test, name_is_word}
use Rattle.key_text.proofs.LineWords.{not_blank, word_front}
use Rattle.key_places.specs.Name.{MayPrecede, after_escape, before_rest, escape, is_escape_letter, is_name_byte}
use Rattle.key_places.specs.Name.{may_begin, name_at, nothing, other_byte}

-- ---- a word without blanks

no_name : typed (after_blanks []) ≡ None
unfolding typed after_blanks first_word is_type_name type_names plain_names certificate_names
no_name = refl

chosen : (b : Bool) (word : List ℕ) → is_some (if b then Some word else None) ≡ b
chosen true word = refl
chosen false word = refl

pub name_alone : (word : List ℕ) → AllPass not_blank word → is_some (host_part word) ≡ is_type_name word
unfolding host_part
name_alone word each =
    let whole = rw append-nil at (word_front word [] each tt) in
    rw (whole.0, whole.1, no_name) (chosen (is_type_name word) word)

-- ---- the end of the first word

pub first_word_is : (text : List ℕ) (i : ℕ) → i ≤ length text → ((k : ℕ) → k < i → is_blank (get_or text k 0) ≡ false)
    → (i < length text → is_blank (get_or text i 0) ≡ true)
    → (first_word text ≡ take i text) × (after_word text ≡ drop i text)
unfolding first_word after_word
first_word_is text i within none ends =
    let size : prefix_len not_blank text ≡ i =
    prefix_len_is not_blank text i 0 within (λ k h. ap not (none k h)) (λ h. ap not (ends h)) in
    (ap (λ (n : ℕ). take n text) size, ap (λ (n : ℕ). drop n text) size)

pub name_before_blank : (text : List ℕ) (i : ℕ) → i < length text
    → ((k : ℕ) → k < i → is_blank (get_or text k 0) ≡ false) → is_blank (get_or text i 0) ≡ true
    → name_at text ≡ (if is_type_name (take i text) then Some (take i text, drop i text) else None)
unfolding name_at
name_before_blank text i within none blank =
    let parts = first_word_is text i (omega arith) none (λ h. blank) in
    rw (parts.0, parts.1, drop_more text i 0 within) refl

-- the name before the first blank, as the code splits it off
pub name_found : (text front back : List ℕ) (i : ℕ) → i < length text
    → ((k : ℕ) → k < i → is_blank (get_or text k 0) ≡ false) → is_blank (get_or text i 0) ≡ true
    → front ≡ take i text → back ≡ drop i text → is_type_name front ≡ true → Some (front, back) ≡ name_at text
name_found text front back i within none blank fronts backs is =
    let named : is_type_name (take i text) ≡ true = ap is_type_name (sym fronts) ∙ is in
    sym (name_before_blank text i within none blank ∙ rw (named, fronts, backs) refl)

pub name_refused : (text front : List ℕ) (i : ℕ) → i < length text
    → ((k : ℕ) → k < i → is_blank (get_or text k 0) ≡ false) → is_blank (get_or text i 0) ≡ true
    → front ≡ take i text → is_type_name front ≡ false → None ≡ name_at text
name_refused text front i within none blank fronts other =
    let unnamed : is_type_name (take i text) ≡ false = ap is_type_name (sym fronts) ∙ other in
    sym (name_before_blank text i within none blank ∙ rw unnamed refl)

unnamed : (name rest : List ℕ) → is_type_name name ≡ false → before_rest name rest ≡ None
unnamed name [] other = refl
unnamed name (byte ∷ rest) other = rw other refl

long_is_no_name : (word : List ℕ) → 64 ≤ length word → is_type_name word ≡ false
long_is_no_name word long = elim (cases_Bool (is_type_name word)) [
  | inl is ↦ absurd (omega (arith, (name_is_word word (Contains-from_test word is)).1))
  | inr other ↦ other
]

-- a word with no blank among its first bytes
long_word : (text : List ℕ) (i : ℕ) → i < length text → ((k : ℕ) → k < i → is_blank (get_or text k 0) ≡ false)
    → i ≤ length (first_word text)
unfolding first_word
long_word text i within none = elim (cases_lt (prefix_len not_blank text) i) [
  | inl lt ↦
      let stops = prefix_len_stops not_blank text 0 (omega arith) in
      absurd (false≢true (sym stops ∙ ap not (none (prefix_len not_blank text) lt)))
  | inr le ↦ rw length-take (omega (arith, prefix_len-le-length not_blank text))
]

pub no_name_before_blank : (text : List ℕ) (i : ℕ) → i ≡ min (length text) 64
    → ((k : ℕ) → k < i → is_blank (get_or text k 0) ≡ false) → name_at text ≡ None
unfolding name_at
no_name_before_blank text i size none = elim (cases_lt i (length text)) [
  | inl lt ↦
      let long : 64 ≤ length (first_word text) = omega (arith, long_word text i lt none) in
      unnamed (first_word text) (after_word text) (long_is_no_name (first_word text) long)
  | inr le ↦
      let parts = first_word_is text i (omega arith) none (λ h. absurd (omega arith)) in
      rw (parts.1, drop_all i text le) refl
]

-- ---- what a name is

pub before_rest_takes : (name rest : List ℕ) (p : List ℕ × List ℕ) → before_rest name rest ≡ Some p
    → (is_type_name name ≡ true) × (name ≡ p.0) × (rest ≡ p.1)
before_rest_takes name [] p e = absurd cc
before_rest_takes name (byte ∷ rest) p e = elim (cases_Bool (is_type_name name)) [
  | inl is ↦ let some : Some (name, byte ∷ rest) ≡ Some p = rw is at e in let same : (name, byte ∷ rest) ≡ p = cc in
      (is, ap (λ (q : List ℕ × List ℕ). q.0) same, ap (λ (q : List ℕ × List ℕ). q.1) same)
  | inr other ↦ let none : None ≡ Some p = rw other at e in absurd cc
]

pub name_takes : (text : List ℕ) (p : List ℕ × List ℕ) → name_at text ≡ Some p
    → (is_type_name (first_word text) ≡ true) × (first_word text ≡ p.0) × (after_word text ≡ p.1)
unfolding name_at
name_takes text p e = before_rest_takes (first_word text) (after_word text) p e

before_rest_some : (name rest : List ℕ) → is_type_name name ≡ true → 0 < length rest
    → before_rest name rest ≡ Some (name, rest)
before_rest_some name [] is some = absurd (omega arith)
before_rest_some name (byte ∷ rest) is some = rw is refl

pub name_again : (text name rest : List ℕ) → is_type_name name ≡ true → first_word text ≡ name → after_word text ≡ rest
    → 0 < length rest → name_at text ≡ Some (name, rest)
unfolding name_at
name_again text name rest is first after some = rw (first, after) (before_rest_some name rest is some)

-- a byte of the first word
pub word_reads : (text : List ℕ) (k : ℕ) → k < length (first_word text)
    → (get_or (first_word text) k 0 ≡ get_or text k 0) × (k < length text)
unfolding first_word
word_reads text k inside =
    let size = length-take (prefix_len not_blank text) text in
    (get_or-take (prefix_len not_blank text) text k 0 (omega arith), omega arith)

-- ---- what may be before a name

precede_byte : (line : List ℕ) (k : ℕ) → k < length line → is_name_byte (get_or line k 0) ≡ false
    → MayPrecede (take (k + 1) line)
precede_byte line k within other = rw (take_more line k 0 within) (other_byte (take k line) (get_or line k 0) other)

precede_escape : (line : List ℕ) (k : ℕ) → k + 1 < length line → get_or line k 0 ≡ backslash
    → is_escape_letter (get_or line (k + 1) 0) ≡ true → MayPrecede (take (k + 1 + 1) line)
precede_escape line k within begins is =
    let first : take (k + 1) line ≡ take k line ++ backslash ∷ [] =
    take_more line k 0 (omega arith) ∙ ap (λ (b : ℕ). take k line ++ b ∷ []) begins in
    let both : take (k + 1 + 1) line ≡ take k line ++ backslash ∷ get_or line (k + 1) 0 ∷ [] =
    take_more line (k + 1) 0 within
    ∙ (ap (λ (xs : List ℕ). xs ++ get_or line (k + 1) 0 ∷ []) first
    ∙ append_assoc (take k line) (backslash ∷ []) (get_or line (k + 1) 0 ∷ [])) in
    rw both (escape (take k line) (get_or line (k + 1) 0) is)

precede_later : (line : List ℕ) (at : ℕ) → at ≤ length line → 0 < at
    → (not (is_name_byte (get_or line (at - 1) 0)) || after_escape line at) ≡ true → MayPrecede (take at line)
precede_later line at within some begins =
    elim (or_cases (not (is_name_byte (get_or line (at - 1) 0))) (after_escape line at) begins) [
      | inl other ↦
          let same : at - 1 + 1 ≡ at = omega arith in
          subst (λ (n : ℕ). MayPrecede (take n line)) same
          (precede_byte line (at - 1) (omega arith) (not-true (is_name_byte (get_or line (at - 1) 0)) other))
      | inr escaped ↦
          let two =
          and_parts (nat_lt 1 at)
          ((get_or line (at - 2) 0 == backslash) && is_escape_letter (get_or line (at - 1) 0)) escaped in
          let bytes =
          and_parts (get_or line (at - 2) 0 == backslash) (is_escape_letter (get_or line (at - 1) 0)) two.1 in
          let long : 1 < at = ltb-true 1 at two.0 in
          let next : at - 1 ≡ at - 2 + 1 = omega arith in
          let same : at - 2 + 1 + 1 ≡ at = omega arith in
          let letter : is_escape_letter (get_or line (at - 2 + 1) 0) ≡ true =
          subst (λ (n : ℕ). is_escape_letter (get_or line n 0) ≡ true) next bytes.1 in
          subst (λ (n : ℕ). MayPrecede (take n line)) same
          (precede_escape line (at - 2) (omega arith) (eqb-true (get_or line (at - 2) 0) backslash bytes.0) letter)
    ]

pub may_precede : (line : List ℕ) (at : ℕ) → at ≤ length line → may_begin line at ≡ true → MayPrecede (take at line)
unfolding may_begin
may_precede line at within begins = elim (cases_lt 0 at) [
  | inl some ↦
      let later : (at == 0) ≡ false = false_from_ne_true (at == 0) (λ e. absurd (omega (arith, eqb-true at 0 e))) in
      precede_later line at within some (rw later at begins)
  | inr none ↦ let zero : at ≡ 0 = omega arith in rw zero nothing
]

begins_by_byte : (line : List ℕ) (at : ℕ) → is_name_byte (get_or line (at - 1) 0) ≡ false → may_begin line at ≡ true
unfolding may_begin
begins_by_byte line at other =
    or_right (at == 0) (not (is_name_byte (get_or line (at - 1) 0)) || after_escape line at)
    (or_left (not (is_name_byte (get_or line (at - 1) 0))) (after_escape line at) (ap not other))

begins_by_escape : (line : List ℕ) (at : ℕ) → 1 < at → get_or line (at - 2) 0 ≡ backslash
    → is_escape_letter (get_or line (at - 1) 0) ≡ true → may_begin line at ≡ true
unfolding may_begin
begins_by_escape line at long begins is =
    let bytes : (get_or line (at - 2) 0 == backslash) ≡ true = rw begins refl in
    let escaped : after_escape line at ≡ true = rw (lt-ltb 1 at long, bytes, is) refl in
    or_right (at == 0) (not (is_name_byte (get_or line (at - 1) 0)) || after_escape line at)
    (or_right (not (is_name_byte (get_or line (at - 1) 0))) (after_escape line at) escaped)

starts_line : (rest : List ℕ) → may_begin rest 0 ≡ true
unfolding may_begin
starts_line rest = refl

pub begins_after : (front rest : List ℕ) → MayPrecede front → may_begin (front ++ rest) (length front) ≡ true
begins_after front rest nothing = starts_line rest
begins_after front rest (other_byte before byte other) =
    let front : List ℕ = before ++ byte ∷ [] in
    let size : length front - 1 ≡ length before = omega (arith, length-append before (byte ∷ [])) in
    let read : get_or (front ++ rest) (length front - 1) 0 ≡ byte =
    rw (size, append_assoc before (byte ∷ []) rest) (get_or_at before byte rest 0 (length before) refl) in
    begins_by_byte (front ++ rest) (length front) (rw read other)
begins_after front rest (escape before letter is) =
    let front : List ℕ = before ++ backslash ∷ letter ∷ [] in
    let long = length-append before (backslash ∷ letter ∷ []) in
    let first : length front - 2 ≡ length before = omega arith in
    let second : length front - 1 ≡ length before + 1 = omega arith in
    let read : get_or (front ++ rest) (length front - 2) 0 ≡ backslash =
    rw (first, append_assoc before (backslash ∷ letter ∷ []) rest)
    (get_or_at before backslash (letter ∷ rest) 0 (length before) refl) in
    let whole : (before ++ backslash ∷ []) ++ letter ∷ rest ≡ front ++ rest =
    append_assoc before (backslash ∷ []) (letter ∷ rest) ∙ sym (append_assoc before (backslash ∷ letter ∷ []) rest) in
    let next : get_or (front ++ rest) (length front - 1) 0 ≡ letter =
    rw (second, ← whole) (get_or_at (before ++ backslash ∷ []) letter rest 0 (length before + 1)
    (length-append before (backslash ∷ []))) in
    begins_by_escape (front ++ rest) (length front) (omega arith) read (rw next is)
