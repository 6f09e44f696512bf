-- A text spells the bytes that are read from it, and no others; what sshd writes of bytes spells them.
use Rattle.std.proofs.Common.{◌≡◌, ◌≢◌, ℕ, ◌+◌, ◌-◌, ◌*◌, ◌/◌, ◌%◌, ◌<◌, ◌≤◌, List, [], ◌∷◌, ◌++◌, length, ◌==◌, ◌&&◌}
use Rattle.std.proofs.Common.{not, Some, None, refl, sym, ap, subst, ◌∙◌, arith, inl, inr}
use Rattle.std.proofs.lemmas.Bool.Decides.{nat_tests}
use Rattle.std.proofs.lemmas.List.{append-nil, append_assoc}
use Rattle.std.proofs.lemmas.Bool.{and_parts, cases_Bool, cases_eq, eq-eqb, eqb-false, ne_eqb, not-true}
use Rattle.std.specs.Prelude.{option_map}
use Rattle.std.specs.List.{find}
use Rattle.ssh_wire.specs.Wire.{IsBytes}
use Rattle.ssh_wire.proofs.Digits.{IsBytes-back}
use Rattle.login_lines.proofs.Parts.{option_cases, some_is}
use Rattle.login_lines.specs.Escapes.{Escapes, byte_at, escaped_at, escapes_itself, escapes_letter, escapes_nothing}
use Rattle.login_lines.specs.Escapes.{escapes_octal, is_printable, is_safe, letter_for, letter_of, letters, octal_at}
use Rattle.login_lines.specs.Escapes.{octal_of, octal_text, syslog_byte, syslog_text, terminal_byte, terminal_text}

-- ---- the first byte of a text

itself_at : (byte : ℕ) (rest : List ℕ) → byte ≢ 92 → byte_at (byte ∷ rest) ≡ Some (byte, rest)
unfolding byte_at
itself_at byte [] other = rw (ne_eqb byte 92 other) refl
itself_at byte (next ∷ rest) other = rw (ne_eqb byte 92 other) refl

letter_at : (letter byte : ℕ) (rest : List ℕ) → letter_of letter ≡ Some byte
    → byte_at (92 ∷ letter ∷ rest) ≡ Some (byte, rest)
unfolding byte_at
letter_at letter byte rest stands = ap (escaped_at letter rest) stands

digits_at : (a b c byte : ℕ) (rest : List ℕ) → letter_of a ≡ None → octal_of a b c ≡ Some byte
    → byte_at (92 ∷ a ∷ b ∷ c ∷ rest) ≡ Some (byte, rest)
unfolding byte_at octal_at
digits_at a b c byte rest none stands = ap (escaped_at a (b ∷ c ∷ rest)) none ∙ ap (option_map (λ k. (k, rest))) stands

-- the first byte that a text spells is the one that is read, and the rest spells the others
first_read : (text bytes : List ℕ) → 0 < length text → Escapes text bytes
    → (byte : ℕ) × (rest others : List ℕ) × (byte_at text ≡ Some (byte, rest)) × Escapes rest others × (bytes ≡ byte ∷ others)
first_read text bytes some escapes_nothing = absurd (omega arith)
first_read text bytes some (escapes_itself byte rest others other is) =
    (byte, rest, others, itself_at byte rest other, is, refl)
first_read text bytes some (escapes_letter letter byte rest others stands is) =
    (byte, rest, others, letter_at letter byte rest stands, is, refl)
first_read text bytes some (escapes_octal a b c byte rest others none stands is) =
    (byte, rest, others, digits_at a b c byte rest none stands, is, refl)

abbrev Follows : List ℕ → List ℕ → ℕ × List ℕ → Type 0
Follows text others q = Escapes q.1 others → Escapes text (q.0 ∷ others)

follows : (text others : List ℕ) (p q : ℕ × List ℕ) → Some p ≡ Some q → Follows text others p → Follows text others q
follows text others p q e f = subst (Follows text others) (some_is p q e) f

-- what is read of a text, before what the rest spells, is what the text spells
pub read_escapes : (text others : List ℕ) (q : ℕ × List ℕ) → byte_at text ≡ Some q → Follows text others q
unfolding byte_at octal_at
read_escapes [] others q e = absurd cc
read_escapes (x ∷ []) others q e = elim (cases_eq x 92) [
  | inl slash ↦ absurd (let h = rw (eq-eqb x 92 slash) at e in cc)
  | inr other ↦ follows (x ∷ []) others (x, []) q (sym (itself_at x [] other) ∙ e) (λ is. escapes_itself x [] others other is)
]
read_escapes (x ∷ y ∷ rest) others q e = elim (cases_eq x 92) [
  | inr other ↦ follows (x ∷ y ∷ rest) others (x, y ∷ rest) q (sym (itself_at x (y ∷ rest) other) ∙ e) (λ is. escapes_itself x (y ∷ rest) others other is)
  | inl slash ↦
      let read : escaped_at y rest (letter_of y) ≡ Some q = rw (eq-eqb x 92 slash) at e in
      subst (λ (k : ℕ). Follows (k ∷ y ∷ rest) others q) (sym slash) (elim (option_cases (letter_of y)) [
        | inr letter ↦ follows (92 ∷ y ∷ rest) others (letter.0, rest) q (sym (ap (escaped_at y rest) letter.1) ∙ read) (λ is. escapes_letter y letter.0 rest others letter.1 is)
        | inl none ↦ digits rest none (sym (ap (escaped_at y rest) none) ∙ read)
      ])
]
  where
    digits : (rest : List ℕ) → letter_of y ≡ None → octal_at (y ∷ rest) ≡ Some q → Follows (92 ∷ y ∷ rest) others q
    digits [] none e = absurd cc
    digits (b ∷ []) none e = absurd cc
    digits (b ∷ c ∷ rest) none e = elim (option_cases (octal_of y b c)) [
      | inl no_byte ↦ absurd (let h = sym (ap (option_map (λ k. (k, rest))) no_byte) ∙ e in cc)
      | inr byte ↦ follows (92 ∷ y ∷ b ∷ c ∷ rest) others (byte.0, rest) q (sym (ap (option_map (λ k. (k, rest))) byte.1) ∙ e) (λ is. escapes_octal y b c byte.0 rest others none byte.1 is)
    ]

pub nil_only : (bytes : List ℕ) → Escapes [] bytes → bytes ≡ []
nil_only bytes escapes_nothing = refl

-- ---- one reading

-- the same, for the byte and the rest that are read
next_is : (text bytes : List ℕ) (p : ℕ × List ℕ) → byte_at text ≡ Some p → Escapes text bytes
    → (others : List ℕ) × Escapes p.1 others × (bytes ≡ p.0 ∷ others)
unfolding byte_at
next_is [] bytes p read is = absurd cc
next_is (x ∷ text) bytes p read is =
    let f = first_read (x ∷ text) bytes (omega arith) is in
    let given : ℕ × List ℕ = (f.0, f.1) in
    let same : given ≡ p = some_is given p (sym f.3 ∙ read) in
    (f.2, subst (λ (q : ℕ × List ℕ). Escapes q.1 f.2) same f.4, f.5 ∙ ap (λ (q : ℕ × List ℕ). q.0 ∷ f.2) same)

joined : (text bytes rest others : List ℕ) (byte : ℕ) → byte_at text ≡ Some (byte, rest) → Escapes text bytes
    → ((more : List ℕ) → Escapes rest more → others ≡ more) → (byte ∷ others) ≡ bytes
joined text bytes rest others byte read is same =
    let n = next_is text bytes (byte, rest) read is in ap (λ (xs : List ℕ). byte ∷ xs) (same n.0 n.1) ∙ sym n.2

pub one_reading : (text a b : List ℕ) → Escapes text a → Escapes text b → a ≡ b
one_reading text a b escapes_nothing q = sym (nil_only b q)
one_reading text a b (escapes_itself byte rest others other is) q =
    joined (byte ∷ rest) b rest others byte (itself_at byte rest other) q (λ more s. one_reading rest others more is s)
one_reading text a b (escapes_letter letter byte rest others stands is) q =
    joined (92 ∷ letter ∷ rest) b rest others byte (letter_at letter byte rest stands) q (λ more s. one_reading rest others more is s)
one_reading text a b (escapes_octal x y z byte rest others none stands is) q =
    joined (92 ∷ x ∷ y ∷ z ∷ rest) b rest others byte (digits_at x y z byte rest none stands) q (λ more s. one_reading rest others more is s)

-- ---- one byte more

pub spells_more : (text rest next items new : List ℕ) (byte : ℕ) → byte_at rest ≡ Some (byte, next)
    → new ≡ items ++ (byte ∷ [])
    → ((more : List ℕ) → Escapes rest more → Escapes text (items ++ more)) → (more : List ℕ) → Escapes next more
    → Escapes text (new ++ more)
spells_more text rest next items new byte read pushed so_far more is =
    let same : items ++ (byte ∷ more) ≡ new ++ more =
    sym (append_assoc items (byte ∷ []) more) ∙ ap (λ (xs : List ℕ). xs ++ more) (sym pushed) in
    subst (Escapes text) same (so_far (byte ∷ more) (read_escapes rest more (byte, next) read is))

-- all that a text spells begins with the bytes so far
abbrev pub Only : List ℕ → List ℕ → List ℕ → Type 0
Only text rest items = (all : List ℕ) → Escapes text all → (more : List ℕ) × Escapes rest more × (all ≡ items ++ more)

pub only_more : (text rest next items new : List ℕ) (byte : ℕ) → byte_at rest ≡ Some (byte, next)
    → new ≡ items ++ (byte ∷ [])
    → Only text rest items → Only text next new
only_more text rest next items new byte read pushed only all is =
    let o = only all is in
    let n = next_is rest o.0 (byte, next) read o.1 in
    (n.0, n.1, o.2 ∙ ap (λ (xs : List ℕ). items ++ xs) n.2 ∙ sym (append_assoc items (byte ∷ []) n.0) ∙ ap (λ (xs : List ℕ). xs ++ n.0) (sym pushed))

pub none_more : (text rest items : List ℕ) → 0 < length rest → byte_at rest ≡ None → Only text rest items
    → (bytes : List ℕ) → ¬ Escapes text bytes
none_more text rest items some none only bytes is =
    let o = only bytes is in
    let f = first_read rest o.0 some o.1 in
    let h = sym f.3 ∙ none in
    absurd cc

pub all_read : (text rest items : List ℕ) → length rest ≡ 0
    → ((more : List ℕ) → Escapes rest more → Escapes text (items ++ more)) → Escapes text items
all_read text [] items e so_far = subst (Escapes text) (append-nil items) (so_far [] escapes_nothing)
all_read text (x ∷ xs) items e so_far = absurd (omega arith)

-- ---- what sshd writes

digit_no_letter : (d : ℕ) → 48 ≤ d → d ≤ 55 → letter_of d ≡ None
unfolding letter_of
digit_no_letter d low high =
    rw (ne_eqb d 92 (omega arith), ne_eqb d 110 (omega arith), ne_eqb d 116 (omega arith), ne_eqb d 114 (omega arith), ne_eqb d 97 (omega arith), ne_eqb d 98 (omega arith), ne_eqb d 118 (omega arith), ne_eqb d 102 (omega arith)) refl

octal_is : (a b c : ℕ) → a ≤ 3 → b ≤ 7 → c ≤ 7
    → octal_of (48 + a) (48 + b) (48 + c) ≡ Some (64 * (48 + a - 48) + 8 * (48 + b - 48) + (48 + c - 48))
unfolding octal_of
octal_is a b c x y z = grind (arith, nat_tests)

octal_read : (byte : ℕ) (text bytes : List ℕ) → byte < 256 → Escapes text bytes
    → Escapes (octal_text byte ++ text) (byte ∷ bytes)
octal_read byte text bytes fits is =
    let value : 64 * (48 + byte / 64 - 48) + 8 * (48 + byte / 8 % 8 - 48) + (48 + byte % 8 - 48) ≡ byte = omega arith in
    escapes_octal (48 + byte / 64) (48 + byte / 8 % 8) (48 + byte % 8) byte text bytes (digit_no_letter (48 + byte / 64) (omega arith) (omega arith))
    (octal_is (byte / 64) (byte / 8 % 8) (byte % 8) (omega arith) (omega arith) (omega arith) ∙ ap (λ (k : ℕ). Some k) value) is

-- each letter represents the byte in its row
abbrev Stand : List (ℕ × ℕ) → Type 0
Stand [] = Unit {0}
Stand (row ∷ rows) = (letter_of row.0 ≡ Some row.1) × Stand rows

letters_stand : Stand letters
unfolding letter_of
letters_stand = (refl, (refl, (refl, (refl, (refl, (refl, (refl, (refl, tt))))))))

letter_found : (rows : List (ℕ × ℕ)) (byte letter : ℕ) → Stand rows
    → option_map (λ row. row.0) (find (λ row. byte == row.1) rows) ≡ Some letter
    → letter_of letter ≡ Some byte
letter_found [] byte letter stand e = absurd cc
letter_found (row ∷ rows) byte letter stand e = elim (cases_eq byte row.1) [
  | inl same ↦ let first : row.0 ≡ letter = let h = rw (eq-eqb byte row.1 same) at e in cc in sym (ap letter_of first)
      ∙ stand.0 ∙ ap (λ (k : ℕ). Some k) (sym same)
  | inr other ↦ letter_found rows byte letter stand.1 (rw (ne_eqb byte row.1 other) at e)
]

letter_stands : (byte letter : ℕ) → letter_for byte ≡ Some letter → letter_of letter ≡ Some byte
unfolding letter_for
letter_stands byte letter e = letter_found letters byte letter letters_stand e

slash_read : (byte : ℕ) (text bytes : List ℕ) → byte ≡ 92 → Escapes text bytes → Escapes (92 ∷ 92 ∷ text) (byte ∷ bytes)
slash_read byte text bytes slash is =
    subst (λ (k : ℕ). Escapes (92 ∷ 92 ∷ text) (k ∷ bytes)) (sym slash) (escapes_letter 92 92 text bytes letters_stand.0 is)

terminal_byte_read : (byte : ℕ) (text bytes : List ℕ) → byte < 256 → Escapes text bytes
    → Escapes (terminal_byte byte ++ text) (byte ∷ bytes)
unfolding terminal_byte
terminal_byte_read byte text bytes fits is = elim (cases_eq byte 92) [
  | inl slash ↦ rw (eq-eqb byte 92 slash) (slash_read byte text bytes slash is)
  | inr other ↦ elim (cases_Bool (is_safe byte)) [
    | inl safe ↦ rw (ne_eqb byte 92 other, safe) (escapes_itself byte text bytes other is)
    | inr control ↦ rw (ne_eqb byte 92 other, control) (octal_read byte text bytes fits is)
  ]
]

pub terminal_read : (bytes : List ℕ) → IsBytes bytes → Escapes (terminal_text bytes) bytes
terminal_read [] fits = escapes_nothing
terminal_read (byte ∷ bytes) fits =
    terminal_byte_read byte (terminal_text bytes) bytes (fits 0) (terminal_read bytes (IsBytes-back (byte ∷ []) bytes fits))

syslog_byte_read : (byte : ℕ) (text bytes : List ℕ) → byte < 256 → Escapes text bytes
    → Escapes (syslog_byte byte ++ text) (byte ∷ bytes)
unfolding syslog_byte
syslog_byte_read byte text bytes fits is = elim (cases_Bool (is_printable byte && not (byte == 92))) [
  | inl plain ↦
      let other : byte ≢ 92 =
      eqb-false byte 92 (not-true (byte == 92) (and_parts (is_printable byte) (not (byte == 92)) plain).1) in
      rw plain (escapes_itself byte text bytes other is)
  | inr control ↦ elim (option_cases (letter_for byte)) [
    | inl none ↦ rw (control, none) (octal_read byte text bytes fits is)
    | inr letter ↦ rw (control, letter.1) (escapes_letter letter.0 byte text bytes (letter_stands byte letter.0 letter.1) is)
  ]
]

pub syslog_read : (bytes : List ℕ) → IsBytes bytes → Escapes (syslog_text bytes) bytes
syslog_read [] fits = escapes_nothing
syslog_read (byte ∷ bytes) fits =
    syslog_byte_read byte (syslog_text bytes) bytes (fits 0) (syslog_read bytes (IsBytes-back (byte ∷ []) bytes fits))
