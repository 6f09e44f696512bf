-- A text with escapes for these characters has none of them.
use Rattle.std.proofs.Common.{◌≡◌, ℕ, ◌+◌, ◌<◌, ◌==◌, ◌||◌, Bool, true, false, cond, List, [], ◌∷◌, ◌++◌, get_or, inl, inr, refl, subst, sym, arith, append_assoc, append-nil}
use Rattle.std.proofs.lemmas.Bool.{cases_Bool, or_parts, true≢false}
use Rattle.json.specs.Json.{Json}
use Rattle.json.specs.Print.{print}
use Rattle.json.specs.Tree.{json_tokens}
use Rattle.json_lines.specs.Controls.{HasNoControls, alone, begins_control, bytes_of, code_of, ends, ends_arabic, ends_control, ends_isolate, ends_mark, escaped_from, first_of, is_first, joined, joins, spelled}
use Rattle.json_lines.specs.Field.{json_text}
use Rattle.json_lines.specs.declared.escapes.Held.{Held}
use Rattle.json_lines.specs.declared.escapes.Held.TheVariants as held
use Rattle.json_lines.proofs.Strings.{Safe, ends_at, spelled_safe}

safe_clear : (x : ℕ) (b : List ℕ) → ((x == 127) || is_first x) ≡ false → HasNoControls b → HasNoControls (x ∷ b)
safe_clear x b safe clear =
    let parts = or_parts (x == 127) (is_first x) safe in
    let first = or_parts (x == 194) ((x == 216) || (x == 226)) parts.1 in
    let more = or_parts (x == 216) (x == 226) first.1 in (rw (parts.0, first.0, more.0, more.1) refl, clear)

safe_before : (a b : List ℕ) → Safe a → HasNoControls b → HasNoControls (a ++ b)
safe_before [] b safe clear = clear
safe_before (x ∷ xs) b safe clear = safe_clear x (xs ++ b) safe.0 (safe_before xs b safe.1 clear)

-- ---- the first byte of a text

-- The test fails for the end of a text, for a backslash, and for each byte that is held first.
record Fails (f : ℕ → Bool) : Type 0 where
  at_end : f 0 ≡ false
  at_escape : f 92 ≡ false
  at_latin : f 194 ≡ false
  at_arabic : f 216 ≡ false
  at_general : f 226 ≡ false

abbrev FailsAt : (ℕ → Bool) → List ℕ → Type 0
FailsAt f text = f (get_or text 0 0) ≡ false

bytes_fail : (f : ℕ → Bool) → Fails f → (p : Held) (text : List ℕ) → (p ≡ held.Nothing → ⊥) → FailsAt f (bytes_of p ++ text)
bytes_fail f fails held.Nothing text some = absurd (some refl)
bytes_fail f fails held.Latin text some = fails.at_latin
bytes_fail f fails held.Arabic text some = fails.at_arabic
bytes_fail f fails held.General text some = fails.at_general
bytes_fail f fails held.Marks text some = fails.at_general
bytes_fail f fails held.Isolates text some = fails.at_general

marks_held : held.Marks ≡ held.Nothing → ⊥
marks_held is = absurd cc

isolates_held : held.Isolates ≡ held.Nothing → ⊥
isolates_held is = absurd cc

latin_held : held.Latin ≡ held.Nothing → ⊥
latin_held is = absurd cc

arabic_held : held.Arabic ≡ held.Nothing → ⊥
arabic_held is = absurd cc

general_held : held.General ≡ held.Nothing → ⊥
general_held is = absurd cc

joined_held : (x : ℕ) → joined x ≡ held.Nothing → ⊥
joined_held x = by (x == 128)
  where
    by : (test : Bool) → cond test held.Marks held.Isolates ≡ held.Nothing → ⊥
    by true = marks_held
    by false = isolates_held

held_fails : (f : ℕ → Bool) → Fails f → (p : Held) (text : List ℕ) → (p ≡ held.Nothing → ⊥) → FailsAt f (escaped_from p text)
unfolding escaped_from
held_fails f fails p [] some = subst (FailsAt f) (append-nil (bytes_of p)) (bytes_fail f fails p [] some)
held_fails f fails p (x ∷ text) some = elim (cases_Bool (ends p x)) [
  | inl end ↦ rw end fails.at_escape
  | inr no_end ↦ elim (cases_Bool (joins p x)) [
    | inl join ↦ rw (no_end, join) (held_fails f fails (joined x) text (joined_held x))
    | inr no_join ↦
        rw (no_end, no_join)
        (subst (FailsAt f) (sym (append_assoc (bytes_of p) (alone x) (escaped_from (first_of x) text))) (bytes_fail f fails p (alone x ++ escaped_from (first_of x) text) some))
  ]
]

first_held : (x : ℕ) → is_first x ≡ true → first_of x ≡ held.Nothing → ⊥
first_held x = by (x == 194) (x == 216) (x == 226)
  where
    by : (latin arabic general : Bool) → (latin || (arabic || general)) ≡ true → cond latin held.Latin (cond arabic held.Arabic (cond general held.General held.Nothing)) ≡ held.Nothing → ⊥
    by true arabic general first = latin_held
    by false true general first = arabic_held
    by false false true first = general_held
    by false false false first = λ is. absurd (true≢false (sym first))

-- the text of a byte alone and of the bytes behind it begins with that byte, or the test fails
alone_fails : (f : ℕ → Bool) → Fails f → (x : ℕ) (text : List ℕ) → f x ≡ false → FailsAt f (alone x ++ escaped_from (first_of x) text)
alone_fails f fails x text is = elim (cases_Bool (x == 127)) [
  | inl delete ↦ rw delete fails.at_escape
  | inr other ↦ elim (cases_Bool (is_first x)) [
    | inl first ↦ rw (other, first) (held_fails f fails (first_of x) text (first_held x first))
    | inr none ↦ rw (other, none) is
  ]
]

control_fails : Fails ends_control
control_fails = record { at_end = refl; at_escape = refl; at_latin = refl; at_arabic = refl; at_general = refl }

arabic_fails : Fails ends_arabic
arabic_fails = record { at_end = refl; at_escape = refl; at_latin = refl; at_arabic = refl; at_general = refl }

mark_fails : Fails ends_mark
mark_fails = record { at_end = refl; at_escape = refl; at_latin = refl; at_arabic = refl; at_general = refl }

isolate_fails : Fails ends_isolate
isolate_fails = record { at_end = refl; at_escape = refl; at_latin = refl; at_arabic = refl; at_general = refl }

abbrev is_second : ℕ → Bool
is_second byte = (byte == 128) || (byte == 129)

second_fails : Fails is_second
second_fails = record { at_end = refl; at_escape = refl; at_latin = refl; at_arabic = refl; at_general = refl }

-- ---- a text with escapes

alone_clear : (x : ℕ) (rest : List ℕ) → HasNoControls rest → HasNoControls (alone x ++ rest)
alone_clear x rest clear = elim (cases_Bool (x == 127)) [
  | inl delete ↦ rw delete (safe_before (spelled 127) rest (spelled_safe 127 (omega arith)) clear)
  | inr other ↦ elim (cases_Bool (is_first x)) [
    | inl first ↦ rw (other, first) clear
    | inr none ↦ rw (other, none) (safe_clear x rest (rw (other, none) refl) clear)
  ]
]

not_general : (text : List ℕ) → is_second (get_or text 0 0) ≡ false → begins_control 226 text ≡ false
not_general text is =
    let parts = or_parts (get_or text 0 0 == 128) (get_or text 0 0 == 129) is in rw (parts.0, parts.1) refl

-- The bytes of a text behind held bytes that it does not continue are none of these characters.
held_clear : (p : Held) (x : ℕ) (text : List ℕ) → ends p x ≡ false → joins p x ≡ false → HasNoControls (escaped_from (first_of x) text) → HasNoControls (bytes_of p ++ (alone x ++ escaped_from (first_of x) text))
held_clear held.Nothing x text no_end no_join clear = alone_clear x (escaped_from (first_of x) text) clear
held_clear held.Latin x text no_end no_join clear = (rw (alone_fails ends_control control_fails x text no_end) refl, alone_clear x (escaped_from (first_of x) text) clear)
held_clear held.Arabic x text no_end no_join clear = (rw (alone_fails ends_arabic arabic_fails x text no_end) refl, alone_clear x (escaped_from (first_of x) text) clear)
held_clear held.General x text no_end no_join clear =
    (not_general (alone x ++ escaped_from (first_of x) text) (alone_fails is_second second_fails x text no_join), alone_clear x (escaped_from (first_of x) text) clear)
held_clear held.Marks x text no_end no_join clear = (rw (alone_fails ends_mark mark_fails x text no_end) refl, (refl, alone_clear x (escaped_from (first_of x) text) clear))
held_clear held.Isolates x text no_end no_join clear = (rw (alone_fails ends_isolate isolate_fails x text no_end) refl, (refl, alone_clear x (escaped_from (first_of x) text) clear))

bytes_clear : (p : Held) → HasNoControls (bytes_of p)
bytes_clear held.Nothing = tt
bytes_clear held.Latin = (refl, tt)
bytes_clear held.Arabic = (refl, tt)
bytes_clear held.General = (refl, tt)
bytes_clear held.Marks = (refl, (refl, tt))
bytes_clear held.Isolates = (refl, (refl, tt))

spelled_clear : (p : Held) (x : ℕ) (rest : List ℕ) → ends p x ≡ true → HasNoControls rest → HasNoControls (spelled (code_of p x) ++ rest)
spelled_clear p x rest is clear =
    let below = (ends_at p x is).below in safe_before (spelled (code_of p x)) rest (spelled_safe (code_of p x) (omega arith)) clear

clear_from : (p : Held) (text : List ℕ) → HasNoControls (escaped_from p text)
unfolding escaped_from
clear_from p [] = bytes_clear p
clear_from p (x ∷ text) = elim (cases_Bool (ends p x)) [
  | inl end ↦ rw end (spelled_clear p x (escaped_from held.Nothing text) end (clear_from held.Nothing text))
  | inr no_end ↦ elim (cases_Bool (joins p x)) [
    | inl join ↦ rw (no_end, join) (clear_from (joined x) text)
    | inr no_join ↦
        rw (no_end, no_join)
        (subst HasNoControls (sym (append_assoc (bytes_of p) (alone x) (escaped_from (first_of x) text))) (held_clear p x text no_end no_join (clear_from (first_of x) text)))
  ]
]

pub clear_text : (value : Json) → HasNoControls (json_text value)
unfolding json_text
clear_text value = clear_from held.Nothing (print (json_tokens value))
