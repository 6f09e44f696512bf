-- A line whose key is as long as the line has nothing before its key.
use Rattle.std.proofs.Common.{◌≡◌, ℕ, ◌==◌, true, false, List, [], ◌∷◌, ◌++◌, length, Option, Some, None, refl, sym, ap, ◌∙◌, arith, append_assoc, inl, inr}
use Rattle.std.proofs.lemmas.Bool.{both_ways, cases_Bool, false_from_ne_true}
use Rattle.std.proofs.lemmas.Bool.Decides.{Decides-eqb}
use Rattle.std.proofs.lemmas.List.{length-append}
use Rattle.key_text.specs.Blanks.{after_blanks, first_word}
use Rattle.key_text.specs.LineReading.{after_options, key_part, part_after, typed}
use Rattle.key_text.specs.TypeName.{is_type_name}
use Rattle.key_text.proofs.LineOptions.{options_take}
use Rattle.key_text.proofs.LineWords.{blanks_cut, leading}
use Rattle.text_entries.specs.Values.{begins_with_key}

-- nothing is before a part that is as long as the whole
none_before : (front back : List ℕ) → length (front ++ back) ≡ length back → front ++ back ≡ back
none_before [] back same = refl
none_before (x ∷ front) back same = absurd (omega (arith, length-append front back))

-- a text that begins with a type name is the part
typed_is : (text part : List ℕ) → typed text ≡ Some part → (text ≡ part) × (begins_with_key part ≡ true)
unfolding typed
typed_is text part is = elim (cases_Bool (is_type_name (first_word text))) [
  | inl named ↦
      let found : Some text ≡ Some part = rw named at is in
      let same : text ≡ part = cc in
      (same, sym (ap begins_with_key same) ∙ named)
  | inr other ↦ absurd (let none : None ≡ Some part = rw other at is in cc)
]

-- what is before a key after options and blanks
before_key : (line rest : List ℕ) → after_options false false line ≡ Some rest
    → (front : List ℕ) × (line ≡ front ++ after_blanks rest)
before_key line rest is =
    let taken = options_take line rest is in
    let whole = taken.whole ∙ ap (λ (text : List ℕ). taken.field ++ text) (blanks_cut rest).0 in
    (taken.field ++ leading rest, whole ∙ sym (append_assoc taken.field (leading rest) (after_blanks rest)))

-- a key behind something is shorter than the line
shorter : (line part : List ℕ) (after : Option (List ℕ)) → begins_with_key line ≡ false
    → after_options false false line ≡ after → part_after after ≡ Some part → (length part == length line) ≡ false
shorter line part None other after is = absurd cc
shorter line part (Some rest) other after is =
    let (same, named) = typed_is (after_blanks rest) part is in
    let (front, whole) = before_key line rest after in
    let spelled : line ≡ front ++ part = rw same at whole in
    false_from_ne_true (length part == length line) (λ equal.
    let long : length part ≡ length line = (Decides-eqb (length part) (length line)).0 equal in
    let all : line ≡ part = spelled ∙ none_before front part (sym (ap length spelled) ∙ sym long) in
    both_ways (begins_with_key line) other (ap begins_with_key all ∙ named))

-- The part that has the key is as long as the line exactly if the line begins with its type name.
pub whole_is : (line part : List ℕ) → key_part line ≡ Some part → (length part == length line) ≡ begins_with_key line
unfolding key_part
whole_is line part is = elim (cases_Bool (begins_with_key line)) [
  | inl named ↦
      let found : Some line ≡ Some part = rw named at is in
      let same : line ≡ part = cc in
      rw (named, same) ((Decides-eqb (length part) (length part)).1 refl)
  | inr other ↦ shorter line part _ other refl (rw other at is) ∙ sym other
]

-- and a line without such a part does not begin with one
pub no_part : (line : List ℕ) → key_part line ≡ None → false ≡ begins_with_key line
unfolding key_part
no_part line is = elim (cases_Bool (begins_with_key line)) [
  | inl named ↦ absurd (let found : Some line ≡ None = rw named at is in cc)
  | inr other ↦ sym other
]
