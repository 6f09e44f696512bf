-- Content that begins with a last day begins with no word, no mark and no key.
use Rattle.std.proofs.Common.{◌≡◌, ◌≢◌, ◌⊎◌, ℕ, ◌==◌, nat_lt, not, true, false, List, [], ◌∷◌, length, Option, Some, None, refl, sym, ap, ◌∙◌, inl, inr}
use Rattle.std.specs.List.{before_first, position_or_len}
use Rattle.std.proofs.lemmas.Bool.{cases_Bool, false≢true}
use Rattle.std.proofs.lemmas.Bool.Decides.{Decides-eqb}
use Rattle.std.proofs.lemmas.List.Sums.{take_while-cons}
use Rattle.key_text.specs.Blanks.{first_word, is_blank}
use Rattle.key_text.specs.TypeName.{certificate_names, is_type_name, plain_names, type_names}
use Rattle.krl_spec.specs.Directive.{is_colon}
use Rattle.text_entries.specs.Day.{until_in}
use Rattle.text_entries.specs.Mark.{Mark, mark_in}
use Rattle.text_entries.specs.Named.{named_in}
use Rattle.text_entries.specs.Values.{begins_with_key}
use Rattle.text_entries.specs.Word.{Order, order_in, word_named}
use Rattle.text_entries.specs.declared.named.Named.TheVariants.{Certificate}

abbrev lower : ℕ
lower = 117

abbrev upper : ℕ
upper = 85

-- the content begins with the first letter of the word of a last day
abbrev BeginsWithU : List ℕ → Type 0
BeginsWithU content = (rest : List ℕ) × ((content ≡ lower ∷ rest) ⊎ (content ≡ upper ∷ rest))

begins : (content behind : List ℕ) → until_in content ≡ Some behind → BeginsWithU content
unfolding until_in
begins [] behind is = absurd cc
begins (byte ∷ rest) behind is = elim (cases_Bool (byte == lower)) [
  | inl low ↦ (rest, inl (ap (λ (b : ℕ). b ∷ rest) ((Decides-eqb byte lower).0 low)))
  | inr other ↦ elim (cases_Bool (byte == upper)) [
    | inl up ↦ (rest, inr (ap (λ (b : ℕ). b ∷ rest) ((Decides-eqb byte upper).0 up)))
    | inr none ↦ absurd (let e = rw (other, none) at is in cc)
  ]
]

-- ---- no word

lower_unnamed : (name : List ℕ) → word_named (lower ∷ name) ≡ None
unfolding word_named
lower_unnamed name = refl

upper_unnamed : (name : List ℕ) → word_named (upper ∷ name) ≡ None
unfolding word_named
upper_unnamed name = refl

-- content has no word if what is before its first colon has none
unordered : (content : List ℕ) → word_named (before_first is_colon content) ≡ None → order_in content ≡ None
unfolding order_in
unordered content none = elim (cases_Bool (nat_lt (position_or_len is_colon content) (length content))) [
  | inl within ↦ rw (within, none) refl
  | inr bare ↦ rw bare refl
]

before_colon : (byte : ℕ) (rest : List ℕ) → is_colon byte ≡ false → before_first is_colon (byte ∷ rest) ≡ byte ∷ before_first is_colon rest
before_colon byte rest other = take_while-cons (λ b. not (is_colon b)) byte rest ∙ rw other refl

lower_unordered : (rest : List ℕ) → order_in (lower ∷ rest) ≡ None
lower_unordered rest = unordered (lower ∷ rest) (ap word_named (before_colon lower rest refl) ∙ lower_unnamed (before_first is_colon rest))

upper_unordered : (rest : List ℕ) → order_in (upper ∷ rest) ≡ None
upper_unordered rest = unordered (upper ∷ rest) (ap word_named (before_colon upper rest refl) ∙ upper_unnamed (before_first is_colon rest))

until_unordered : (content behind : List ℕ) → until_in content ≡ Some behind → order_in content ≡ None
until_unordered content behind is = go (begins content behind is)
  where
    go : BeginsWithU content → order_in content ≡ None
    go (rest, inl low) = rw low (lower_unordered rest)
    go (rest, inr up) = rw up (upper_unordered rest)

-- ---- a mark

mark_unnamed : (name : List ℕ) → word_named (64 ∷ name) ≡ None
unfolding word_named
mark_unnamed name = refl

-- content with a mark has no word
pub marked_unordered : (content : List ℕ) (found : Mark) → mark_in content ≡ Some found → order_in content ≡ None
unfolding mark_in
marked_unordered [] found is = absurd cc
marked_unordered (byte ∷ rest) found is = elim (cases_Bool (byte == 64)) [
  | inl at ↦
      let none : order_in (64 ∷ rest) ≡ None =
      unordered (64 ∷ rest) (ap word_named (before_colon 64 rest refl) ∙ mark_unnamed (before_first is_colon rest)) in
      rw ((Decides-eqb byte 64).0 at) none
  | inr other ↦ absurd (let e = rw other at is in cc e)
]

until_unmarked : (content behind : List ℕ) → until_in content ≡ Some behind → mark_in content ≡ None
unfolding mark_in
until_unmarked content behind is = go (begins content behind is)
  where
    go : BeginsWithU content → mark_in content ≡ None
    go (rest, inl low) = rw low refl
    go (rest, inr up) = rw up refl

-- ---- no key

lower_no_type : (word : List ℕ) → is_type_name (lower ∷ word) ≡ false
unfolding is_type_name type_names plain_names certificate_names
lower_no_type word = refl

upper_no_type : (word : List ℕ) → is_type_name (upper ∷ word) ≡ false
unfolding is_type_name type_names plain_names certificate_names
upper_no_type word = refl

lower_no_key : (rest : List ℕ) → begins_with_key (lower ∷ rest) ≡ false
unfolding first_word
lower_no_key rest = ap is_type_name (take_while-cons (λ byte. not (is_blank byte)) lower rest) ∙ lower_no_type (first_word rest)

upper_no_key : (rest : List ℕ) → begins_with_key (upper ∷ rest) ≡ false
unfolding first_word
upper_no_key rest = ap is_type_name (take_while-cons (λ byte. not (is_blank byte)) upper rest) ∙ upper_no_type (first_word rest)

until_no_key : (content behind : List ℕ) → until_in content ≡ Some behind → begins_with_key content ≡ false
until_no_key content behind is = go (begins content behind is)
  where
    go : BeginsWithU content → begins_with_key content ≡ false
    go (rest, inl low) = rw low (lower_no_key rest)
    go (rest, inr up) = rw up (upper_no_key rest)

-- ---- what the content names

bare_certificate : (content : List ℕ) → content ≢ [] → order_in content ≡ None → mark_in content ≡ None → begins_with_key content ≡ false
    → named_in content ≡ Certificate
bare_certificate [] some none unmarked no_key = absurd (some refl)
bare_certificate (byte ∷ rest) some none unmarked no_key = rw (none, unmarked, no_key) refl

until_some : (content behind : List ℕ) → until_in content ≡ Some behind → content ≢ []
unfolding until_in
until_some [] behind is empty = cc is
until_some (byte ∷ rest) behind is empty = cc empty

pub until_named : (content behind : List ℕ) → until_in content ≡ Some behind → named_in content ≡ Certificate
until_named content behind is =
    bare_certificate content (until_some content behind is) (until_unordered content behind is) (until_unmarked content behind is) (until_no_key content behind is)

-- ---- content without a last day

undated : (content : List ℕ) (found : Option (List ℕ)) → until_in content ≡ found → ((behind : List ℕ) → until_in content ≡ Some behind → ⊥) → until_in content ≡ None
undated content None is never = is
undated content (Some behind) is never = absurd (never behind is)

-- Content with a word has no last day.
pub word_undated : (content : List ℕ) (found : Order) → order_in content ≡ Some found → until_in content ≡ None
word_undated content found is = undated content (until_in content) refl (λ behind until. cc (sym (until_unordered content behind until) ∙ is))

-- Content that begins with a key has none.
pub key_undated : (content : List ℕ) → begins_with_key content ≡ true → until_in content ≡ None
key_undated content is = undated content (until_in content) refl (λ behind until. false≢true (sym (until_no_key content behind until) ∙ is))
