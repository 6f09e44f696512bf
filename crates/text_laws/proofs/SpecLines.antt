-- Lines of specification files say the same in texts.
use Rattle.std.proofs.Common.{◌≡◌, ℕ, ◌+◌, ◌==◌, ◌∙◌, nat_lt, not, Bool, true, false, List, [], ◌∷◌, length, drop, Option, Some, None, Result, Ok, Err, option_map, refl, sym, ap, subst, inl, inr}
use Rattle.std.specs.List.{before_first, find, position_or_len}
use Rattle.std.specs.Str.{bytes_eq, str_to_ascii_lowercase}
use Rattle.std.proofs.lemmas.Bool.{cases_Bool, false≢true}
use Rattle.std.proofs.lemmas.Bool.Decides.{Decides-eqb}
use Rattle.std.proofs.lemmas.List.Sums.{take_while-cons}
use Rattle.std.proofs.lemmas.Slice.Eq.{bytes_eq-Decides}
use Rattle.key_text.specs.Blanks.{after_blanks, first_word, is_blank}
use Rattle.key_text.specs.TypeName.{certificate_names, is_type_name, plain_names, type_names}
use Rattle.ssh_wire.specs.Reading.{◌>>=◌}
use Rattle.krl_types.specs.Entry.{Entry}
use Rattle.run_faults.specs.declared.spec_cause.SpecCause.{SpecCause}
use Rattle.krl_spec.specs.Blanks.{bare_line}
use Rattle.krl_spec.specs.Directive.{directive_named, directives as all_directives, is_colon, is_named, name_of as spec_name, order as spec_order, order_in as spec_order_in}
use Rattle.krl_spec.specs.Entries.{bare_entry, counted_entry, line_entry, order_entry}
use Rattle.krl_spec.specs.declared.directive.Directive.{Directive}
use Rattle.krl_spec.specs.declared.directive.Directive.TheVariants as directives
use Rattle.text_entries.specs.Day.{has_day_in_comment, until_in}
use Rattle.text_entries.specs.Says.{content_says, key_line_says, line_says, names_says, spec_entry, whole_entry, word_says}
use Rattle.text_entries.specs.Mark.{mark_in}
use Rattle.text_entries.specs.Values.{begins_with_key}
use Rattle.text_entries.specs.Word.{name_of, order, order_in, word_named, words as all_words}
use Rattle.text_entries.specs.declared.standing.Standing.{Standing}
use Rattle.text_entries.specs.declared.word.Word.{Word}
use Rattle.text_entries.specs.declared.word.Word.TheVariants as words
use Rattle.text_entries.proofs.LastDays.{key_undated, word_undated}
use Rattle.text_laws.proofs.DayWords.{not_misplaced}
use Rattle.text_laws.specs.SpecLines.{IsBareAlike, IsReadAlike, IsWhole, bare_says, spec_says}

-- ---- the name

abbrev word_of : Directive → Word
word_of directives.Serial = words.Serial
word_of directives.Id = words.Id
word_of directives.Key = words.Key
word_of directives.Sha1 = words.Sha1
word_of directives.Sha256 = words.Sha256
word_of directives.Hash = words.Hash

found_passes : {X : Type 0} (p : X → Bool) (xs : List X) (x : X) → find p xs ≡ Some x → p x ≡ true
found_passes p [] x is = absurd cc
found_passes p (y ∷ xs) x is = elim (cases_Bool (p y)) [
  | inl passes ↦
      let found : Some y ≡ Some x = rw passes at is in
      let same : y ≡ x = cc in
      subst (λ z. p z ≡ true) same passes
  | inr fails ↦ found_passes p xs x (rw fails at is)
]

-- the word with a name, by the name in lower case
abbrev word_by : List ℕ → Option Word
word_by lower = find (λ word. bytes_eq lower (str_to_ascii_lowercase (name_of word))) all_words

by_name : (directive : Directive) → word_by (str_to_ascii_lowercase (spec_name directive)) ≡ Some (word_of directive)
by_name directives.Serial = refl
by_name directives.Id = refl
by_name directives.Key = refl
by_name directives.Sha1 = refl
by_name directives.Sha256 = refl
by_name directives.Hash = refl

word_is : (name : List ℕ) (directive : Directive) → directive_named name ≡ Some directive → word_named name ≡ Some (word_of directive)
unfolding directive_named word_named
word_is name directive named =
    let is : is_named directive name ≡ true = found_passes (λ it. is_named it name) all_directives directive named in
    let lower : str_to_ascii_lowercase name ≡ str_to_ascii_lowercase (spec_name directive) = (bytes_eq-Decides _ _).0 is in
    subst (λ (text : List ℕ). word_by text ≡ Some (word_of directive)) (sym lower) (by_name directive)

-- ---- the name and the value

mapped : (value given name : List ℕ) (directive : Directive) (found : Option Directive) → directive_named name ≡ found
    → option_map (spec_order value) found ≡ Some (spec_order given directive)
    → option_map (order value) (word_named name) ≡ Some (order given (word_of directive))
mapped value given name directive None named is = absurd cc
mapped value given name directive (Some other) named is =
    let same : spec_order value other ≡ spec_order given directive = cc in
    rw (word_is name other named, ap (λ o. o.given) same, ap (λ o. o.directive) same) refl

order_is : (content given : List ℕ) (directive : Directive) → spec_order_in content ≡ Some (spec_order given directive)
    → order_in content ≡ Some (order given (word_of directive))
unfolding spec_order_in order_in
order_is content given directive is = elim (cases_Bool (nat_lt (position_or_len is_colon content) (length content))) [
  | inl within ↦
      let value : List ℕ = after_blanks (drop (position_or_len is_colon content + 1) content) in
      rw within (mapped value given (before_first is_colon content) directive _ refl (rw within at is))
  | inr none ↦ absurd (let e = rw none at is in cc)
]

unmapped : (value name : List ℕ) (found : Option Directive) → directive_named name ≡ found
    → option_map (order value) (word_named name) ≡ None → option_map (spec_order value) found ≡ None
unmapped value name None named is = refl
unmapped value name (Some directive) named is = absurd (let e = rw (word_is name directive named) at is in cc)

none_is : (content : List ℕ) → order_in content ≡ None → spec_order_in content ≡ None
unfolding spec_order_in order_in
none_is content is = elim (cases_Bool (nat_lt (position_or_len is_colon content) (length content))) [
  | inl within ↦ rw within (unmapped _ (before_first is_colon content) _ refl (rw within at is))
  | inr none ↦ rw none refl
]

-- ---- the line

alike : (current : Option (List ℕ)) (line given : List ℕ) (directive : Directive) → IsReadAlike line directive given
    → word_says current line (word_of directive) given ≡ spec_says directive (order_entry current directive given)
alike current line given directives.Serial is = rw is refl
alike current line given directives.Id is = rw (is.0, is.1, is.2) refl
alike current line given directives.Key is = rw is refl
alike current line given directives.Sha1 is = rw is refl
alike current line given directives.Sha256 is = rw is refl
alike current line given directives.Hash is = rw is refl

pub directive_says : (standing : Standing) (line given : List ℕ) (directive : Directive)
    → spec_order_in (bare_line line) ≡ Some (spec_order given directive) → IsReadAlike line directive given → has_day_in_comment line ≡ false
    → line_says standing line ≡ spec_says directive (order_entry standing.current directive given)
unfolding line_says content_says
directive_says standing line given directive found is placed =
    let ordered = order_is (bare_line line) given directive found in
    rw (word_undated (bare_line line) _ ordered, not_misplaced line (bare_line line) placed, ordered) (alike standing.current line given directive is)

whole_says : (read : Result Entry SpecCause) → IsWhole read → (spec_entry read >>= whole_entry) ≡ spec_entry read
whole_says (Ok entry) whole = rw whole refl
whole_says (Err cause) whole = refl

bare_content_says : (current : Option (List ℕ)) (content : List ℕ) → spec_order_in content ≡ None → IsBareAlike content
    → key_line_says content ≡ bare_says (counted_entry current content)
bare_content_says current [] none alike = refl
bare_content_says current (byte ∷ content) none alike =
    rw (alike.0, none) (ap names_says (whole_says (bare_entry (byte ∷ content)) alike.1))

-- content that begins with the type name of a key has no mark
no_type : (word : List ℕ) → is_type_name (64 ∷ word) ≡ false
unfolding is_type_name type_names plain_names certificate_names
no_type word = refl

no_key : (content : List ℕ) → begins_with_key (64 ∷ content) ≡ false
unfolding first_word
no_key content = ap is_type_name (take_while-cons (λ byte. not (is_blank byte)) 64 content) ∙ no_type (first_word content)

unmarked : (content : List ℕ) → IsBareAlike content → mark_in content ≡ None
unfolding mark_in
unmarked [] alike = refl
unmarked (byte ∷ content) alike = elim (cases_Bool (byte == 64)) [
  | inl at ↦
      let same : byte ≡ 64 = (Decides-eqb byte 64).0 at in
      let begins : begins_with_key (byte ∷ content) ≡ false = rw same (no_key content) in
      absurd (false≢true (sym begins ∙ alike.0))
  | inr other ↦ rw other refl
]

endless : (content : List ℕ) → IsBareAlike content → until_in content ≡ None
unfolding until_in
endless [] alike = refl
endless (byte ∷ content) alike = key_undated (byte ∷ content) alike.0

pub key_says : (standing : Standing) (line : List ℕ) → order_in (bare_line line) ≡ None
    → IsBareAlike (bare_line line) → has_day_in_comment line ≡ false → line_says standing line ≡ bare_says (line_entry standing.current line)
unfolding line_says content_says line_entry
key_says standing line none alike placed =
    rw (endless (bare_line line) alike, not_misplaced line (bare_line line) placed, none, unmarked (bare_line line) alike) (bare_content_says standing.current (bare_line line) (none_is (bare_line line) none) alike)
