-- The words of a text: if a text has them, reading checks them.
use Rattle.std.proofs.lemmas.Grind.{common_steps}
use Rattle.std.proofs.Common.{◌≡◌, ℕ, ◌<◌, ◌⊎◌, zero, suc, take, true, false, List, [], ◌∷◌, ◌++◌, Option, Some, None, Result, Err, length, refl, sym, ap, subst, ◌∙◌, arith, inl, inr}
use Rattle.std.proofs.lemmas.Bool.{both_ways, cases_Bool, cases_lt, false_from_ne_true}
use Rattle.std.proofs.lemmas.List.{length-append, nil_from_length}
use Rattle.std.proofs.lemmas.Option.{same_Some}
use Rattle.ssh_wire.specs.Wire.{IsBytes}
use Rattle.ssh_wire.proofs.Digits.{IsBytes-back, IsBytes-front}
use Rattle.key_text.specs.declared.line_fault.LineFault.{LineFault}
use Rattle.key_text.specs.declared.line_fault.LineFault.TheVariants.{NoKey}
use Rattle.key_text.specs.Blanks.{after_blanks, before_ending, first_word, is_blank, trimmed}
use Rattle.key_text.specs.KeyLine.{AreWords, AreWordsAfterHosts, AreWordsAfterOptions, HasWords}
use Rattle.key_text.specs.LineFaults.{HasSomeWords}
use Rattle.key_text.specs.LineReading.{KeyLine, after_options, after_word, blob_at, checked, content_at, decoded, host_line_at, host_part, key_part, line_at, typed, part_after}
use Rattle.key_text.specs.TypeName.{is_type_name}
use Rattle.key_text.proofs.LineNames.{Contains-from_test, name_is_word, test-from_Contains}
use Rattle.key_text.proofs.LineOptions.{options_again, options_take}
use Rattle.key_text.proofs.LineWords.{IsBytes-trimmed, FailsFirst, blanks_cut, blanks_front, blanks_stop, comment_cut, comment_stops, first_word_is, gap, leading, word_cut, word_front, word_stops}

-- ---- a line from its type word on

-- after the type word and blanks
abbrev rest_of : List ℕ → List ℕ
rest_of part = after_blanks (after_word part)

blob_at-some : (word rest : List ℕ) → 0 < length rest → blob_at word rest ≡ checked word (decoded (first_word rest)) (after_blanks (after_word rest))
unfolding blob_at
blob_at-some word [] some = absurd (omega arith)
blob_at-some word (byte ∷ bytes) some = refl

blob_at-none : (word rest : List ℕ) → rest ≡ [] → blob_at word rest ≡ Err NoKey
unfolding blob_at
blob_at-none word rest none = grind (arith, common_steps)

-- if bytes follow the type word, there are words
words_cut : (part : List ℕ) → is_type_name (first_word part) ≡ true → 0 < length (rest_of part) → AreWords part (first_word part) (first_word (rest_of part)) (after_blanks (after_word (rest_of part)))
words_cut part name some =
    let after : List ℕ = after_word part in
    let rest : List ℕ = after_blanks after in
    let end : List ℕ = after_word rest in
    let word_parts = word_cut part in
    let blanks = blanks_cut after in
    let text_parts = word_cut rest in
    record {
      name = Contains-from_test (first_word part) name;
      blanks = leading after;
      are_blanks = gap after word_parts.1 some;
      is_word = first_word_is rest some blanks.1;
      end = end;
      ended = comment_cut end text_parts.1;
      spelled = word_parts.0 ∙ ap (λ (xs : List ℕ). first_word part ++ xs) (blanks.0 ∙ ap (λ (xs : List ℕ). leading after ++ xs) text_parts.0);
    }

words_again : (part word encoded comment : List ℕ) → AreWords part word encoded comment → (first_word part ≡ word) × (is_type_name word ≡ true) × (blob_at word (rest_of part) ≡ checked word (decoded encoded) comment)
words_again part word encoded comment k =
    let is_word = name_is_word word k.name in
    let rest : List ℕ = encoded ++ k.end in
    let front = word_front word (k.blanks ++ rest) is_word.0 (blanks_stop k.blanks rest k.are_blanks) in
    let after : after_blanks (k.blanks ++ rest) ≡ rest = blanks_front k.blanks rest k.are_blanks.each (word_stops encoded k.end k.is_word) in
    let ended = comment_stops k.end comment k.ended in
    let texts = word_front encoded k.end k.is_word.each ended.0 in
    let some : 0 < length encoded = k.is_word.some in
    let first : first_word part ≡ word = ap first_word k.spelled ∙ front.0 in
    let left : rest_of part ≡ rest = ap rest_of k.spelled ∙ ap after_blanks front.1 ∙ after in
    let read : checked word (decoded (first_word rest)) (after_blanks (after_word rest)) ≡ checked word (decoded encoded) comment = rw (texts.0, texts.1, ended.1) refl in
    (first, test-from_Contains word k.name, ap (blob_at word) left ∙ blob_at-some word rest (omega (arith, length-append encoded k.end)) ∙ read)

-- ---- the line from its type word on, with or without an options field

typed-takes : (line part : List ℕ) → typed line ≡ Some part → (line ≡ part) × (is_type_name (first_word part) ≡ true)
unfolding typed
typed-takes line part e = grind (arith, common_steps, cases_Bool, same_Some)

-- a rest after an options field leads to the part
after_takes : (found : Option (List ℕ)) (part : List ℕ) → part_after found ≡ Some part → (rest : List ℕ) × (found ≡ Some rest) × (after_blanks rest ≡ part) × (is_type_name (first_word part) ≡ true)
after_takes None part e = absurd cc
after_takes (Some rest) part e = let h = typed-takes (after_blanks rest) part e in (rest, refl, h.0, h.1)

name_some : (line : List ℕ) → is_type_name (first_word line) ≡ true → 0 < length line
name_some line name =
    let is_word = name_is_word (first_word line) (Contains-from_test (first_word line) name) in
    omega (arith, is_word.2, ap length (word_cut line).0, length-append (first_word line) (after_word line))

abbrev LineWords : List ℕ → List ℕ → List ℕ → List ℕ → Type 0
LineWords line word encoded comment = AreWords line word encoded comment ⊎ AreWordsAfterOptions line word encoded comment

-- if bytes follow its type word, a part gives the words of the line
part_words : (line part : List ℕ) → key_part line ≡ Some part → 0 < length (rest_of part) → LineWords line (first_word part) (first_word (rest_of part)) (after_blanks (after_word (rest_of part)))
unfolding key_part
part_words line part found some = elim (cases_Bool (is_type_name (first_word line))) [
  | inl name ↦
      let same = same_Some line part (rw name at found) in
      let is_name : is_type_name (first_word part) ≡ true = ap (λ (xs : List ℕ). is_type_name (first_word xs)) (sym same) ∙ name in
      inl (subst (λ (xs : List ℕ). AreWords xs (first_word part) (first_word (rest_of part)) (after_blanks (after_word (rest_of part)))) (sym same) (words_cut part is_name some))
  | inr other ↦
      let taken = after_takes (after_options false false line) part (rw other at found) in
      let rest : List ℕ = taken.0 in
      let before = options_take line rest taken.1 in
      let blanks = blanks_cut rest in
      inr (record {
        other = λ h. both_ways (is_type_name (first_word line)) other (test-from_Contains (first_word line) h);
        options = before.field;
        are_options = before.options;
        blanks = leading rest;
        are_blanks = gap rest before.stops (subst (λ (xs : List ℕ). 0 < length xs) (sym taken.2) (name_some part taken.3));
        part = part;
        are_words = words_cut part taken.3 some;
        spelled = before.whole ∙ ap (λ (xs : List ℕ). before.field ++ xs) (blanks.0 ∙ ap (λ (xs : List ℕ). leading rest ++ xs) taken.2);
      })
]

content_at-again : (read : Option (List ℕ)) (part word : List ℕ) (answer : Result KeyLine LineFault) → read ≡ Some part → first_word part ≡ word → blob_at word (rest_of part) ≡ answer → content_at read ≡ answer
content_at-again read part word answer found first e = ap content_at found ∙ ap (λ (w : List ℕ). blob_at w (rest_of part)) first ∙ e

plain_again : (line word encoded comment : List ℕ) → AreWords line word encoded comment → content_at (key_part line) ≡ checked word (decoded encoded) comment
unfolding key_part
plain_again line word encoded comment k =
    let read = words_again line word encoded comment k in
    let name : is_type_name (first_word line) ≡ true = ap is_type_name read.0 ∙ read.1 in
    let found : key_part line ≡ Some line = rw name refl in
    content_at-again (key_part line) line word (checked word (decoded encoded) comment) found read.0 read.2

-- a part begins with no blank
part_stops : (part word encoded comment : List ℕ) → AreWords part word encoded comment → FailsFirst is_blank part
part_stops part word encoded comment k = grind (arith, common_steps, FailsFirst, name_is_word, word_stops)

options_line_again : (line word encoded comment : List ℕ) → AreWordsAfterOptions line word encoded comment → content_at (key_part line) ≡ checked word (decoded encoded) comment
unfolding key_part typed
options_line_again line word encoded comment o =
    let read = words_again o.part word encoded comment o.are_words in
    let other : is_type_name (first_word line) ≡ false = false_from_ne_true (is_type_name (first_word line)) (λ name. o.other (Contains-from_test (first_word line) name)) in
    let after : after_options false false line ≡ Some (o.blanks ++ o.part) =
    ap (after_options false false) o.spelled ∙ options_again o.options (o.blanks ++ o.part) o.are_options (blanks_stop o.blanks o.part o.are_blanks) in
    let part : after_blanks (o.blanks ++ o.part) ≡ o.part = blanks_front o.blanks o.part o.are_blanks.each (part_stops o.part word encoded comment o.are_words) in
    let name : is_type_name (first_word o.part) ≡ true = ap is_type_name read.0 ∙ read.1 in
    let found : key_part line ≡ Some o.part = rw (other, after, part, name) refl in
    content_at-again (key_part line) o.part word (checked word (decoded encoded) comment) found read.0 read.2

-- ---- a text

-- if a text has its words, reading checks them
pub words_read : (text word encoded comment : List ℕ) → HasWords text word encoded comment → line_at text ≡ checked word (decoded encoded) comment
unfolding line_at
words_read text word encoded comment (inl k) = plain_again (trimmed text) word encoded comment k
words_read text word encoded comment (inr o) = options_line_again (trimmed text) word encoded comment o

-- and if it has none, there is no key
by_part : (text : List ℕ) (read : Option (List ℕ)) → key_part (trimmed text) ≡ read → (line_at text ≡ Err NoKey) ⊎ HasSomeWords text
unfolding line_at
by_part text None found = inl (ap content_at found)
by_part text (Some part) found = elim (cases_lt 0 (length (rest_of part))) [
  | inl some ↦ inr (record { word = first_word part; encoded = first_word (rest_of part); comment = after_blanks (after_word (rest_of part)); words = part_words (trimmed text) part found some })
  | inr none ↦ inl (ap content_at found ∙ blob_at-none (first_word part) (rest_of part) (nil_from_length (rest_of part) (omega (arith, none))))
]

pub none_or_words : (text : List ℕ) → (line_at text ≡ Err NoKey) ⊎ HasSomeWords text
none_or_words text = by_part text (key_part (trimmed text)) refl

IsBytes-encoded : (part word encoded comment : List ℕ) → IsBytes part → AreWords part word encoded comment → IsBytes encoded
IsBytes-encoded part word encoded comment fits k =
    let after = IsBytes-back word (k.blanks ++ (encoded ++ k.end)) (subst IsBytes k.spelled fits) in
    IsBytes-front encoded k.end (IsBytes-back k.blanks (encoded ++ k.end) after)

pub IsBytes-words : (text word encoded comment : List ℕ) → IsBytes text → HasWords text word encoded comment → IsBytes encoded
IsBytes-words text word encoded comment fits (inl k) = IsBytes-encoded (trimmed text) word encoded comment (IsBytes-trimmed text fits) k
IsBytes-words text word encoded comment fits (inr o) =
    let after = IsBytes-back o.options (o.blanks ++ o.part) (subst IsBytes o.spelled (IsBytes-trimmed text fits)) in
    IsBytes-encoded o.part word encoded comment (IsBytes-back o.blanks o.part after) o.are_words

-- ---- a line of known hosts

abbrev pub HasHostWords : List ℕ → List ℕ → List ℕ → List ℕ → Type 0
HasHostWords line word encoded comment = AreWords line word encoded comment ⊎ AreWordsAfterHosts line word encoded comment

-- if bytes follow its type word, a part gives the words of the line
host_part_words : (line part : List ℕ) → FailsFirst is_blank line → host_part line ≡ Some part → 0 < length (rest_of part) → HasHostWords line (first_word part) (first_word (rest_of part)) (after_blanks (after_word (rest_of part)))
unfolding host_part
host_part_words line part bare found some = elim (cases_Bool (is_type_name (first_word line))) [
  | inl name ↦
      let same = same_Some line part (rw name at found) in
      let is_name : is_type_name (first_word part) ≡ true = ap (λ (xs : List ℕ). is_type_name (first_word xs)) (sym same) ∙ name in
      inl (subst (λ (xs : List ℕ). AreWords xs (first_word part) (first_word (rest_of part)) (after_blanks (after_word (rest_of part)))) (sym same) (words_cut part is_name some))
  | inr other ↦
      let taken = typed-takes (after_blanks (after_word line)) part (rw other at found) in
      let before = word_cut line in
      let blanks = blanks_cut (after_word line) in
      let some_part : 0 < length (after_blanks (after_word line)) = subst (λ (xs : List ℕ). 0 < length xs) (sym taken.0) (name_some part taken.1) in
      let some_rest : 0 < length (after_word line) = omega (arith, some_part, ap length blanks.0, length-append (leading (after_word line)) (after_blanks (after_word line))) in
      let some_line : 0 < length line = omega (arith, some_rest, ap length before.0, length-append (first_word line) (after_word line)) in
      inr (record {
        other = λ h. both_ways (is_type_name (first_word line)) other (test-from_Contains (first_word line) h);
        hosts = first_word line;
        is_word = first_word_is line some_line bare;
        blanks = leading (after_word line);
        are_blanks = gap (after_word line) before.1 some_part;
        part = part;
        are_words = words_cut part taken.1 some;
        spelled = before.0 ∙ ap (λ (xs : List ℕ). first_word line ++ xs) (blanks.0 ∙ ap (λ (xs : List ℕ). leading (after_word line) ++ xs) taken.0);
      })
]

host_words_again : (line word encoded comment : List ℕ) → AreWordsAfterHosts line word encoded comment → content_at (host_part line) ≡ checked word (decoded encoded) comment
unfolding host_part typed
host_words_again line word encoded comment o =
    let read = words_again o.part word encoded comment o.are_words in
    let other : is_type_name (first_word line) ≡ false = false_from_ne_true (is_type_name (first_word line)) (λ name. o.other (Contains-from_test (first_word line) name)) in
    let front = word_front o.hosts (o.blanks ++ o.part) o.is_word.each (blanks_stop o.blanks o.part o.are_blanks) in
    let after : after_word line ≡ o.blanks ++ o.part = ap after_word o.spelled ∙ front.1 in
    let part : after_blanks (o.blanks ++ o.part) ≡ o.part = blanks_front o.blanks o.part o.are_blanks.each (part_stops o.part word encoded comment o.are_words) in
    let name : is_type_name (first_word o.part) ≡ true = ap is_type_name read.0 ∙ read.1 in
    let found : host_part line ≡ Some o.part = rw (other, after, part, name) refl in
    content_at-again (host_part line) o.part word (checked word (decoded encoded) comment) found read.0 read.2

host_plain_again : (line word encoded comment : List ℕ) → AreWords line word encoded comment → content_at (host_part line) ≡ checked word (decoded encoded) comment
unfolding host_part
host_plain_again line word encoded comment k =
    let read = words_again line word encoded comment k in
    let name : is_type_name (first_word line) ≡ true = ap is_type_name read.0 ∙ read.1 in
    let found : host_part line ≡ Some line = rw name refl in
    content_at-again (host_part line) line word (checked word (decoded encoded) comment) found read.0 read.2

-- if a line has its words, reading checks them
pub host_words_read : (text word encoded comment : List ℕ) → HasHostWords (trimmed text) word encoded comment → host_line_at text ≡ checked word (decoded encoded) comment
unfolding host_line_at
host_words_read text word encoded comment (inl k) = host_plain_again (trimmed text) word encoded comment k
host_words_read text word encoded comment (inr o) = host_words_again (trimmed text) word encoded comment o

pub record SomeHostWords (line : List ℕ) : Type 0 where
  pub word : List ℕ
  pub encoded : List ℕ
  pub comment : List ℕ
  pub words : HasHostWords line word encoded comment

take_fails : (k : ℕ) (xs : List ℕ) → FailsFirst is_blank xs → FailsFirst is_blank (take k xs)
take_fails zero xs bare = tt
take_fails (suc k) [] bare = tt
take_fails (suc k) (x ∷ xs) bare = bare

-- a line without blanks at its start begins with no blank
trimmed_bare : (text : List ℕ) → FailsFirst is_blank (trimmed text)
unfolding trimmed before_ending
trimmed_bare text = take_fails _ (after_blanks text) (blanks_cut text).1

host_by_part : (text : List ℕ) (read : Option (List ℕ)) → FailsFirst is_blank (trimmed text) → host_part (trimmed text) ≡ read → (host_line_at text ≡ Err NoKey) ⊎ SomeHostWords (trimmed text)
unfolding host_line_at
host_by_part text None bare found = inl (ap content_at found)
host_by_part text (Some part) bare found = elim (cases_lt 0 (length (rest_of part))) [
  | inl some ↦ inr (record { word = first_word part; encoded = first_word (rest_of part); comment = after_blanks (after_word (rest_of part)); words = host_part_words (trimmed text) part bare found some })
  | inr none ↦ inl (ap content_at found ∙ blob_at-none (first_word part) (rest_of part) (nil_from_length (rest_of part) (omega (arith, none))))
]

pub host_none_or_words : (text : List ℕ) → (host_line_at text ≡ Err NoKey) ⊎ SomeHostWords (trimmed text)
host_none_or_words text = host_by_part text (host_part (trimmed text)) (trimmed_bare text) refl

pub IsBytes-host_words : (text word encoded comment : List ℕ) → IsBytes text → HasHostWords (trimmed text) word encoded comment → IsBytes encoded
IsBytes-host_words text word encoded comment fits (inl k) = IsBytes-encoded (trimmed text) word encoded comment (IsBytes-trimmed text fits) k
IsBytes-host_words text word encoded comment fits (inr o) =
    let after = IsBytes-back o.hosts (o.blanks ++ o.part) (subst IsBytes o.spelled (IsBytes-trimmed text fits)) in
    IsBytes-encoded o.part word encoded comment (IsBytes-back o.blanks o.part after) o.are_words
