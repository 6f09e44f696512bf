-- Reading agrees with the relation: what is read is a place of the line, and each place is read.
use Rattle.std.proofs.Common.{◌≡◌, ℕ, ◌+◌, ◌<◌, ◌≤◌, true, false, List, ◌∷◌, ◌++◌, Option, Some, None, Contains}
use Rattle.std.proofs.Common.{is_some, length, take, drop, refl, sym, ap, subst, ◌∙◌, arith, inl, inr}
use Rattle.std.proofs.lemmas.Bool.{cases_Bool}
use Rattle.std.proofs.lemmas.List.{drop_at, length-append, length-drop, length-take, take-append-drop}
use Rattle.std.specs.List.{cons_option}
use Rattle.ssh_wire.specs.Wire.{IsBytes}
use Rattle.key_text.specs.Blanks.{after_blanks, first_word}
use Rattle.key_text.specs.LineReading.{after_word}
use Rattle.key_text.specs.TypeName.{type_names}
use Rattle.key_text.proofs.LineNames.{Contains-from_test, name_is_word, test-from_Contains}
use Rattle.key_text.proofs.LineWords.{FailsFirst, blanks_cut, blanks_front, blanks_stop, gap, leading, not_blank}
use Rattle.key_text.proofs.LineWords.{word_cut, word_front}
use Rattle.key_places.specs.Blob.{blob_of, starts_blob}
use Rattle.key_places.specs.Name.{may_begin, name_at}
use Rattle.key_places.specs.Place.{IsPlace, KeyPlace}
use Rattle.key_places.specs.Reading.{IsFirstPlace, NoneWithin, key_place, named_place, place_at, place_of, places_from}
use Rattle.key_places.specs.Word.{word_at}
use Rattle.key_places.proofs.BlobLaws.{blob_again, blob_found, starts_again, starts_found, starts_some}
use Rattle.key_places.proofs.NameLaws.{begins_after, may_precede, name_again, name_takes, word_reads}
use Rattle.key_places.proofs.ReadingLaws.{IsReadAt, places_step, skipped}
use Rattle.key_places.proofs.WordLaws.{IsBytes-spelled, cut_word, word_read, word_some, word_stops}

-- ---- the parts of what is read

place_takes : (line : List ℕ) (at : ℕ) (place : KeyPlace) → place_at line at ≡ Some place
    → (may_begin line at ≡ true) × (named_place (at + 1) (name_at (drop at line)) ≡ Some place)
unfolding place_at
place_takes line at place e = elim (cases_Bool (may_begin line at)) [
  | inl begins ↦ (begins, rw begins at e)
  | inr other ↦ let none : None ≡ Some place = rw other at e in absurd cc
]

record Named (column : ℕ) (named : Option (List ℕ × List ℕ)) (place : KeyPlace) : Type 0 where
  pub name : List ℕ
  pub rest : List ℕ
  pub is : named ≡ Some (name, rest)
  pub place_is : place_of column name (word_at false (after_blanks rest)) ≡ Some place

named_takes : (column : ℕ) (named : Option (List ℕ × List ℕ)) (place : KeyPlace) → named_place column named ≡ Some place
    → Named column named place
named_takes column None place e = absurd cc
named_takes column (Some (name, rest)) place e = record { name = name; rest = rest; is = refl; place_is = e }

place_of_takes : (column : ℕ) (name word : List ℕ) (place : KeyPlace) → place_of column name word ≡ Some place
    → (starts_blob name word ≡ true) × (key_place column name (blob_of word) ≡ place)
unfolding place_of
place_of_takes column name word place e = elim (cases_Bool (starts_blob name word)) [
  | inl starts ↦ let same : Some (key_place column name (blob_of word)) ≡ Some place = rw starts at e in (starts, cc)
  | inr other ↦ let none : None ≡ Some place = rw other at e in absurd cc
]

-- ---- what is read is a place

-- the parts of the line
spelled : (line : List ℕ) (at : ℕ) (rest front back : List ℕ) → after_word (drop at line) ≡ rest
    → after_blanks rest ≡ front ++ back
    → line ≡ take at line ++ (first_word (drop at line) ++ (leading rest ++ (front ++ back)))
spelled line at rest front back after cut =
    let blanks : rest ≡ leading rest ++ (front ++ back) =
    (blanks_cut rest).0 ∙ ap (λ (xs : List ℕ). leading rest ++ xs) cut in
    let name : drop at line ≡ first_word (drop at line) ++ (leading rest ++ (front ++ back)) =
    (word_cut (drop at line)).0 ∙ ap (λ (xs : List ℕ). first_word (drop at line) ++ xs) (after ∙ blanks) in
    sym (take-append-drop at line) ∙ ap (λ (xs : List ℕ). take at line ++ xs) name

pub place_is : (line : List ℕ) (at : ℕ) (place : KeyPlace) → place_at line at ≡ Some place → IsPlace line place
place_is line at place e =
    let begins = place_takes line at place e in
    let named = named_takes (at + 1) (name_at (drop at line)) place begins.1 in
    let name = name_takes (drop at line) (named.name, named.rest) named.is in
    let word : List ℕ = word_at false (after_blanks named.rest) in
    let cut = cut_word (after_blanks named.rest) in
    let fits : IsBytes word = IsBytes-spelled cut.front word cut.spells in
    let is = place_of_takes (at + 1) named.name word place named.place_is in
    let starts = starts_found word named.name fits is.0 in
    let contained : Contains type_names (first_word (drop at line)) =
    Contains-from_test (first_word (drop at line)) name.0 in
    let some : 0 < length (drop at line) =
    (word_reads (drop at line) 0 (name_is_word (first_word (drop at line)) contained).2).1 in
    let within : at ≤ length line = omega (arith, length-drop at line) in
    let size : length (take at line) ≡ at = omega (arith, length-take at line) in
    let stops : FailsFirst not_blank named.rest = subst (FailsFirst not_blank) name.2 (word_cut (drop at line)).1 in
    let whole : line ≡ take at line ++ (named.name ++ (leading named.rest ++ (cut.front ++ cut.rest))) =
    subst (λ (xs : List ℕ). line ≡ take at line ++ (xs ++ (leading named.rest ++ (cut.front ++ cut.rest)))) name.1
    (spelled line at named.rest cut.front cut.rest name.2 cut.spelled) in
    let read : IsPlace line (key_place (at + 1) named.name (blob_of word)) = record {
      front = take at line;
      precedes = may_precede line at within begins.0;
      column = ap (λ (n : ℕ). n + 1) (sym size);
      named = subst (Contains type_names) name.1 contained;
      blanks = leading named.rest;
      are_blanks = gap named.rest stops (word_some (after_blanks named.rest) (starts_some word named.name starts));
      text = cut.front;
      word = word;
      is_word = cut.spells;
      starts = starts;
      is_blob = blob_found word fits;
      rest = cut.rest;
      ends = cut.ends;
      spelled = whole;
    } in
    subst (IsPlace line) is.1 read

-- a place that is read at a position has the column of the position
pub column_is : (line : List ℕ) (at : ℕ) (place : KeyPlace) → place_at line at ≡ Some place → place.column ≡ at + 1
column_is line at place e =
    let named = named_takes (at + 1) (name_at (drop at line)) place (place_takes line at place e).1 in
    ap (λ (p : KeyPlace). p.column)
    (sym (place_of_takes (at + 1) named.name (word_at false (after_blanks named.rest)) place named.place_is).1)

-- ---- each place is read

place_again : (line : List ℕ) (at : ℕ) (name rest : List ℕ) (place : Option KeyPlace) → may_begin line at ≡ true
    → name_at (drop at line) ≡ Some (name, rest)
    → place_of (at + 1) name (word_at false (after_blanks rest)) ≡ place → place_at line at ≡ place
unfolding place_at
place_again line at name rest place begins named is = rw (begins, named) is

place_of_again : (column : ℕ) (name word : List ℕ) → starts_blob name word ≡ true
    → place_of column name word ≡ Some (key_place column name (blob_of word))
unfolding place_of
place_of_again column name word starts = rw starts refl

pub place_read : (line : List ℕ) (place : KeyPlace) → IsPlace line place → IsReadAt line 0 place
place_read line place is =
    let at : ℕ = length is.front in
    let back : List ℕ = is.text ++ is.rest in
    let behind : List ℕ = is.blanks ++ back in
    let rest : List ℕ = place.name ++ behind in
    let text : drop at line ≡ rest = ap (drop at) is.spelled ∙ drop_at is.front rest at refl in
    let begins : may_begin line at ≡ true =
    subst (λ (xs : List ℕ). may_begin xs at ≡ true) (sym is.spelled) (begins_after is.front rest is.precedes) in
    let named = name_is_word place.name is.named in
    let parts = word_front place.name behind named.0 (blanks_stop is.blanks back is.are_blanks) in
    let some : 0 < length behind = omega (arith, is.are_blanks.some, length-append is.blanks back) in
    let name : name_at (drop at line) ≡ Some (place.name, behind) =
    name_again (drop at line) place.name behind (test-from_Contains place.name is.named)
    (ap first_word text ∙ parts.0) (ap after_word text ∙ parts.1) some in
    let stops = word_stops is.text is.word is.rest is.is_word (starts_some is.word place.name is.starts) in
    let word : word_at false (after_blanks behind) ≡ is.word =
    ap (word_at false) (blanks_front is.blanks back is.are_blanks.each stops)
    ∙ word_read is.text is.word is.rest is.is_word is.ends in
    let blob : blob_of is.word ≡ place.blob =
    blob_again is.word place.blob (IsBytes-spelled is.text is.word is.is_word) is.is_blob in
    let column : at + 1 ≡ place.column = sym is.column in
    let read : place_of (at + 1) place.name (word_at false (after_blanks behind)) ≡ Some place =
    ap (place_of (at + 1) place.name) word
    ∙ (place_of_again (at + 1) place.name is.word (starts_again is.word place.name is.starts)
    ∙ (ap (λ (b : Option (List ℕ)). Some (key_place (at + 1) place.name b)) blob
    ∙ ap (λ (n : ℕ). Some (key_place n place.name place.blob)) column)) in
    record {
      at = at;
      low = omega arith;
      high = omega (arith, ap length is.spelled, length-append is.front rest, length-append place.name behind, some);
      is = place_again line at place.name behind (Some place) begins name read;
    }

-- ---- the first place that is left

is_none : (place : Option KeyPlace) → is_some place ≡ false → place ≡ None
is_none None none = refl
is_none (Some place) none = absurd cc

first_by : (line : List ℕ) (from start : ℕ) (place : Option KeyPlace) → start < length line
    → places_from line start ≡ places_from line from → place_at line start ≡ place → is_some place ≡ true
    → IsFirstPlace line from place
first_by line from start None within left is some = absurd cc
first_by line from start (Some place) within left is some =
    let column : place.column ≡ start + 1 = column_is line start place is in
    record {
      first = sym left
          ∙ (places_step line start within
          ∙ (ap (λ (p : Option KeyPlace). cons_option p (places_from line (start + 1))) is
          ∙ ap (λ (n : ℕ). place ∷ places_from line n) (sym column)));
      within = omega arith;
    }

-- the place at the first position that has a name
pub first_at : (line : List ℕ) (from at start : ℕ) (place : Option KeyPlace) → at ≤ start → start < length line
    → NoneWithin line at start → places_from line at ≡ places_from line from
    → place ≡ place_at line start → is_some place ≡ true → IsFirstPlace line from place
first_at line from at start place low high none left is some =
    first_by line from start place high (sym (skipped line at start low (omega arith) none) ∙ left) (sym is) some

pub later_left : (line : List ℕ) (from at start : ℕ) (place : Option KeyPlace) → at ≤ start → start < length line
    → NoneWithin line at start → places_from line at ≡ places_from line from
    → place ≡ place_at line start → is_some place ≡ false → places_from line (start + 1) ≡ places_from line from
later_left line from at start place low high none left is other =
    let here : place_at line start ≡ None = sym is ∙ is_none place other in
    let step : places_from line start ≡ places_from line (start + 1) =
    places_step line start high ∙ ap (λ (p : Option KeyPlace). cons_option p (places_from line (start + 1))) here in
    sym step ∙ (sym (skipped line at start low (omega arith) none) ∙ left)
