-- A name has an early hyphen, so a search for hyphens misses no place.
use Rattle.std.proofs.Common.{◌≡◌, ◌≢◌, ℕ, ◌+◌, ◌-◌, ◌<◌, ◌≤◌, ◌==◌, ◌&&◌, Bool, true, false, not, nat_lt, List, Option}
use Rattle.std.proofs.Common.{Some, None, Contains, length, take, drop, max, get_or, refl, sym, ap, ◌∙◌, arith, inl}
use Rattle.std.proofs.Common.{inr, ◌⊎◌}
use Rattle.std.proofs.lemmas.Bool.{and_parts, cases_Bool, cases_lt, eqb-true, false≢true, ltb-true, not-false}
use Rattle.std.proofs.lemmas.List.{get_or-drop, length-drop, take_rest}
use Rattle.std.proofs.lemmas.List.Elements.{All-contains}
use Rattle.std.proofs.lemmas.List.Sums.{AllPass-from_list_all, prefix_len_passes, prefix_len_stops}
use Rattle.std.specs.List.{prefix_len}
use Rattle.memchr.specs.Find.{Nowhere, Passes, is_byte}
use Rattle.ssh_wire.specs.Ascii.{hyphen}
use Rattle.key_text.specs.Blanks.{first_word}
use Rattle.key_text.specs.TypeName.{certificate_names, plain_names, type_names}
use Rattle.key_text.proofs.LineNames.{Contains-from_test}
use Rattle.key_places.specs.Name.{may_begin, name_at}
use Rattle.key_places.specs.Reading.{NoneWithin, place_at}
use Rattle.key_places.proofs.NameLaws.{name_takes, word_reads}

-- ---- no place where no name is

pub none_unless_begins : (line : List ℕ) (at : ℕ) → may_begin line at ≡ false → place_at line at ≡ None
unfolding place_at
none_unless_begins line at other = rw other refl

pub none_unless_named : (line : List ℕ) (at : ℕ) → name_at (drop at line) ≡ None → place_at line at ≡ None
unfolding place_at
none_unless_named line at none = elim (cases_Bool (may_begin line at)) [
  | inl begins ↦ rw (begins, none) refl
  | inr other ↦ rw other refl
]

-- ---- the first hyphen of a name

abbrev other_byte : ℕ → Bool
other_byte byte = not (byte == hyphen)

has_early_hyphen : List ℕ → Bool
has_early_hyphen name =
    let size = prefix_len other_byte name in
    nat_lt 0 size && (nat_lt size 6 && nat_lt size (length name))

early_hyphens : (name : List ℕ) → Contains type_names name → has_early_hyphen name ≡ true
unfolding has_early_hyphen type_names plain_names certificate_names
early_hyphens name h =
    All-contains (λ (word : List ℕ). has_early_hyphen word ≡ true) type_names name
    (AllPass-from_list_all has_early_hyphen type_names refl) h

early_size : (name : List ℕ) → Contains type_names name
    → (0 < prefix_len other_byte name) × (prefix_len other_byte name < 6) × (prefix_len other_byte name < length name)
unfolding has_early_hyphen
early_size name h =
    let size : ℕ = prefix_len other_byte name in
    let some = and_parts (nat_lt 0 size) (nat_lt size 6 && nat_lt size (length name)) (early_hyphens name h) in
    let ends = and_parts (nat_lt size 6) (nat_lt size (length name)) some.1 in
    (ltb-true 0 size some.0, ltb-true size 6 ends.0, ltb-true size (length name) ends.1)

-- the first hyphen of the name at a position
pub record FirstHyphen (line : List ℕ) (at : ℕ) : Type 0 where
  pub reach : ℕ
  pub low : 0 < reach
  pub high : reach < 6
  pub is : get_or line (at + reach) 0 ≡ hyphen
  pub within : at + reach < length line
  pub before : (k : ℕ) → k < reach → get_or line (at + k) 0 ≢ hyphen

first_hyphen : (line : List ℕ) (at : ℕ) (p : List ℕ × List ℕ) → name_at (drop at line) ≡ Some p → FirstHyphen line at
first_hyphen line at p named =
    let name : List ℕ = first_word (drop at line) in
    let size : ℕ = prefix_len other_byte name in
    let early = early_size name (Contains-from_test name (name_takes (drop at line) p named).0) in
    let low : 0 < size = early.0 in
    let high : size < 6 = early.1 in
    let inside : size < length name = early.2 in
    let here = word_reads (drop at line) size inside in
    let stops : other_byte (get_or name size 0) ≡ false = prefix_len_stops other_byte name 0 inside in
    record {
      reach = size;
      low = low;
      high = high;
      is = sym (here.0 ∙ get_or-drop at line size 0)
          ∙ eqb-true (get_or name size 0) hyphen (not-false (get_or name size 0 == hyphen) stops);
      within = omega (arith, here.1, length-drop at line);
      before = λ k lt is.
          let read = word_reads (drop at line) k (omega arith) in
          let same : get_or name k 0 ≡ hyphen = read.0 ∙ (get_or-drop at line k 0 ∙ is) in
          let passes : other_byte (get_or name k 0) ≡ true = prefix_len_passes other_byte name k 0 lt in
          let none : other_byte hyphen ≡ true = ap other_byte (sym same) ∙ passes in
          false≢true none;
    }

named_or_none : (line : List ℕ) (at : ℕ) (named : Option (List ℕ × List ℕ)) → name_at (drop at line) ≡ named
    → (place_at line at ≡ None) ⊎ FirstHyphen line at
named_or_none line at None e = inl (none_unless_named line at e)
named_or_none line at (Some p) e = inr (first_hyphen line at p e)

none_or_hyphen : (line : List ℕ) (at : ℕ) → (place_at line at ≡ None) ⊎ FirstHyphen line at
none_or_hyphen line at = named_or_none line at (name_at (drop at line)) refl

-- no hyphen from one position up to another
abbrev pub NoHyphen : List ℕ → ℕ → ℕ → Type 0
NoHyphen line from to = (k : ℕ) → from ≤ k → k < to → get_or line k 0 ≢ hyphen

-- No place begins so far before the first hyphen, or at it.
pub none_far_before : (line : List ℕ) (from to at : ℕ) → NoHyphen line from to → from ≤ at → at + 5 < to
    → place_at line at ≡ None
none_far_before line from to at clear low far = elim (none_or_hyphen line at) [
  | inl none ↦ none
  | inr first ↦ absurd (clear (at + first.reach) (omega (arith, first.low)) (omega (arith, first.high)) first.is)
]

pub none_at_hyphen : (line : List ℕ) (at : ℕ) → get_or line at 0 ≡ hyphen → place_at line at ≡ None
none_at_hyphen line at is = elim (none_or_hyphen line at) [
  | inl none ↦ none
  | inr first ↦ absurd (first.before 0 first.low (let same : at + 0 ≡ at = omega arith in rw same is))
]

pub none_behind : (line : List ℕ) (from : ℕ) → NoHyphen line from (length line) → NoneWithin line from (length line)
none_behind line from clear at low high = elim (none_or_hyphen line at) [
  | inl none ↦ none
  | inr first ↦ absurd (clear (at + first.reach) (omega (arith, first.low)) first.within first.is)
]

-- ---- the search

-- the rest of a line, as a slice
abbrev pub behind : (line : List ℕ) (from : ℕ) → List ℕ
behind line from = take (length line - from) (drop from line)

behind_reads : (line : List ℕ) (from k : ℕ) → get_or (behind line from) k 0 ≡ get_or line (from + k) 0
behind_reads line from k = rw (take_rest line from) (get_or-drop from line k 0)

pub length-behind : (line : List ℕ) (from : ℕ) → length (behind line from) ≡ length line - from
length-behind line from = rw (take_rest line from) (length-drop from line)

-- what `memchr` says of it
pub no_hyphen : (line : List ℕ) (from gap : ℕ) → Nowhere (Passes (is_byte 45) (behind line from)) 0 gap
    → NoHyphen line from (from + gap)
no_hyphen line from gap none k low high is =
    let same : from + (k - from) ≡ k = omega arith in
    let read : get_or (behind line from) (k - from) 0 ≡ hyphen =
    behind_reads line from (k - from) ∙ (ap (λ (n : ℕ). get_or line n 0) same ∙ is) in
    none (k - from) (omega arith) (omega arith) (rw read refl)

pub hyphen_at : (line : List ℕ) (from gap : ℕ) → Passes (is_byte 45) (behind line from) gap
    → get_or line (from + gap) 0 ≡ hyphen
hyphen_at line from gap is = sym (behind_reads line from gap) ∙ eqb-true (get_or (behind line from) gap 0) hyphen is

pub none_before : (line : List ℕ) (from to first start : ℕ) → NoHyphen line from to → first ≡ max from (to - 5)
    → NoneWithin line first start → start ≤ to → NoneWithin line from start
none_before line from to first start clear is none order at low high = elim (cases_lt at first) [
  | inl lt ↦ none_far_before line from to at clear low (omega arith)
  | inr le ↦ none at le high
]

pub none_up_to : (line : List ℕ) (from to first : ℕ) → NoHyphen line from to → get_or line to 0 ≡ hyphen
    → first ≡ max from (to - 5) → NoneWithin line first to → NoneWithin line from (to + 1)
none_up_to line from to first clear is first_is none at low high = elim (cases_lt at to) [
  | inl lt ↦ none_before line from to first to clear first_is none (omega arith) at low lt
  | inr le ↦ let same : at ≡ to = omega arith in none_at_hyphen line at (ap (λ (k : ℕ). get_or line k 0) same ∙ is)
]
