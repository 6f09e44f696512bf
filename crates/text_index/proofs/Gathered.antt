-- The numbers at one key, and at all keys of a serial number.
use Rattle.std.proofs.Common.{◌≡◌, ◌<◌, ◌≤◌, ◌⊎◌, ℕ, ◌-◌, ◌/◌, List, [], ◌∷◌, ◌++◌, length, drop, flat_map, Option, refl, sym, ap, ◌∙◌, append_assoc, append-nil}
use Rattle.std.proofs.lemmas.List.{drop_all}
use Rattle.std.specs.BTreeMap.{is_at}
use Rattle.std.specs.Map.{lookup}
use Rattle.std.specs.Global.{Vec}
use Rattle.std.specs.Ordering.{nat_cmp}
use Rattle.krl_types.specs.Naming.{Name}
use Rattle.text_index.specs.Fronts.{fronts}
use Rattle.text_index.specs.NameIndex.{all_of, keys_of, numbers, numbers_among, numbers_at, postings_at}
use Rattle.text_index.specs.declared.name_index.NameIndex.{NameIndex}
use Rattle.text_index.specs.declared.posting.Posting.{Posting}
use Rattle.text_index.proofs.CommonFronts.{last_front, more_fronts}

-- ---- what is under a key

abbrev at_key : NameIndex → ℕ → Option (Vec Posting)
at_key index key = lookup (is_at (nat_cmp key)) index.entries

pub those_at_key : (index : NameIndex) (key : ℕ) (name : Name) (there : Option (Vec Posting)) → at_key index key ≡ there
    → numbers_at index key name ≡ numbers_among (all_of there) name
unfolding numbers_at postings_at
those_at_key index key name there is = ap (λ (o : Option (Vec Posting)). numbers_among (all_of o) name) is

-- ---- the postings

-- No posting is left.
pub postings_done : (name : Name) (postings : List Posting) (i : ℕ) (lines : List ℕ)
    → length postings ≤ i → lines ++ numbers_among (drop i postings) name ≡ lines
postings_done name postings i lines past =
    ap (λ (left : List Posting). lines ++ numbers_among left name) (drop_all i postings past) ∙ append-nil lines

-- ---- the fronts of a serial number

-- the numbers at these fronts
abbrev pub at_fronts : NameIndex → Name → List ℕ → List ℕ
at_fronts index name fronts = flat_map (λ key. numbers_at index key name) fronts

pub front_taken : (index : NameIndex) (name : Name) (bits front : ℕ) (lines : List ℕ) → 0 < bits → 0 < front
    → (lines ++ numbers_at index front name) ++ at_fronts index name (fronts (bits - 1) (front / 2))
    ≡ lines ++ at_fronts index name (fronts bits front)
front_taken index name bits front lines some rest =
    append_assoc lines (numbers_at index front name) (at_fronts index name (fronts (bits - 1) (front / 2)))
    ∙ ap (λ (all : List ℕ). lines ++ at_fronts index name all) (sym (more_fronts bits front some rest))

pub last_taken : (index : NameIndex) (name : Name) (bits front : ℕ) (lines : List ℕ) → (bits ≡ 0) ⊎ (front ≡ 0)
    → lines ++ numbers_at index front name ≡ lines ++ at_fronts index name (fronts bits front)
last_taken index name bits front lines last =
    ap (λ (all : List ℕ). lines ++ all) (sym (append-nil (numbers_at index front name)))
    ∙ ap (λ (all : List ℕ). lines ++ at_fronts index name all) (sym (last_front bits front last))

-- ---- no lines

none_among : (index : NameIndex) → index.entries ≡ [] → (name : Name) (keys : List ℕ) → flat_map (λ key. numbers_at index key name) keys ≡ []
unfolding numbers_at postings_at
none_among index none name [] = refl
none_among index none name (key ∷ keys) =
    rw none (none_among index none name keys)

pub no_numbers : (index : NameIndex) → index.entries ≡ [] → (name : Name) → numbers index name ≡ []
unfolding numbers
no_numbers index none name = none_among index none name (keys_of name)
