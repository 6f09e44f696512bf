-- The revocations of a list while it is read.
use Rattle.std.specs.Prelude.{◌≡◌, ℕ, List, [], ◌∷◌, ◌++◌, Option, Some, None, IfSome, ⊤, cond}
use Rattle.std.specs.Ordering.{is_eq}
use Rattle.krl_entries.specs.declared.addition.Addition.{Addition}
use Rattle.krl_entries.specs.Changes.{AddsTo, TakesAddition, empty_section}
use Rattle.krl_entries.specs.Revocations.{IsOrderlySection, IsNamed, Revocations, Section}
use Rattle.krl_entries.specs.Rising.{bytes_cmp}

-- the revocations, and the authority whose section is kept apart, if there is one
pub record Gathered : Type 0 where
  pub contents : Revocations
  pub apart : Option (List ℕ)

-- no section is kept apart, or only that of this authority
abbrev pub IsAt : Gathered → (authority : List ℕ) → Type 0
IsAt gathered authority = IfSome gathered.apart (λ name. name ≡ authority)

-- the sections, where this one replaces the section of its authority
abbrev pub with_section : Section → List Section → List Section
with_section section [] = []
with_section section (other ∷ others) =
    cond (is_eq (bytes_cmp section.authority other.authority))
    (section ∷ others) (other ∷ with_section section others)

-- the sections, where the one that is kept apart replaces the section of its authority
abbrev pub with_apart : Option Section → List Section → List Section
with_apart None sections = sections
with_apart (Some section) sections = with_section section sections

-- all revocations, including the section that is kept apart
abbrev pub whole : Option Section → Revocations → Revocations
whole apart rest = record rest { sections = with_apart apart rest.sections }

-- the authority of the section that is kept apart
abbrev pub name_of : Option Section → Option (List ℕ)
name_of None = None
name_of (Some section) = Some section.authority

-- a section that is kept apart has a place among the others, is in order and is not empty
abbrev pub HasPlace : Option Section → Revocations → Type 0
HasPlace None rest = ⊤
HasPlace (Some section) rest = IsNamed rest section.authority × IsOrderlySection section

-- A section takes the addition and is taken out. A section with only the addition is left.
abbrev pub IsTaken : Addition → (from : Section) → (taken : Option Section) → (left : Section)
    → Type 0
IsTaken addition from None left = ⊥
IsTaken addition from (Some taken) left =
    TakesAddition addition from taken
    × TakesAddition addition (empty_section from.authority) left

-- the same for the section of an authority, among all sections
pub record Opens (addition : Addition) (authority : List ℕ) (old : List Section)
    (taken : Section) (rest : List Section) : Type 0 where
  pub front : List Section
  pub back : List Section
  pub from : Section
  pub left : Section
  pub before : old ≡ front ++ from ∷ back
  pub after : rest ≡ front ++ left ∷ back
  pub with_taken : with_section taken rest ≡ front ++ taken ∷ back
  pub under : from.authority ≡ authority
  pub takes : TakesAddition addition from taken
  pub stands_in : TakesAddition addition (empty_section authority) left

-- If a section is taken out, the addition is in it. Otherwise the addition is in a section that
-- stays.
abbrev pub TakesOut : Addition → List ℕ → (old : List Section) → Option Section
    → (rest : List Section) → Type 0
TakesOut addition authority old None rest = AddsTo addition authority old rest
TakesOut addition authority old (Some taken) rest = Opens addition authority old taken rest

-- the addition goes to a section of the authority, and everything else stays the same
pub record AddsUnder (addition : Addition) (authority : List ℕ) (old new : Revocations)
    : Type 0 where
  pub adds : AddsTo addition authority old.sections new.sections
  pub same : new ≡ record old { sections = new.sections }
