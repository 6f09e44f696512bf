-- Judgements that passed: the places after them.
use Rattle.krl_format.proofs.Common.{[], ◌-◌, ◌∙◌, ◌∷◌, ◌≡◌, ◌⊎◌, ap, Bool, cond, eqb, eqb-true, Err, expected}
use Rattle.krl_format.proofs.Common.{false, inl, inr, KrlFault, List, None, number_of, Ok, ok_is, Option}
use Rattle.krl_format.proofs.Common.{Place, refl, Result, Section, section_row, Some, subsection_row}
use Rattle.krl_format.proofs.Common.{SubsectionKind, true, ℕ}
use Rattle.krl_format.specs.Section.{SectionRow, length_of, of_type}
use Rattle.krl_format.specs.declared.place.Place.TheVariants as places
use Rattle.krl_format.specs.declared.section.Section.TheVariants as section_kinds
use Rattle.krl_format.specs.declared.section.Subsection.TheVariants as subsection_kinds

abbrev pub done : Place → Result Place KrlFault
done p = Ok p

pub same_place : (p q : Place) → done p ≡ done q → p ≡ q
same_place p q e = ok_is p q (done p) refl e

pub held_back : (b : Bool) (why : KrlFault) (x : Result Place KrlFault) (q : Place) → cond b (Err why) x ≡ Ok q → (b ≡ false) × (x ≡ Ok q)
held_back true why x q e = absurd (cc)
held_back false why x q e = (refl, e)

pub chosen : (b : Bool) (p : Place) (x : Result Place KrlFault) (q : Place) → cond b (Ok p) x ≡ Ok q → ((b ≡ true) × (p ≡ q)) ⊎ (x ≡ Ok q)
chosen true p x q e = inl (refl, same_place p q e)
chosen false p x q e = inr e

-- ---- type bytes

found : {X : Type 0} (b : Bool) (x : X) (other : Option X) (y : X) → cond b (Some x) other ≡ Some y → ((b ≡ true) × (x ≡ y)) ⊎ (other ≡ Some y)
found true x other y e = inl (refl, cc)
found false x other y e = inr e

-- the part that was found has this type byte
pub typed_so : {X : Type 0} (row_of : X → SectionRow) (parts : List X) (n : ℕ) (x : X) → of_type row_of parts n ≡ Some x → n ≡ (row_of x).type_byte
typed_so row_of [] n x e = absurd (cc)
typed_so {X} row_of (part ∷ parts) n x e =
    elim (found (eqb n (row_of part).type_byte) part (of_type row_of parts n) x e) [
      | inl here ↦ eqb-true n (row_of part).type_byte here.0 ∙ ap (λ (y : X). (row_of y).type_byte) here.1
      | inr later ↦ typed_so row_of parts n x later
    ]

-- the part, whose length comes next
pub length_next : {X : Type 0} (unknown : KrlFault) (length_place : X → Place) (part : Option X) (q : Place) → length_of unknown length_place part ≡ Ok q → (x : X) × (part ≡ Some x) × (length_place x ≡ q)
length_next unknown length_place None q e = absurd (cc)
length_next unknown length_place (Some x) q e = (x, refl, same_place (length_place x) q e)

-- each section is found by its type byte
pub section_typed : (section : Section) → (expected (places.SectionType false)).judged ((section_row section).type_byte ∷ []) ≡ Ok (places.SectionLength section)
unfolding number_of
section_typed section_kinds.Certificates = refl
section_typed section_kinds.Keys = refl
section_typed section_kinds.Sha1s = refl
section_typed section_kinds.Sha256s = refl
section_typed section_kinds.Extension = refl

pub subsection_typed : (part : SubsectionKind) (left : ℕ) → (expected (places.SubsectionType left)).judged ((subsection_row part).type_byte ∷ []) ≡ Ok (places.SubsectionLength part (left - 1))
unfolding number_of
subsection_typed subsection_kinds.Serials left = refl
subsection_typed subsection_kinds.Range left = refl
subsection_typed subsection_kinds.Bitmap left = refl
subsection_typed subsection_kinds.Ids left = refl
subsection_typed subsection_kinds.Extension left = refl
