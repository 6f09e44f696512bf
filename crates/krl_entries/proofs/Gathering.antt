-- The revocations of a list after an addition under an authority.
use Rattle.krl_entries.proofs.Common.{◌++◌, ◌+◌, ◌≡◌, ◌≤◌, added_entries, Addition, AddsUnder}
use Rattle.krl_entries.proofs.Common.{AllocError, ap, arith, bytes_in, Err, Gathered, HasPlace}
use Rattle.krl_entries.proofs.Common.{inl, inr, IsNamed, IsOneChange, IsOrderly, Item}
use Rattle.krl_entries.proofs.Common.{IsStoredAtMost, List, MatchResult, Means, MeansMore, Ok}
use Rattle.krl_entries.proofs.Common.{OnErr, OnOk, refl, Result, Revocations, Section, Serials, Some, stored}
use Rattle.krl_entries.proofs.Common.{subst, sym, TakesAddition, whole, with_section, ℕ}
use Rattle.krl_entries.specs.Addition.{IsKey, IsOneAddition}
use Rattle.krl_types.specs.declared.item_kind.ItemKind.TheVariants as kinds
use Rattle.krl_entries.proofs.Additions.{adds_mean, takes_listed}
use Rattle.krl_entries.proofs.Amounts.{adds_named, adds_stored, named_stored}
use Rattle.krl_entries.proofs.SeparateSections.{changed_orderly, in_order, place_of}
use Rattle.krl_entries.proofs.SectionChanges.{takes_authority}

-- ---- the section that is kept apart

-- the revocations are in order, including the section that is kept apart
pub whole_orderly : (section : Section) (rest : Revocations) → HasPlace (Some section) rest → IsOrderly rest → IsOrderly (whole (Some section) rest)
whole_orderly section rest h o =
    let p = place_of section.authority rest.sections h.0 in
    changed_orderly p.front p.back p.from section rest.sections (with_section section rest.sections) rest.keys rest.sha1s rest.sha256s p.before (p.with_other section refl) p.under h.1 o

-- the section takes an addition
pub apart_adds : (addition : Addition) (a : List ℕ) (from to : Section) (rest : Revocations) → HasPlace (Some from) rest → from.authority ≡ a → TakesAddition addition from to → AddsUnder addition a (whole (Some from) rest) (whole (Some to) rest)
apart_adds addition a from to rest h name t =
    let p = place_of from.authority rest.sections h.0 in
    record {
      adds = inl (record {
        front = p.front;
        back = p.back;
        from = from;
        to = to;
        before = p.with_other from refl;
        after = p.with_other to (takes_authority addition from to t);
        under = name;
        changed = t;
      });
      same = refl;
    }

-- the section keeps its place
pub apart_place : (addition : Addition) (result : Result (Unit {0}) AllocError) (from to : Section) (rest : Revocations) → IsOneChange addition → HasPlace (Some from) rest
    → MatchResult result (λ _. TakesAddition addition from to) (λ _. to ≡ from) → HasPlace (Some to) rest
apart_place addition (Ok done) from to rest one h t =
    (subst (IsNamed rest) (sym (takes_authority addition from to t)) h.0, takes_listed addition from to one (in_order from h.1) t)
apart_place addition (Err fault) from to rest one h same = subst (λ section. HasPlace (Some section) rest) (sym same) h

pub apart_done : (addition : Addition) (a : List ℕ) (result : Result (Unit {0}) AllocError) (from to : Section) (rest : Revocations) → HasPlace (Some from) rest → from.authority ≡ a
    → MatchResult result (λ _. TakesAddition addition from to) (λ _. to ≡ from) → OnOk result (AddsUnder addition a (whole (Some from) rest) (whole (Some to) rest))
apart_done addition a (Ok done) from to rest h name t = apart_adds addition a from to rest h name t
apart_done addition a (Err fault) from to rest h name same = tt

-- what contracts see while the section is kept apart
abbrev pub with_one : Section → Revocations → Gathered
with_one section rest = record { contents = whole (Some section) rest; apart = Some section.authority }

pub apart_refused : (addition : Addition) (result : Result (Unit {0}) AllocError) (from to : Section) (rest : Revocations) → MatchResult result (λ _. TakesAddition addition from to) (λ _. to ≡ from)
    → OnErr result (with_one to rest ≡ with_one from rest)
apart_refused addition (Ok done) from to rest t = tt
apart_refused addition (Err fault) from to rest same = ap (λ (s : Section). with_one s rest) same

-- the contents stay the same if an addition is refused
pub contents_stay : (result : Result (Unit {0}) AllocError) (old new : Gathered) → OnErr result (new ≡ old) → OnErr result (new.contents ≡ old.contents)
contents_stay (Ok done) old new same = tt
contents_stay (Err fault) old new same = ap (λ (g : Gathered). g.contents) same

-- ---- the meaning and the size of an addition

pub adds_mean_more : (addition : Addition) (a : List ℕ) (old new : Revocations) → IsOneChange addition → AddsUnder addition a old new → MeansMore old new (added_entries a addition)
adds_mean_more addition a old new one u entries m =
    subst (λ r. Means r (entries ++ added_entries a addition)) (sym u.same) (adds_mean addition a old.sections new.sections old.keys old.sha1s old.sha256s entries one u.adds m)

pub stored_more : (addition : Addition) (a : List ℕ) (result : Result (Unit {0}) AllocError) (old new : Revocations) → OnOk result (AddsUnder addition a old new) → OnErr result (new ≡ old)
    → (n : ℕ) → IsStoredAtMost a old n → IsStoredAtMost a new (n + bytes_in addition)
stored_more addition a (Ok done) old new u err n w = record {
  now = elim w.next [
    | inl named ↦ subst (λ r. stored r ≤ n + bytes_in addition) (sym u.same) (omega (arith, w.now, named_stored addition a old.sections new.sections named u.adds))
    | inr fits ↦ subst (λ r. stored r ≤ n + bytes_in addition) (sym u.same) (omega (arith, fits, adds_stored addition a old.sections new.sections u.adds))
  ];
  next = inl (adds_named addition a old.sections new.sections u.adds);
}
stored_more addition a (Err fault) old new ok err n w = subst (λ r. IsStoredAtMost a r (n + bytes_in addition)) (sym err) (record {
  now = omega (arith, w.now);
  next = elim w.next [ inl named ↦ inl named | inr fits ↦ inr (omega (arith, fits)) ];
})

-- ---- certificates

-- certificates are one change of a section
pub one_change : (addition : Addition) → IsOneAddition addition → (IsKey addition → ⊥) → IsOneChange addition
one_change (Serials near) one none = one
one_change (Item kinds.Id id) one none = refl
one_change (Item kinds.Key blob) one none = absurd (none tt)
one_change (Item kinds.Sha1 hash) one none = absurd (none tt)
one_change (Item kinds.Sha256 hash) one none = absurd (none tt)
