-- The sections of a written list name exactly the stored authorities, keys and hashes.
use Rattle.krl_writer.proofs.Common.{[], ◌++◌, ◌↔◌, ◌∙◌, ◌∷◌, ◌≡◌, All, All-tail, append-nil, arith}
use Rattle.krl_writer.proofs.Common.{authority_sections, common_steps, Contains, EachPlan}
use Rattle.krl_writer.proofs.Common.{entries_of, flat_map, flat_map-append, Group, HoldsName, Ids}
use Rattle.krl_writer.proofs.Common.{iff_or, inl, inr, IsOrderlySection, IsOrderly, IsPlan, List, listed_as}
use Rattle.krl_writer.proofs.Common.{map, Means, plan_subsections, refl, Revocations, Section}
use Rattle.krl_writer.proofs.Common.{sections_of, some_cases, SomeSection, subsection_entries}
use Rattle.krl_writer.proofs.Common.{subst, sym, ℕ}
use Rattle.krl_types.specs.Entry.{Entry, IdEntry, KeyEntry, Sha1Entry, Sha256Entry}
use Rattle.krl_types.specs.Naming.{EntryNames, IdOf, KeyOf, Name, SerialOf, Sha1Of, Sha256Of}
use Rattle.krl_types.specs.Naming.{SomeNames}
use Rattle.krl_writer.proofs.Meaning.{plan_names, plan_serials}
use Rattle.krl_types.proofs.SameNames.{mapped_name, same_is, serials_only, some_append}
use Rattle.krl_types.proofs.SameNames.{some_first, some_last}
use Rattle.krl_entries.proofs.SomeSections.{HeldIn, no_section}
use Rattle.std.proofs.Math.Logic.Iff as Iff

-- if no entry names it, the list of entries does not
unmapped : {X : Type 0} (f : X → Entry) (name : Name) → ((x : X) → EntryNames (f x) name → ⊥) → (xs : List X) → SomeNames (map f xs) name → ⊥
unmapped f name none [] h = h
unmapped f name none (x ∷ xs) h = elim h [ inl here ↦ none x here | inr later ↦ unmapped f name none xs later ]

-- ---- a section

-- the entries of texts, if there are any
texts_are : {X : Type 0} (entries : X → List Entry) (item : List (List ℕ) → X) (entry : List ℕ → Entry) → ((texts : List (List ℕ)) → entries (item texts) ≡ map entry texts)
    → (texts : List (List ℕ)) → flat_map entries (listed_as item texts) ≡ map entry texts
texts_are entries item entry each [] = refl
texts_are entries item entry each (text ∷ texts) = append-nil (entries (item (text ∷ texts))) ∙ each (text ∷ texts)

-- the entries of a section: serials, then IDs
abbrev plan_entries : List Group → Section → List Entry
plan_entries plan listed = flat_map (subsection_entries listed.authority) (plan_subsections listed.spans plan)

abbrev entries_under : List Group → Section → List Entry
entries_under plan listed = plan_entries plan listed ++ map (IdEntry listed.authority) listed.ids

section_is : (plan : List Group) (listed : Section) → flat_map (subsection_entries listed.authority) (plan_subsections listed.spans plan ++ listed_as Ids listed.ids) ≡ entries_under plan listed
section_is plan listed = grind (arith, common_steps, flat_map-append, texts_are)

-- the section holds exactly what its entries name
section_names : (plan : List Group) (listed : Section) (name : Name) → IsOrderlySection listed → IsPlan listed.spans plan → HeldIn name listed ↔ SomeNames (entries_under plan listed) name
section_names plan listed (SerialOf a s) is each =
    Iff.trans (Iff.symm (plan_names listed.spans plan listed.authority a s is.runs is.serials each))
    (some_first (plan_entries plan listed) (map (IdEntry listed.authority) listed.ids) (SerialOf a s) (unmapped (IdEntry listed.authority) (SerialOf a s) (λ x h. h) listed.ids))
section_names plan listed (IdOf a text) is each =
    Iff.trans (Iff.symm (mapped_name (IdEntry listed.authority) (IdOf a text) (listed.authority ≡ a) text (λ x. Iff.rfl) listed.ids))
    (some_last (plan_entries plan listed) (map (IdEntry listed.authority) listed.ids) (IdOf a text) (serials_only (plan_entries plan listed) (IdOf a text) (plan_serials listed.spans plan listed.authority)))
section_names plan listed name is each = (
  λ h. absurd h,
  λ h. elim (some_cases (plan_entries plan listed) (map (IdEntry listed.authority) listed.ids) name h) [
    | inl serial ↦ serials_only (plan_entries plan listed) name (plan_serials listed.spans plan listed.authority) serial
    | inr id ↦ unmapped (IdEntry listed.authority) name (λ x h. h) listed.ids id
  ],
)

-- ---- all authorities

authorities_name : (plans : List (List Group)) (listed : List Section) (name : Name) → All IsOrderlySection listed → EachPlan IsPlan plans listed
    → SomeSection (HeldIn name) listed ↔ SomeNames (entries_of (authority_sections plans listed)) name
authorities_name [] [] name all each = Iff.rfl
authorities_name [] (first ∷ listed) name all each = absurd each
authorities_name (plan ∷ plans) [] name all each = absurd each
authorities_name (plan ∷ plans) (first ∷ listed) name all each =
    let here : List Entry = flat_map (subsection_entries first.authority) (plan_subsections first.spans plan ++ listed_as Ids first.ids) in
    let first_names = Iff.trans (section_names plan first name (all 0 first (omega arith)) each.0) (same_is (entries_under plan first) here (sym (section_is plan first)) name) in
    Iff.trans (iff_or first_names (authorities_name plans listed name (All-tail IsOrderlySection first listed all) each.1)) (Iff.symm (some_append here (entries_of (authority_sections plans listed)) name))

-- ---- keys and hashes

abbrev hashes_of : Revocations → List Entry
hashes_of r = map Sha1Entry r.sha1s ++ map Sha256Entry r.sha256s

abbrev texts_of : Revocations → List Entry
texts_of r = map KeyEntry r.keys ++ hashes_of r

abbrev under_of : List (List Group) → Revocations → List Entry
under_of plans r = entries_of (authority_sections plans r.sections)

abbrev all_of : List (List Group) → Revocations → List Entry
all_of plans r = under_of plans r ++ texts_of r

entries_are : (plans : List (List Group)) (r : Revocations) → entries_of (sections_of plans r) ≡ all_of plans r
entries_are plans r = grind (arith, common_steps, flat_map-append, hashes_of, texts_are)

-- byte strings that are named one by one
texts_name : (entry : List ℕ → Entry) (name : Name) (text : List ℕ) → ((x : List ℕ) → EntryNames (entry x) name ↔ (x ≡ text)) → (texts : List (List ℕ)) → Contains texts text ↔ SomeNames (map entry texts) name
texts_name entry name text each texts =
    let both = mapped_name entry name (Unit {0}) text (λ x. (λ h. (tt, (each x).0 h), λ h. (each x).1 h.1)) texts in (λ h. both.1 (tt, h), λ h. (both.0 h).1)

means_all : (plans : List (List Group)) (r : Revocations) → IsOrderly r → EachPlan IsPlan plans r.sections → Means r (all_of plans r)
means_all plans r orderly each = record { orderly = orderly; names = names }
  where
    under : (name : Name) → SomeSection (HeldIn name) r.sections ↔ SomeNames (under_of plans r) name
    under name = authorities_name plans r.sections name orderly.listed each

    no_hash : (name : Name) → ((x : List ℕ) → EntryNames (Sha1Entry x) name → ⊥) → ((x : List ℕ) → EntryNames (Sha256Entry x) name → ⊥) → SomeNames (hashes_of r) name → ⊥
    no_hash name one two h = elim (some_cases (map Sha1Entry r.sha1s) (map Sha256Entry r.sha256s) name h) [ inl x ↦ unmapped Sha1Entry name one r.sha1s x | inr x ↦ unmapped Sha256Entry name two r.sha256s x ]

    -- a name of an authority is in no text, and a text is in no authority
    under_all : (name : Name) → ((x : List ℕ) → EntryNames (KeyEntry x) name → ⊥) → (SomeNames (hashes_of r) name → ⊥) → SomeNames (under_of plans r) name ↔ SomeNames (all_of plans r) name
    under_all name no_key none = some_first (under_of plans r) (texts_of r) name
        (λ h. elim (some_cases (map KeyEntry r.keys) (hashes_of r) name h) [ inl key ↦ unmapped KeyEntry name no_key r.keys key | inr hash ↦ none hash ])

    text_all : (name : Name) → (SomeSection (HeldIn name) r.sections → ⊥) → SomeNames (texts_of r) name ↔ SomeNames (all_of plans r) name
    text_all name none = some_last (under_of plans r) (texts_of r) name (λ h. none ((under name).1 h))

    hash_all : (name : Name) → (SomeSection (HeldIn name) r.sections → ⊥) → ((x : List ℕ) → EntryNames (KeyEntry x) name → ⊥) → SomeNames (hashes_of r) name ↔ SomeNames (all_of plans r) name
    hash_all name none no_key = Iff.trans (some_last (map KeyEntry r.keys) (hashes_of r) name (unmapped KeyEntry name no_key r.keys)) (text_all name none)

    names : (name : Name) → HoldsName r name ↔ SomeNames (all_of plans r) name
    names (SerialOf a s) = Iff.trans (under (SerialOf a s)) (under_all (SerialOf a s) (λ x h. h) (no_hash (SerialOf a s) (λ x h. h) (λ x h. h)))
    names (IdOf a text) = Iff.trans (under (IdOf a text)) (under_all (IdOf a text) (λ x h. h) (no_hash (IdOf a text) (λ x h. h) (λ x h. h)))
    names (KeyOf blob) = Iff.trans (texts_name KeyEntry (KeyOf blob) blob (λ x. Iff.rfl) r.keys)
        (Iff.trans (some_first (map KeyEntry r.keys) (hashes_of r) (KeyOf blob) (no_hash (KeyOf blob) (λ x h. h) (λ x h. h))) (text_all (KeyOf blob) (no_section r.sections)))
    names (Sha1Of hash) = Iff.trans (texts_name Sha1Entry (Sha1Of hash) hash (λ x. Iff.rfl) r.sha1s)
        (Iff.trans (some_first (map Sha1Entry r.sha1s) (map Sha256Entry r.sha256s) (Sha1Of hash) (unmapped Sha256Entry (Sha1Of hash) (λ x h. h) r.sha256s)) (hash_all (Sha1Of hash) (no_section r.sections) (λ x h. h)))
    names (Sha256Of hash) = Iff.trans (texts_name Sha256Entry (Sha256Of hash) hash (λ x. Iff.rfl) r.sha256s)
        (Iff.trans (some_last (map Sha1Entry r.sha1s) (map Sha256Entry r.sha256s) (Sha256Of hash) (unmapped Sha1Entry (Sha256Of hash) (λ x h. h) r.sha1s)) (hash_all (Sha256Of hash) (no_section r.sections) (λ x h. h)))

-- the sections name exactly the stored revocations
pub sections_mean : (plans : List (List Group)) (r : Revocations) → IsOrderly r → EachPlan IsPlan plans r.sections → Means r (entries_of (sections_of plans r))
sections_mean plans r orderly each = subst (λ (es : List Entry). Means r es) (sym (entries_are plans r)) (means_all plans r orderly each)
