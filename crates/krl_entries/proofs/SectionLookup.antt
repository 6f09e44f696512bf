-- The one section of an authority.
use Rattle.krl_entries.proofs.Common.{[], ⊎_elim, ⊎_map, ◌++◌, ◌↔◌, ◌∙◌, ◌∷◌, ◌≡◌, ◌⊎◌, AllAbove}
use Rattle.krl_entries.proofs.Common.{AllBelow, Contains, Covers, empty_section, HoldsId}
use Rattle.krl_entries.proofs.Common.{HoldsSerial, inl, inr, IsUnder, List, Section, SomeSection}
use Rattle.krl_entries.proofs.Common.{Stands, subst, sym, ℕ}
use Rattle.krl_entries.proofs.RisingLists.{less_apart}
use Rattle.krl_entries.proofs.SomeSections.{some_middle}
use Rattle.krl_types.proofs.Elements.{contains_none}
use Rattle.krl_entries.proofs.Elements.{some_weaker}

abbrev key : Section → List ℕ
key section = section.authority

Under : List ℕ → (Section → Type 0) → Type 0
Under a P = (section : Section) → P section → section.authority ≡ a

none_below : (a : List ℕ) (P : Section → Type 0) → Under a P → (sections : List Section) → AllBelow key a sections → SomeSection P sections → ⊥
unfolding Under
none_below a P under [] b h = h
none_below a P under (x ∷ xs) b h =
    elim h [ inl here ↦ less_apart x.authority a b.0 (under x here) | inr later ↦ none_below a P under xs b.1 later ]

none_above : (a : List ℕ) (P : Section → Type 0) → Under a P → (sections : List Section) → AllAbove key a sections → SomeSection P sections → ⊥
unfolding Under
none_above a P under [] b h = h
none_above a P under (x ∷ xs) b h =
    elim h [ inl here ↦ less_apart a x.authority b.0 (sym (under x here)) | inr later ↦ none_above a P under xs b.1 later ]

section_cases : (P : Section → Type 0) (front back : List Section) → SomeSection P (front ++ back) → SomeSection P front ⊎ SomeSection P back
section_cases P [] back h = inr h
section_cases P (x ∷ front) back h =
    elim h [ inl here ↦ inl (inl here) | inr later ↦ ⊎_map inr (λ r. r) (section_cases P front back later) ]

-- a property under an authority is a property of its section
one_under : (sections : List Section) (section : Section) (P : Section → Type 0) → Under section.authority P → Stands key sections section → SomeSection P sections ↔ P section
one_under sections section P under s = (
  λ h. elim ((some_middle P s.front section s.back).0 (subst (SomeSection P) s.parts h)) [
    | inl at ↦ at
    | inr other ↦ absurd (⊎_elim (none_below section.authority P under s.front s.below) (none_above section.authority P under s.back s.above) (section_cases P s.front s.back other))
  ],
  λ h. subst (SomeSection P) (sym s.parts) ((some_middle P s.front section s.back).1 (inl h)),
)

-- the key IDs and the serials under the authority of a section are its own
pub id_under : (sections : List Section) (section : Section) (a id : List ℕ) → section.authority ≡ a → Stands (λ s. s.authority) sections section → HoldsId sections a id ↔ Contains section.ids id
unfolding Under
id_under sections section a id same stands =
    let ids = one_under sections section (λ s. (s.authority ≡ a) × Contains s.ids id) (λ s h. h.0 ∙ sym same) stands in
    (λ h. (ids.0 h).1, λ i. ids.1 (same, i))

pub serial_under : (sections : List Section) (section : Section) (a : List ℕ) (serial : ℕ) → section.authority ≡ a → Stands (λ s. s.authority) sections section → HoldsSerial sections a serial ↔ Covers section.spans serial
unfolding Under
serial_under sections section a serial same stands =
    let serials = one_under sections section (λ s. (s.authority ≡ a) × Covers s.spans serial) (λ s h. h.0 ∙ sym same) stands in
    (λ h. (serials.0 h).1, λ i. serials.1 (same, i))

pub no_id_under : (sections : List Section) (a id : List ℕ) → (SomeSection (λ s. s.authority ≡ a) sections → ⊥) → HoldsId sections a id → ⊥
no_id_under sections a id absent h = absent (some_weaker (λ s at. at.0) sections h)

pub no_serial_under : (sections : List Section) (a : List ℕ) (serial : ℕ) → (SomeSection (λ s. s.authority ≡ a) sections → ⊥) → HoldsSerial sections a serial → ⊥
no_serial_under sections a serial absent h = absent (some_weaker (λ s at. at.0) sections h)

pub is_under : (sections : List Section) (section : Section) (a : List ℕ) → section.authority ≡ a → Stands (λ s. s.authority) sections section → IsUnder sections a section
is_under sections section a same stands = record {
  serials = λ s. serial_under sections section a s same stands;
  ids = λ text. id_under sections section a text same stands;
}

pub none_under : (sections : List Section) (a : List ℕ) → (SomeSection (λ s. s.authority ≡ a) sections → ⊥) → IsUnder sections a (empty_section a)
none_under sections a absent = record {
  serials = λ s. (no_serial_under sections a s absent, λ h. absurd h);
  ids = λ text. (λ h. absurd (no_id_under sections a text absent h), λ h. absurd (contains_none text h));
}
