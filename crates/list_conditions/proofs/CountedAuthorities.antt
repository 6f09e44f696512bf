-- A list holds each authority that its entries name, and no other one.
use Rattle.std.proofs.Common.{◌≡◌, ℕ, ◌<◌, ◌⊎◌, List, [], ◌∷◌, length, inl, inr, refl, sym, ap, subst, ◌∙◌, arith}
use Rattle.std.specs.Prelude.{◌↔◌, All, Contains}
use Rattle.std.specs.List.{AllByRecursion}
use Rattle.std.proofs.lemmas.List.Elements.{recursion_from_All}
use Rattle.serial_set.specs.declared.span.Span.{Span}
use Rattle.serial_set.specs.Span.{Covers, IsRuns}
use Rattle.krl_types.proofs.Elements.{contains_here}
use Rattle.krl_types.specs.Entry.{Entry}
use Rattle.krl_types.specs.Naming.{IdOf, SerialOf, SomeNames}
use Rattle.krl_entries.specs.Revocations.{HoldsId, HoldsSerial, IsOrderlySection, Means, Revocations, Section, SomeSection}
use Rattle.krl_entries.specs.Rising.{AllAbove, Rises, RisesBy, bytes_cmp}
use Rattle.list_conditions.specs.Authorities.{HasAuthorities, IsAmong, IsAuthority}

abbrev authorities_of : List Section → List (List ℕ)
authorities_of [] = []
authorities_of (section ∷ sections) = section.authority ∷ authorities_of sections

as_many : (sections : List Section) → length sections ≡ length (authorities_of sections)
as_many [] = refl
as_many (section ∷ sections) = omega (arith, as_many sections)

all_above : (bytes : List ℕ) (sections : List Section) → AllAbove (λ section. section.authority) bytes sections → AllAbove (λ b. b) bytes (authorities_of sections)
all_above bytes [] all = tt
all_above bytes (section ∷ sections) all = (all.0, all_above bytes sections all.1)

each_once : (sections : List Section) → RisesBy (λ section. section.authority) sections → Rises (authorities_of sections)
each_once [] rise = tt
each_once (section ∷ sections) rise = (all_above section.authority sections rise.0, each_once sections rise.1)

-- ---- held, and so named

-- a serial number or a key ID is held under the authority
abbrev HoldsSome : List Section → List ℕ → Type 0
HoldsSome sections a = ((s : ℕ) × HoldsSerial sections a s) ⊎ ((id : List ℕ) × HoldsId sections a id)

first_serial : (spans : List Span) → IsRuns spans → 0 < length spans → (s : ℕ) × Covers spans s
first_serial [] runs some = absurd (omega (arith, some))
first_serial (span ∷ spans) runs some = (span.lo, inl (omega arith, runs.1))

first_id : (ids : List (List ℕ)) → 0 < length ids → (id : List ℕ) × Contains ids id
first_id [] some = absurd (omega (arith, some))
first_id (id ∷ ids) some = (id, contains_here id ids)

here : (section : Section) (sections : List Section) → IsOrderlySection section → HoldsSome (section ∷ sections) section.authority
here section sections orderly = elim orderly.some [
  | inl spans ↦ let (s, covers) = first_serial section.spans orderly.runs spans in inl (s, inl (refl, covers))
  | inr ids ↦ let (id, has) = first_id section.ids ids in inr (id, inl (refl, has))
]

later : (section : Section) (sections : List Section) (a : List ℕ) → HoldsSome sections a → HoldsSome (section ∷ sections) a
later section sections a (inl (s, holds)) = inl (s, inr holds)
later section sections a (inr (id, holds)) = inr (id, inr holds)

held : (sections : List Section) (a : List ℕ) → AllByRecursion IsOrderlySection sections → IsAmong (authorities_of sections) a → HoldsSome sections a
held [] a orderly among = absurd among
held (section ∷ sections) a orderly (inl is) = subst (HoldsSome (section ∷ sections)) is (here section sections orderly.0)
held (section ∷ sections) a orderly (inr among) = later section sections a (held sections a orderly.1 among)

serial_among : (sections : List Section) (a : List ℕ) (s : ℕ) → HoldsSerial sections a s → IsAmong (authorities_of sections) a
serial_among [] a s holds = absurd holds
serial_among (section ∷ sections) a s (inl (is, covers)) = inl is
serial_among (section ∷ sections) a s (inr holds) = inr (serial_among sections a s holds)

id_among : (sections : List Section) (a id : List ℕ) → HoldsId sections a id → IsAmong (authorities_of sections) a
id_among [] a id holds = absurd holds
id_among (section ∷ sections) a id (inl (is, has)) = inl is
id_among (section ∷ sections) a id (inr holds) = inr (id_among sections a id holds)

names_it : (list : Revocations) (entries : List Entry) (a : List ℕ) → Means list entries → HoldsSome list.sections a → IsAuthority entries a
names_it list entries a means (inl (s, holds)) = inl (s, (means.names (SerialOf a s)).0 holds)
names_it list entries a means (inr (id, holds)) = inr (id, (means.names (IdOf a id)).0 holds)

holds_it : (list : Revocations) (entries : List Entry) (a : List ℕ) → Means list entries → IsAuthority entries a → IsAmong (authorities_of list.sections) a
holds_it list entries a means (inl (s, some)) = serial_among list.sections a s ((means.names (SerialOf a s)).1 some)
holds_it list entries a means (inr (id, some)) = id_among list.sections a id ((means.names (IdOf a id)).1 some)

pub law : (list : Revocations) (entries : List Entry) → Means list entries → HasAuthorities entries (length list.sections)
law list entries means = record {
  authorities = authorities_of list.sections;
  each_once = each_once list.sections means.orderly.authorities_rise;
  named = λ a. (λ among. names_it list entries a means (held list.sections a (recursion_from_All IsOrderlySection list.sections means.orderly.listed) among), λ is. holds_it list entries a means is);
  count_is = as_many list.sections;
}
