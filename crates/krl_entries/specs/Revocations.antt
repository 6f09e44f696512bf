-- The contents of revocations, as lists, and the entries that they mean.
use Rattle.std.specs.Prelude.{◌≡◌, ℕ, ◌+◌, ◌<◌, ◌≤◌, ◌⊎◌, ◌↔◌, List, [], ◌∷◌, length, sum_by}
use Rattle.std.specs.Prelude.{All}
use Rattle.std.specs.Prelude.{Contains}
use Rattle.serial_set.specs.declared.span.Span.{Span}
use Rattle.serial_set.specs.Span.{Covers, IsRuns, AreSerials}
use Rattle.krl_types.specs.Entry.{Entry}
use Rattle.krl_types.specs.Naming.{IdOf, KeyOf, Name, SerialOf, Sha1Of, Sha256Of, SomeNames}
use Rattle.krl_entries.specs.Rising.{Rises, RisesBy}

-- the section of one authority, given by its bytes; no bytes mean all authorities
pub record Section : Type 0 where
  pub authority : List ℕ
  pub spans : List Span
  pub ids : List (List ℕ)

abbrev pub section_with : (authority : List ℕ) → List Span → (ids : List (List ℕ)) → Section
section_with authority spans ids = record { authority = authority; spans = spans; ids = ids }

-- everything that is held
pub record Revocations : Type 0 where
  pub sections : List Section
  pub keys : List (List ℕ)
  pub sha1s : List (List ℕ)
  pub sha256s : List (List ℕ)

abbrev pub revocations_of : List Section → (keys sha1s sha256s : List (List ℕ)) → Revocations
revocations_of sections keys sha1s sha256s =
    record { sections = sections; keys = keys; sha1s = sha1s; sha256s = sha256s }

-- no revocations
abbrev pub nothing : Revocations
nothing = revocations_of [] [] [] []

-- ---- the section of an authority

-- some section has a property
abbrev pub SomeSection : (Section → Type 0) → List Section → Type 0
SomeSection P [] = ⊥
SomeSection P (section ∷ sections) = P section ⊎ SomeSection P sections

-- the spans of exactly this authority cover the number s
abbrev pub HoldsSerial : List Section → List ℕ → ℕ → Type 0
HoldsSerial sections a s =
    SomeSection (λ section. (section.authority ≡ a) × Covers section.spans s) sections

-- the text is a key ID under exactly this authority
abbrev pub HoldsId : List Section → List ℕ → List ℕ → Type 0
HoldsId sections a text =
    SomeSection (λ section. (section.authority ≡ a) × Contains section.ids text) sections

-- this authority has a section
abbrev pub IsNamed : Revocations → List ℕ → Type 0
IsNamed r a = SomeSection (λ section. section.authority ≡ a) r.sections

-- the section has exactly the serials and the key IDs that are held under exactly this authority
pub record IsUnder (sections : List Section) (authority : List ℕ) (section : Section) : Type 0 where
  pub serials : (s : ℕ) → HoldsSerial sections authority s ↔ Covers section.spans s
  pub ids : (text : List ℕ) → HoldsId sections authority text ↔ Contains section.ids text

-- ---- order

-- the spans are the runs of their serials, the IDs are in order, and there is a span or an ID
pub record IsOrderlySection (section : Section) : Type 0 where
  pub runs : IsRuns section.spans
  pub serials : AreSerials section.spans
  pub ids_rise : Rises section.ids
  pub some : (0 < length section.spans) ⊎ (0 < length section.ids)

-- Authorities are in the order of their bytes, each once, so the section for all authorities comes
-- first. Keys and hashes are in the order of their bytes, each once.
pub record IsOrderly (r : Revocations) : Type 0 where
  pub authorities_rise : RisesBy (λ section. section.authority) r.sections
  pub listed : All IsOrderlySection r.sections
  pub keys_rise : Rises r.keys
  pub sha1s_rise : Rises r.sha1s
  pub sha256s_rise : Rises r.sha256s
  pub sha1_size : All (λ hash. length hash ≡ 20) r.sha1s
  pub sha256_size : All (λ hash. length hash ≡ 32) r.sha256s

-- ---- meaning

-- the name is held
abbrev pub HoldsName : Revocations → Name → Type 0
HoldsName r (SerialOf a s) = HoldsSerial r.sections a s
HoldsName r (IdOf a text) = HoldsId r.sections a text
HoldsName r (KeyOf blob) = Contains r.keys blob
HoldsName r (Sha1Of hash) = Contains r.sha1s hash
HoldsName r (Sha256Of hash) = Contains r.sha256s hash

-- exactly the names of the entries are held, in order
pub record Means (r : Revocations) (entries : List Entry) : Type 0 where
  pub orderly : IsOrderly r
  pub names : (name : Name) → HoldsName r name ↔ SomeNames entries name

-- ---- size

-- how many spans are held
abbrev pub held : Revocations → ℕ
held r = sum_by (λ section. length section.spans) r.sections

-- how many bytes some texts have
abbrev pub size_of : List (List ℕ) → ℕ
size_of texts = sum_by (λ text. length text) texts

-- how many bytes the authority and the key IDs of a section have
abbrev pub section_size : Section → ℕ
section_size section = length section.authority + size_of section.ids

-- how many bytes the named authorities, key IDs, keys and hashes have, each counted once
abbrev pub stored : Revocations → ℕ
stored r =
    sum_by section_size r.sections + size_of r.keys + size_of r.sha1s + size_of r.sha256s

-- At most n bytes are stored, and the bytes of the current authority fit too if it has no section
-- yet.
pub record IsStoredAtMost (authority : List ℕ) (r : Revocations) (n : ℕ) : Type 0 where
  pub now : stored r ≤ n
  pub next : IsNamed r authority ⊎ (stored r + length authority ≤ n)
