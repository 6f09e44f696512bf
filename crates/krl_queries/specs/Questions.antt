-- Questions that are asked while a list is read.
use Rattle.std.specs.Prelude.{◌≡◌, ℕ, ◌+◌, ◌-◌, ◌*◌, ◌<◌, ◌≤◌, ◌⊎◌, Bool, true, List, []}
use Rattle.std.specs.Prelude.{length, sum_by, Option, Some, None, Contains, ⊤}
use Rattle.serial_set.specs.declared.span.Span.{Span}
use Rattle.krl_types.specs.Subject.{CertNames, Subject}
use Rattle.krl_entries.specs.Revocations.{Revocations, Section, HoldsId, HoldsSerial}
use Rattle.krl_entries.specs.Revocations.{held, stored}
use Rattle.krl_types.specs.Naming.{Name, SerialOf}
use Rattle.krl_entries.specs.Reasons.{name_asked}
use Rattle.krl_entries.specs.declared.reasons.Reason.{Reason}
use Rattle.krl_entries.specs.Scope.{IsTopic, Scope}

-- the topics, which are asked about, and what was found of them
pub record Asked : Type 0 where
  pub topics : Revocations
  pub found : Revocations

-- the names that are asked about
abbrev pub asked_in : Asked → Scope
asked_in asked = Some asked.topics

-- every topic stays one
abbrev pub AsksMore : (old new : Revocations) → Type 0
AsksMore old new = (name : Name) → IsTopic old name → IsTopic new name

-- the hashes are exactly those of the keys
pub record HashesOf (hash : List ℕ → List ℕ) (keys hashes : List (List ℕ)) : Type 0 where
  pub all : (key : List ℕ) → Contains keys key → Contains hashes (hash key)
  pub only : (text : List ℕ) → Contains hashes text
      → (key : List ℕ) × (Contains keys key × (hash key ≡ text))

-- the same, once the hashes are made
abbrev pub AreHashed : Bool → (List ℕ → List ℕ) → (keys hashes : List (List ℕ)) → Type 0
AreHashed made hash keys hashes = made ≡ true → HashesOf hash keys hashes

-- a key ID and a serial number are topics under an authority; 0 is no serial number
abbrev pub HasUnder : Revocations → (authority id : List ℕ) (serial : ℕ) → Type 0
HasUnder topics authority id serial =
    HoldsId topics.sections authority id
    × ((serial ≡ 0) ⊎ HoldsSerial topics.sections authority serial)

-- all names of a certificate are topics
abbrev pub HasAll : Revocations → CertNames → Type 0
HasAll topics cert =
    Contains topics.keys cert.authority
    × (HasUnder topics [] cert.key_id cert.serial
    × HasUnder topics cert.authority cert.key_id cert.serial)

abbrev pub HasCert : Revocations → Option CertNames → Type 0
HasCert topics None = ⊤
HasCert topics (Some cert) = HasAll topics cert

-- the name is a topic, or the serial number 0, which names no certificate
abbrev pub IsAsked : Revocations → Name → Type 0
IsAsked topics (SerialOf authority serial) =
    (serial ≡ 0) ⊎ HoldsSerial topics.sections authority serial
IsAsked topics name = IsTopic topics name

-- if there is a name, it has a property
abbrev pub EachName : (Name → Type 0) → Option Name → Type 0
EachName Holds None = ⊤
EachName Holds (Some name) = Holds name

-- The key or the certificate is asked about: the name that it has for each reason is.
pub record Asks (topics : Revocations) (subject : Subject) : Type 0 where
  pub names : (reason : Reason) → EachName (IsAsked topics) (name_asked reason subject)

-- ---- the size of questions and findings

-- how many numbers a span has
abbrev pub span_size : Span → ℕ
span_size span = span.hi - span.lo + 1

-- how many serial numbers are held, each under its authority
abbrev pub serials_in : List Section → ℕ
serials_in sections = sum_by (λ section. sum_by span_size section.spans) sections

-- The revocations are small compared with the topics: at most one run for each serial number, and
-- at most the bytes of the topics and of two hashes for each key.
pub record IsSmall (topics r : Revocations) : Type 0 where
  pub held_is : held r ≤ serials_in topics.sections
  pub stored_is : stored r ≤ stored topics + 52 * length topics.keys

-- how many bytes a certificate's names have, under all authorities and under its own
abbrev pub names_size : Option CertNames → ℕ
names_size None = 0
names_size (Some cert) = 2 * (length cert.authority + length cert.key_id)

-- how many bytes a key or a certificate asks about
abbrev pub subject_size : Subject → ℕ
subject_size subject = length subject.plain + names_size subject.cert

-- ---- the search for topics

-- the first number from `lo` to `hi` with a property, if there is one
abbrev pub IsFirst : (ℕ → Type 0) → (lo hi : ℕ) → Option ℕ → Type 0
IsFirst Member lo hi None = (s : ℕ) → lo ≤ s → s ≤ hi → Member s → ⊥
IsFirst Member lo hi (Some first) =
    (lo ≤ first) × (first ≤ hi) × Member first
    × ((s : ℕ) → lo ≤ s → s < first → Member s → ⊥)
