-- Which names of a list can be compared with those of certificates, byte for byte.
use Rattle.std.specs.Prelude.{◌≡◌, ◌↔◌, ℕ, Bool, false, IsTrue, List, Option, Some, None, ⊤}
use Rattle.std.specs.List.{AllByRecursion}
use Rattle.krl_format.specs.Krl.{Bitmap, Ids, Range, Serials, Subsection, SubsectionExtension}
use Rattle.krl_format.specs.Krl.{Certificates, Extension, Keys, Sha1s, Sha256s, Signature}
use Rattle.krl_format.specs.Krl.{SpelledSection}
use Rattle.krl_openssh.specs.Authority.{AuthoritiesAreKeys, HasKeyOrAll}
use Rattle.krl_openssh.specs.Difference.{has_zero}
use Rattle.krl_openssh.specs.declared.authorities.Incomparable.{Incomparable}
use Rattle.krl_openssh.specs.declared.authorities.Incomparable.TheVariants as reasons

-- ---- key IDs

-- OpenSSH reads a key ID as text, which ends at a zero byte.
abbrev pub IsWholeId : List ℕ → Type 0
IsWholeId text = has_zero text ≡ false

-- Each key ID of a subsection is so.
abbrev pub HasWholeIds : Subsection → Type 0
HasWholeIds (Serials numbers) = ⊤
HasWholeIds (Range min max) = ⊤
HasWholeIds (Bitmap offset number) = ⊤
HasWholeIds (Ids texts) = AllByRecursion IsWholeId texts
HasWholeIds SubsectionExtension = ⊤

-- Each key ID of a section of certificates is so.
abbrev pub NamesWholeIds : SpelledSection → Type 0
NamesWholeIds (Certificates authority subsections) = AllByRecursion HasWholeIds subsections
NamesWholeIds (Keys blobs) = ⊤
NamesWholeIds (Sha1s hashes) = ⊤
NamesWholeIds (Sha256s hashes) = ⊤
NamesWholeIds Signature = ⊤
NamesWholeIds Extension = ⊤

-- No key ID that the sections name has a zero byte.
abbrev pub KeyIdsAreWhole : List SpelledSection → Type 0
KeyIdsAreWhole sections = AllByRecursion NamesWholeIds sections

-- ---- both

-- Whether names of the sections cannot be compared, and why. A certificate authority is reported
-- before a key ID.
abbrev pub IsIncomparable : List SpelledSection → Option Incomparable → Type 0
IsIncomparable sections None = AuthoritiesAreKeys sections × KeyIdsAreWhole sections
IsIncomparable sections (Some reasons.Authority) = AuthoritiesAreKeys sections → ⊥
IsIncomparable sections (Some reasons.KeyId) =
    AuthoritiesAreKeys sections × (KeyIdsAreWhole sections → ⊥)

-- ---- the steps of the pass over the sections

-- A section is not incomparable for this reason.
abbrev pub IsFine : Incomparable → SpelledSection → Type 0
IsFine reasons.Authority = HasKeyOrAll
IsFine reasons.KeyId = NamesWholeIds

abbrev pub AreFine : Incomparable → List SpelledSection → Type 0
AreFine why sections = AllByRecursion (IsFine why) sections

-- Something at the front was judged. If it is valid, the bytes after it are left.
pub record IsJudged (Valid : Type 0) (fine : Bool) (left rest : List ℕ) : Type 0 where
  pub judged : IsTrue fine ↔ Valid
  pub left_is : IsTrue fine → left ≡ rest
