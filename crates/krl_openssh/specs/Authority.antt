-- Which certificate authorities of a list can be compared with that of a certificate, and leave the
-- list one that OpenSSH reads.
use Rattle.std.specs.Prelude.{◌≡◌, ◌⊎◌, ℕ, List, [], ⊤}
use Rattle.std.specs.List.{AllByRecursion}
use Rattle.ssh_key.specs.Key.{IsKey, PublicKey}
use Rattle.openssh_keys.specs.Judgement.{judgement_of}
use Rattle.openssh_keys.specs.declared.judgement.Judgement.TheVariants.{Accepted}
use Rattle.krl_format.specs.Krl.{Certificates, Extension, Keys, Sha1s, Sha256s, Signature}
use Rattle.krl_format.specs.Krl.{SpelledSection}

-- The blob of a key, which has one spelling, and OpenSSH accepts the key.
pub record IsAcceptedKey (authority : List ℕ) : Type 0 where
  pub key : PublicKey
  pub is_key : IsKey authority key
  pub accepted : judgement_of key ≡ Accepted

-- Empty, which means all authorities, or an accepted key.
abbrev pub IsKeyOrAll : List ℕ → Type 0
IsKeyOrAll authority = (authority ≡ []) ⊎ IsAcceptedKey authority

-- The authority of a section of certificates is so, also if the section revokes nothing.
abbrev pub HasKeyOrAll : SpelledSection → Type 0
HasKeyOrAll (Certificates authority subsections) = IsKeyOrAll authority
HasKeyOrAll (Keys blobs) = ⊤
HasKeyOrAll (Sha1s hashes) = ⊤
HasKeyOrAll (Sha256s hashes) = ⊤
HasKeyOrAll Signature = ⊤
HasKeyOrAll Extension = ⊤

-- Each authority that the sections name is so.
abbrev pub AuthoritiesAreKeys : List SpelledSection → Type 0
AuthoritiesAreKeys sections = AllByRecursion HasKeyOrAll sections
