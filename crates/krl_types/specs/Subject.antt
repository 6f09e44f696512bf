-- The subject of a query of a revocation list (ssh-keygen(1), KEY REVOCATION LISTS).
use Rattle.std.specs.Prelude.{ℕ, List, Option}

-- the parts of a certificate that a list can name, besides its plain key
pub record CertNames : Type 0 where
  pub serial : ℕ
  pub key_id : List ℕ
  pub authority : List ℕ

-- a plain key by its blob, and for a certificate its names
pub record Subject : Type 0 where
  pub plain : List ℕ
  pub cert : Option CertNames
