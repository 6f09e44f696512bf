-- Public keys, and the one spelling of their blobs (RFC 4253 section 6.6, RFC 5656, RFC 8709
-- and OpenSSH's PROTOCOL.u2f).
use Rattle.std.specs.Prelude.{◌≡◌, ℕ, ◌<◌, ◌≤◌, List, [], ◌∷◌, ◌++◌, length}
use Rattle.ssh_wire.specs.Rows.{BeginsWithTable}
use Rattle.ssh_wire.specs.Wire.{string}
use Rattle.ssh_key.specs.declared.kind.Kind.{Kind}
use Rattle.ssh_key.specs.Kind.{bits_of, fields_of, type_name}

-- a key: its kind, the bytes of its public fields, and its size in bits
pub record PublicKey : Type 0 where
  pub kind : Kind
  pub fields : List ℕ
  pub bits : ℕ

-- the bytes of the longest blob
abbrev pub longest_blob : ℕ
longest_blob = 65536

-- the type name, followed by the public fields
abbrev pub blob_of : PublicKey → List ℕ
blob_of key = string (type_name key.kind) ++ key.fields

-- a magnitude above zero, without a leading zero byte
abbrev pub IsPositive : List ℕ → Type 0
IsPositive [] = ⊥
IsPositive (byte ∷ bytes) = 0 < byte

-- The blob is that of the key: its type name and its public fields, and nothing more.
pub record IsKey (blob : List ℕ) (key : PublicKey) : Type 0 where
  pub values : List (List ℕ)
  pub fields : BeginsWithTable (fields_of key.kind) [] key.fields values []
  pub bits : key.bits ≡ bits_of key.kind values
  pub spelled : blob ≡ blob_of key
  pub short : length blob ≤ longest_blob

-- The bytes are the public fields of the key, and then the rest.
pub record BeginsWithFields (bytes : List ℕ) (key : PublicKey) (rest : List ℕ) : Type 0 where
  pub is_key : IsKey (blob_of key) key
  pub spelled : bytes ≡ key.fields ++ rest
