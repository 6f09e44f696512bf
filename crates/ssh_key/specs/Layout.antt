-- The bytes of a key of each kind, field by field, as the documents list them.
--
-- Reading and spelling use the same tables, so a wrong row would be wrong in both. A law says that
-- the tables spell exactly these bytes.
use Rattle.std.specs.Prelude.{◌≡◌, ℕ, ◌<◌, ◌≤◌, List, [], ◌∷◌, ◌++◌, length, codes, slice_index}
use Rattle.std.specs.List.{AllByRecursion, concat}
use Rattle.ssh_wire.specs.Wire.{mpint, string}
use Rattle.ssh_key.specs.declared.kind.Kind.{Kind}
use Rattle.ssh_key.specs.declared.kind.Kind.TheVariants.{Rsa, Dsa, Ecdsa256, Ecdsa384, Ecdsa521}
use Rattle.ssh_key.specs.declared.kind.Kind.TheVariants.{Ed25519, EcdsaSk, Ed25519Sk}
use Rattle.ssh_key.specs.Key.{IsPositive, PublicKey, longest_blob}
use Rattle.ssh_key.specs.Kind.{bit_count, type_name}

-- RFC 4253, section 6.6: mpint e, mpint n. The size is that of n.
pub record IsRsaText (bytes : List ℕ) (bits : ℕ) : Type 0 where
  pub e : List ℕ
  pub n : List ℕ
  pub spelled : bytes ≡ concat (mpint e ∷ mpint n ∷ [])
  pub e_is : IsPositive e
  pub n_is : IsPositive n
  pub bits_are : bits ≡ bit_count n

-- RFC 4253, section 6.6: mpint p, mpint q, mpint g, mpint y. The size is that of p.
pub record IsDsaText (bytes : List ℕ) (bits : ℕ) : Type 0 where
  pub p : List ℕ
  pub q : List ℕ
  pub g : List ℕ
  pub y : List ℕ
  pub spelled : bytes ≡ concat (mpint p ∷ mpint q ∷ mpint g ∷ mpint y ∷ [])
  pub p_is : IsPositive p
  pub q_is : IsPositive q
  pub g_is : IsPositive g
  pub y_is : IsPositive y
  pub bits_are : bits ≡ bit_count p

-- an uncompressed point, which begins with 4
abbrev pub IsPoint : List ℕ → ℕ → Type 0
IsPoint point size = (length point ≡ size) × (slice_index point 0 ≡ 4)

-- RFC 5656, section 3.1: string curve, string Q
pub record IsEcdsaText (curve : List ℕ) (size : ℕ) (bytes : List ℕ) : Type 0 where
  pub point : List ℕ
  pub spelled : bytes ≡ concat (string curve ∷ string point ∷ [])
  pub point_is : IsPoint point size

-- RFC 8709, section 4: string key
pub record IsEd25519Text (bytes : List ℕ) : Type 0 where
  pub key : List ℕ
  pub spelled : bytes ≡ concat (string key ∷ [])
  pub size_is : length key ≡ 32

-- no byte is zero
abbrev pub IsApplication : List ℕ → Type 0
IsApplication text = AllByRecursion (λ byte. 0 < byte) text

-- PROTOCOL.u2f: string curve, string Q, string application
pub record IsEcdsaSkText (bytes : List ℕ) : Type 0 where
  pub point : List ℕ
  pub application : List ℕ
  pub spelled
      : bytes ≡ concat (string (codes "nistp256") ∷ string point ∷ string application ∷ [])
  pub point_is : IsPoint point 65
  pub application_is : IsApplication application

-- PROTOCOL.u2f: string key, string application
pub record IsEd25519SkText (bytes : List ℕ) : Type 0 where
  pub key : List ℕ
  pub application : List ℕ
  pub spelled : bytes ≡ concat (string key ∷ string application ∷ [])
  pub size_is : length key ≡ 32
  pub application_is : IsApplication application

-- the public fields of a kind, and the size in bits
abbrev pub IsPublicText : Kind → List ℕ → ℕ → Type 0
IsPublicText Rsa bytes bits = IsRsaText bytes bits
IsPublicText Dsa bytes bits = IsDsaText bytes bits
IsPublicText Ecdsa256 bytes bits = IsEcdsaText (codes "nistp256") 65 bytes × (bits ≡ 256)
IsPublicText Ecdsa384 bytes bits = IsEcdsaText (codes "nistp384") 97 bytes × (bits ≡ 384)
IsPublicText Ecdsa521 bytes bits = IsEcdsaText (codes "nistp521") 133 bytes × (bits ≡ 521)
IsPublicText Ed25519 bytes bits = IsEd25519Text bytes × (bits ≡ 256)
IsPublicText EcdsaSk bytes bits = IsEcdsaSkText bytes × (bits ≡ 256)
IsPublicText Ed25519Sk bytes bits = IsEd25519SkText bytes × (bits ≡ 256)

-- the type name and the public fields
pub record IsKeyText (blob : List ℕ) (key : PublicKey) : Type 0 where
  pub public : IsPublicText key.kind key.fields key.bits
  pub spelled : blob ≡ string (type_name key.kind) ++ key.fields
  pub short : length blob ≤ longest_blob
