-- The kinds of keys: their names, the names of their certificates, the short names of listings,
-- their public fields and their sizes.
use Rattle.std.specs.Prelude.{ℕ, ◌-◌, ◌*◌, ◌==◌, ◌&&◌, Bool, false, List, [], ◌∷◌, length, Option}
use Rattle.std.specs.Prelude.{Some, None, codes, slice_index_or, if◌then◌else◌}
use Rattle.std.specs.Int.{w8, leading_zeros}
use Rattle.std.specs.List.{find, list_any}
use Rattle.std.specs.Str.{bytes_eq}
use Rattle.ssh_wire.specs.Rows.{Magnitude, Row, Text, fault_unless, row}
use Rattle.ssh_key.specs.declared.fault.KeyFault.{KeyFault}
use Rattle.ssh_key.specs.declared.fault.KeyFault.TheVariants as faults
use Rattle.ssh_key.specs.declared.kind.Kind.{Kind}
use Rattle.ssh_key.specs.declared.kind.Kind.TheVariants.{Rsa, Dsa, Ecdsa256, Ecdsa384, Ecdsa521}
use Rattle.ssh_key.specs.declared.kind.Kind.TheVariants.{Ed25519, EcdsaSk, Ed25519Sk}

abbrev pub type_name : Kind → List ℕ
type_name Rsa = codes "ssh-rsa"
type_name Dsa = codes "ssh-dss"
type_name Ecdsa256 = codes "ecdsa-sha2-nistp256"
type_name Ecdsa384 = codes "ecdsa-sha2-nistp384"
type_name Ecdsa521 = codes "ecdsa-sha2-nistp521"
type_name Ed25519 = codes "ssh-ed25519"
type_name EcdsaSk = codes "sk-ecdsa-sha2-nistp256@openssh.com"
type_name Ed25519Sk = codes "sk-ssh-ed25519@openssh.com"

abbrev pub short_name_of : Kind → List ℕ
short_name_of Rsa = codes "RSA"
short_name_of Dsa = codes "DSA"
short_name_of Ecdsa256 = codes "ECDSA"
short_name_of Ecdsa384 = codes "ECDSA"
short_name_of Ecdsa521 = codes "ECDSA"
short_name_of Ed25519 = codes "ED25519"
short_name_of EcdsaSk = codes "ECDSA-SK"
short_name_of Ed25519Sk = codes "ED25519-SK"

-- the type name of the certificates of a kind (OpenSSH's PROTOCOL.certkeys)
abbrev pub certificate_name : Kind → List ℕ
certificate_name Rsa = codes "ssh-rsa-cert-v01@openssh.com"
certificate_name Dsa = codes "ssh-dss-cert-v01@openssh.com"
certificate_name Ecdsa256 = codes "ecdsa-sha2-nistp256-cert-v01@openssh.com"
certificate_name Ecdsa384 = codes "ecdsa-sha2-nistp384-cert-v01@openssh.com"
certificate_name Ecdsa521 = codes "ecdsa-sha2-nistp521-cert-v01@openssh.com"
certificate_name Ed25519 = codes "ssh-ed25519-cert-v01@openssh.com"
certificate_name EcdsaSk = codes "sk-ecdsa-sha2-nistp256-cert-v01@openssh.com"
certificate_name Ed25519Sk = codes "sk-ssh-ed25519-cert-v01@openssh.com"

abbrev pub kinds : List Kind
kinds = Rsa ∷ Dsa ∷ Ecdsa256 ∷ Ecdsa384 ∷ Ecdsa521 ∷ Ed25519 ∷ EcdsaSk ∷ Ed25519Sk ∷ []

-- the kind with this type name
unfoldable pub kind_named : List ℕ → Option Kind
kind_named name = find (λ kind. bytes_eq (type_name kind) name) kinds

-- the kind whose certificates have this type name
unfoldable pub kind_certified : List ℕ → Option Kind
kind_certified name = find (λ kind. bytes_eq (certificate_name kind) name) kinds

-- ---- the public fields

-- a number above zero
abbrev pub positive_field : Row KeyFault
positive_field = row Magnitude
    (λ before value. if length value == 0 then Some faults.Number else None)

-- the name of the curve
abbrev pub curve_field : List ℕ → Row KeyFault
curve_field name = row Text (λ before value. fault_unless faults.Curve (bytes_eq value name))

-- the uncompressed form begins with 4
abbrev pub begins_with_4 : List ℕ → Bool
begins_with_4 [] = false
begins_with_4 (byte ∷ bytes) = byte == 4

-- an uncompressed point of this many bytes
abbrev pub point_field : ℕ → Row KeyFault
point_field size = row Text (λ before value.
    fault_unless faults.Point (length value == size && begins_with_4 value))

-- any string of this many bytes
abbrev pub sized_field : ℕ → Row KeyFault
sized_field size = row Text (λ before value. fault_unless faults.Length (length value == size))

abbrev pub has_zero : List ℕ → Bool
has_zero value = list_any (λ byte. byte == 0) value

-- The application of a security key has no zero byte, as OpenSSH writes it: a zero byte ends its
-- texts, and it drops a zero byte at the end.
abbrev pub application_field : Row KeyFault
application_field = row Text (λ before value. if has_zero value then Some faults.Length else None)

-- the table of each kind
abbrev pub fields_of : Kind → List (Row KeyFault)
fields_of Rsa = positive_field ∷ positive_field ∷ []
fields_of Dsa = positive_field ∷ positive_field ∷ positive_field ∷ positive_field ∷ []
fields_of Ecdsa256 = curve_field (codes "nistp256") ∷ point_field 65 ∷ []
fields_of Ecdsa384 = curve_field (codes "nistp384") ∷ point_field 97 ∷ []
fields_of Ecdsa521 = curve_field (codes "nistp521") ∷ point_field 133 ∷ []
fields_of Ed25519 = sized_field 32 ∷ []
fields_of EcdsaSk = curve_field (codes "nistp256") ∷ point_field 65 ∷ application_field ∷ []
fields_of Ed25519Sk = sized_field 32 ∷ application_field ∷ []

-- eight for each byte of a magnitude, minus the leading zero bits of the first
abbrev pub bit_count : List ℕ → ℕ
bit_count [] = 0
bit_count (byte ∷ bytes) = 8 * length (byte ∷ bytes) - leading_zeros w8 byte

-- The size of a key in bits: that of n for RSA (the second number), that of p for DSA (the first),
-- and otherwise that of the kind.
abbrev pub bits_of : Kind → List (List ℕ) → ℕ
bits_of Rsa values = bit_count (slice_index_or values 1 [])
bits_of Dsa values = bit_count (slice_index_or values 0 [])
bits_of Ecdsa256 values = 256
bits_of Ecdsa384 values = 384
bits_of Ecdsa521 values = 521
bits_of Ed25519 values = 256
bits_of EcdsaSk values = 256
bits_of Ed25519Sk values = 256
