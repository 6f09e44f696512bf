-- Why a key or a certificate is revoked: the name that it has for each reason, and whether entries
-- name it.
use Rattle.std.specs.Prelude.{ℕ, ◌+◌, ◌*◌, ◌==◌, nat_lt, Bool, true, false, List, [], ◌∷◌, map}
use Rattle.std.specs.Prelude.{Option, Some, None}
use Rattle.std.specs.Int.{bit_at}
use Rattle.std.specs.Option.{option_map}
use Rattle.sha1.specs.Sha1.{sha1}
use Rattle.sha2.specs.Sha256.{sha256}
use Rattle.krl_types.specs.Subject.{Subject}
use Rattle.krl_entries.specs.declared.reasons.Reason.{Reason}
use Rattle.krl_entries.specs.declared.reasons.Reason.TheVariants as reasons
use Rattle.krl_entries.specs.declared.reasons.Reasons.{Reasons}
use Rattle.krl_types.specs.Entry.{Entry}
use Rattle.krl_types.specs.Naming.{IdOf, KeyOf, Name, SerialOf, Sha1Of, Sha256Of, SomeNames}
use Rattle.krl_entries.specs.Revocations.{Revocations}
use Rattle.krl_entries.specs.Tested.{holds_name, some_names}

-- The name that entries have for a reason. A plain key has none for the reasons of a certificate.
abbrev pub name_asked : Reason → Subject → Option Name
name_asked reasons.Key asked = Some (KeyOf asked.plain)
name_asked reasons.KeySha1 asked = Some (Sha1Of (sha1 asked.plain))
name_asked reasons.KeySha256 asked = Some (Sha256Of (sha256 asked.plain))
name_asked reasons.Authority asked = option_map (λ cert. KeyOf cert.authority) asked.cert
name_asked reasons.AuthoritySha1 asked =
    option_map (λ cert. Sha1Of (sha1 cert.authority)) asked.cert
name_asked reasons.AuthoritySha256 asked =
    option_map (λ cert. Sha256Of (sha256 cert.authority)) asked.cert
name_asked reasons.Serial asked =
    option_map (λ cert. SerialOf cert.authority cert.serial) asked.cert
name_asked reasons.SerialOfAll asked = option_map (λ cert. SerialOf [] cert.serial) asked.cert
name_asked reasons.KeyId asked = option_map (λ cert. IdOf cert.authority cert.key_id) asked.cert
name_asked reasons.KeyIdOfAll asked = option_map (λ cert. IdOf [] cert.key_id) asked.cert

-- there is a name, and it has a property
abbrev pub OfName : (Name → Type 0) → Option Name → Type 0
OfName Holds None = ⊥
OfName Holds (Some name) = Holds name

-- The entries revoke the key or the certificate in this way.
abbrev pub IsReason : List Entry → Subject → Reason → Type 0
IsReason entries subject reason = OfName (SomeNames entries) (name_asked reason subject)

-- ---- the same as tests

-- there is a name, and it passes a test
abbrev pub passes : (Name → Bool) → Option Name → Bool
passes names None = false
passes names (Some name) = names name

abbrev pub every_reason : List Reason
every_reason =
    reasons.Key ∷ reasons.KeySha1 ∷ reasons.KeySha256
    ∷ reasons.Authority ∷ reasons.AuthoritySha1 ∷ reasons.AuthoritySha256
    ∷ reasons.Serial ∷ reasons.SerialOfAll ∷ reasons.KeyId ∷ reasons.KeyIdOfAll ∷ []

-- the position of the bit of a reason
abbrev pub position_of : Reason → ℕ
position_of reasons.Key = 0
position_of reasons.KeySha1 = 1
position_of reasons.KeySha256 = 2
position_of reasons.Authority = 3
position_of reasons.AuthoritySha1 = 4
position_of reasons.AuthoritySha256 = 5
position_of reasons.Serial = 6
position_of reasons.SerialOfAll = 7
position_of reasons.KeyId = 8
position_of reasons.KeyIdOfAll = 9

abbrev pub has_reason : Reasons → Reason → Bool
has_reason all reason = bit_at all.bits (position_of reason) == 1

abbrev pub any_reason : Reasons → Bool
any_reason all = nat_lt 0 all.bits

abbrev pub bit_of : Bool → ℕ
bit_of true = 1
bit_of false = 0

-- bits, each one position higher, and a lowest one below them
abbrev pub with_bit : ℕ → Bool → ℕ
with_bit bits lowest = 2 * bits + bit_of lowest

-- the first one is the lowest
abbrev pub bits_in : List Bool → ℕ
bits_in [] = 0
bits_in (lowest ∷ others) = with_bit (bits_in others) lowest

-- the reasons whose names pass a test
unfoldable pub reasons_by : (Name → Bool) → Subject → Reasons
reasons_by names subject =
    let passed : Reason → Bool = λ reason. passes names (name_asked reason subject) in
    record { bits = bits_in (map passed every_reason) }

-- the reasons that revocations give
abbrev pub held_reasons : Revocations → Subject → Reasons
held_reasons r = reasons_by (holds_name r)

-- the reasons that entries give
abbrev pub reasons_of : List Entry → Subject → Reasons
reasons_of entries = reasons_by (some_names entries)

-- ---- the test of whether something is revoked: there is a reason

unfoldable pub revokes : Revocations → Subject → Bool
revokes r subject = any_reason (held_reasons r subject)

unfoldable pub is_revoked : List Entry → Subject → Bool
is_revoked entries subject = any_reason (reasons_of entries subject)
