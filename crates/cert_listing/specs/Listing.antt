-- The listing of a certificate (ssh-keygen(1), option -L): the lines after its first one.
use Rattle.std.specs.Prelude.{◌≡◌, ℕ, ◌-◌, ◌^◌, ◌==◌, ◌&&◌, ◌||◌, Bool, nat_lt, nat_le}
use Rattle.std.specs.Prelude.{if◌then◌else◌, List, [], ◌∷◌, ◌++◌, Result, Ok, Err, codes, decimal}
use Rattle.std.specs.Prelude.{map}
use Rattle.std.specs.List.{flat_map}
use Rattle.std.specs.Str.{bytes_eq}
use Rattle.hex.specs.Hex.{encode_lower}
use Rattle.ssh_wire.specs.Reading.{string_at}
use Rattle.ssh_wire.specs.declared.fault.WireFault.{WireFault}
use Rattle.ssh_key.specs.Key.{PublicKey, blob_of}
use Rattle.ssh_key.specs.Kind.{certificate_name, short_name_of}
use Rattle.key_text.specs.declared.hash.Hash.{Hash}
use Rattle.key_text.specs.Fingerprints.{fingerprint_text}
use Rattle.ssh_cert.specs.declared.role.Role.{Role}
use Rattle.ssh_cert.specs.declared.role.Role.TheVariants.{User, Host}
use Rattle.ssh_cert.specs.Cert.{Cert}
use Rattle.ssh_cert.specs.Escape.{escaped}
use Rattle.ssh_cert.specs.Options.{CertOption}
use Rattle.cert_listing.specs.Time.{instant_text, IsTimeText}

-- a label and its value
unfoldable pub line : List ℕ → List ℕ → List ℕ
line label value = codes "        " ++ (label ++ (codes ": " ++ (value ++ 10 ∷ [])))

-- one of several items
unfoldable pub item : List ℕ → List ℕ
item text = codes "                " ++ (text ++ 10 ∷ [])

-- a label above its items
unfoldable pub lines : List ℕ → List (List ℕ) → List ℕ
lines label [] = line label (codes "(none)")
lines label (first ∷ items) =
    codes "        " ++ (label ++ (codes ":" ++ 10 ∷ [])) ++ flat_map item (first ∷ items)

abbrev pub role_text : Role → List ℕ
role_text User = codes " user certificate"
role_text Host = codes " host certificate"

abbrev pub type_value : Cert → List ℕ
type_value certificate = certificate_name certificate.key.kind ++ role_text certificate.role

abbrev pub key_value : Hash → PublicKey → List ℕ
key_value hash key =
    short_name_of key.kind ++ (codes "-CERT " ++ fingerprint_text hash (blob_of key))

abbrev pub authority_value : Hash → Cert → List ℕ
authority_value hash certificate =
    short_name_of certificate.authority_key.kind
    ++ (codes " " ++ (fingerprint_text hash certificate.authority
    ++ (codes " (using " ++ (escaped certificate.algorithm ++ codes ")"))))

abbrev pub id_value : List ℕ → List ℕ
id_value id = codes "\"" ++ (escaped id ++ codes "\"")

-- the greatest number of eight bytes, which means no end
abbrev pub endless : ℕ
endless = 2 ^ 64 - 1

-- The time between two instants, given by their texts.
abbrev pub period_of : ℕ → ℕ → List ℕ → List ℕ → List ℕ
period_of after before after_text before_text =
    if after == 0
    then (if before == endless then codes "forever" else codes "before " ++ before_text)
    else if before == endless then codes "after " ++ after_text
    else codes "from " ++ (after_text ++ (codes " to " ++ before_text))

abbrev pub valid_value : Cert → ℕ → List ℕ
valid_value certificate moment =
    if nat_le certificate.after moment && nat_lt moment certificate.before
    then codes "yes" else codes "no"

-- options whose data is the string of a text
abbrev pub has_text : List ℕ → Bool
has_text name = bytes_eq name (codes "force-command") || bytes_eq name (codes "source-address")

-- the data as text, if it is exactly one string
abbrev pub string_or_hex : List ℕ → Result (List ℕ × List ℕ) WireFault → List ℕ
string_or_hex content (Ok (text, [])) = codes " " ++ escaped text
string_or_hex content (Ok (text, byte ∷ rest)) = codes " hex:" ++ encode_lower content
string_or_hex content (Err fault) = codes " hex:" ++ encode_lower content

unfoldable pub data_text : List ℕ → List ℕ → List ℕ
data_text name [] = []
data_text name (byte ∷ bytes) =
    if has_text name then string_or_hex (byte ∷ bytes) (string_at (byte ∷ bytes))
    else codes " hex:" ++ encode_lower (byte ∷ bytes)

abbrev pub option_item : CertOption → List ℕ
option_item option = escaped option.name ++ data_text option.name option.content

-- the time in which the certificate is valid
abbrev pub valid_period : Cert → List ℕ
valid_period certificate =
    period_of certificate.after certificate.before
    (instant_text certificate.after) (instant_text certificate.before)

-- The text is the time in which the certificate is valid, with given texts of its two instants.
pub record IsPeriod (certificate : Cert) (text : List ℕ) : Type 0 where
  pub after : List ℕ
  pub before : List ℕ
  pub after_is : IsTimeText certificate.after after
  pub before_is : IsTimeText certificate.before before
  pub period : text ≡ period_of certificate.after certificate.before after before

-- the lines in order, in three parts
unfoldable pub identity_text : Hash → Cert → List ℕ
identity_text hash certificate =
    line (codes "Type") (type_value certificate)
    ++ (line (codes "Public key") (key_value hash certificate.key)
    ++ line (codes "Signing CA") (authority_value hash certificate))

unfoldable pub terms_text : Cert → ℕ → List ℕ → List ℕ
terms_text certificate moment period =
    line (codes "Key ID") (id_value certificate.key_id)
    ++ (line (codes "Serial") (decimal certificate.serial)
    ++ (line (codes "Valid") period
    ++ line (codes "Valid now") (valid_value certificate moment)))

unfoldable pub lists_text : Cert → List ℕ
lists_text certificate =
    lines (codes "Principals") (map escaped certificate.principals)
    ++ (lines (codes "Critical Options") (map option_item certificate.critical)
    ++ lines (codes "Extensions") (map option_item certificate.extensions))

abbrev pub listing_text : Hash → Cert → ℕ → List ℕ → List ℕ
listing_text hash certificate moment period =
    identity_text hash certificate
    ++ (terms_text certificate moment period ++ lists_text certificate)

-- The listing of the certificate at the moment, with fingerprints by this hash.
unfoldable pub listing_of : Hash → Cert → ℕ → List ℕ
listing_of hash certificate moment =
    listing_text hash certificate moment (valid_period certificate)

-- The text lists the certificate at the moment, with fingerprints by this hash.
pub record IsListing (hash : Hash) (certificate : Cert) (moment : ℕ) (text : List ℕ)
    : Type 0 where
  pub period : List ℕ
  pub is_period : IsPeriod certificate period
  pub spelled : text ≡ listing_text hash certificate moment period
