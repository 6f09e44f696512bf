-- The entries of the lines of specification files (ssh-keygen(1), KEY REVOCATION LISTS).
use Rattle.std.specs.Prelude.{ℕ, ◌==◌, if◌then◌else◌, List, [], ◌∷◌, Option, Some, None, Result}
use Rattle.std.specs.Prelude.{Ok, Err}
use Rattle.sha1.specs.Sha1.{sha1}
use Rattle.sha2.specs.Sha256.{sha256}
use Rattle.ssh_wire.specs.Reading.{◌>>=◌, in_fault}
use Rattle.key_text.specs.FingerprintReading.{fingerprint_at}
use Rattle.keyed_lines.specs.Keys.{subject_in}
use Rattle.krl_types.specs.Subject.{CertNames}
use Rattle.krl_types.specs.Entry.{Entry, RangeEntry, IdEntry, KeyEntry, Sha1Entry, Sha256Entry}
use Rattle.krl_spec.specs.Number.{serials_of_text}
use Rattle.krl_spec.specs.Blanks.{bare_line}
use Rattle.krl_spec.specs.Directive.{Order, order_in}
use Rattle.krl_spec.specs.Keys.{plain_in}
use Rattle.krl_spec.specs.declared.directive.Directive.{Directive}
use Rattle.krl_spec.specs.declared.directive.Directive.TheVariants.{Serial, Id, Key, Sha1, Sha256}
use Rattle.krl_spec.specs.declared.directive.Directive.TheVariants.{Hash}
use Rattle.run_faults.specs.declared.spec_cause.SpecCause.{SpecCause}
use Rattle.run_faults.specs.declared.spec_cause.SpecCause.TheVariants as causes

-- ---- serials and key IDs, under the current authority

abbrev pub serial_order : Option (List ℕ) → List ℕ → Result Entry SpecCause
serial_order None text = Err causes.NoAuthority
serial_order (Some authority) text = do
  bounds ← serials_of_text text
  Ok (RangeEntry authority bounds.lo bounds.hi)

abbrev pub id_order : Option (List ℕ) → List ℕ → Result Entry SpecCause
id_order None text = Err causes.NoAuthority
id_order (Some authority) [] = Err causes.EmptyId
id_order (Some authority) (byte ∷ bytes) = Ok (IdEntry authority (byte ∷ bytes))

-- ---- keys

abbrev pub key_order : List ℕ → Result Entry SpecCause
key_order text = do
  plain ← plain_in text
  Ok (KeyEntry plain)

abbrev pub sha1_order : List ℕ → Result Entry SpecCause
sha1_order text = do
  plain ← plain_in text
  Ok (Sha1Entry (sha1 plain))

abbrev pub sha256_order : List ℕ → Result Entry SpecCause
sha256_order text = do
  plain ← plain_in text
  Ok (Sha256Entry (sha256 plain))

abbrev pub hash_order : List ℕ → Result Entry SpecCause
hash_order text = do
  digest ← in_fault causes.Fingerprint (fingerprint_at text)
  Ok (Sha256Entry digest)

-- The entry of a certificate is its serial, or its key ID if the serial is 0.
abbrev pub certificate_entry : CertNames → Entry
certificate_entry names =
    if names.serial == 0 then IdEntry names.authority names.key_id
    else RangeEntry names.authority names.serial names.serial

abbrev pub names_entry : List ℕ → Option CertNames → Entry
names_entry plain None = KeyEntry plain
names_entry plain (Some names) = certificate_entry names

-- A line without a directive names a plain key by its blob, and a certificate as above.
abbrev pub bare_entry : List ℕ → Result Entry SpecCause
bare_entry text = do
  asked ← in_fault causes.Key (subject_in text)
  Ok (names_entry asked.plain asked.cert)

-- ---- lines

abbrev pub order_entry : Option (List ℕ) → Directive → List ℕ → Result Entry SpecCause
order_entry authority Serial given = serial_order authority given
order_entry authority Id given = id_order authority given
order_entry authority Key given = key_order given
order_entry authority Sha1 given = sha1_order given
order_entry authority Sha256 given = sha256_order given
order_entry authority Hash given = hash_order given

abbrev pub text_entry : Option (List ℕ) → List ℕ → Option Order → Result Entry SpecCause
text_entry authority text None = bare_entry text
text_entry authority text (Some order) = order_entry authority order.directive order.given

-- the entry of a line, if the line has content
abbrev pub counted_entry : Option (List ℕ) → List ℕ → Option (Result Entry SpecCause)
counted_entry authority [] = None
counted_entry authority (byte ∷ bytes) =
    Some (text_entry authority (byte ∷ bytes) (order_in (byte ∷ bytes)))

-- The current authority is None if it is not given, and otherwise its bytes. All authorities are
-- empty bytes.
unfoldable pub line_entry : Option (List ℕ) → List ℕ → Option (Result Entry SpecCause)
line_entry authority line = counted_entry authority (bare_line line)
