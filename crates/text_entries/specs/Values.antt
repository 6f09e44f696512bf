-- The values of the words of the text of a list, and what cuts one short.
use Rattle.std.specs.Prelude.{ℕ, Bool, false, ◌+◌, ◌==◌, ◌&&◌, ◌||◌, nat_eq, nat_lt, List, []}
use Rattle.std.specs.Prelude.{◌∷◌, length, codes, Option, Some, None, Result, Ok, Err, drop}
use Rattle.std.specs.Prelude.{if◌then◌else◌}
use Rattle.std.specs.Char.{is_ascii_alphabetic, is_ascii_digit, is_ascii_hexdigit}
use Rattle.std.specs.List.{before_first, list_all, list_any, position_or_len, starts_with}
use Rattle.base64.specs.Engines.{standard, standard_no_pad}
use Rattle.base64.specs.GeneralPurpose.{decode_of}
use Rattle.base64.specs.declared.decode.DecodeError.{DecodeError}
use Rattle.hex.specs.Hex.{decode_of as hex_decode_of}
use Rattle.hex.specs.declared.error.FromHexError.{FromHexError}
use Rattle.ssh_wire.specs.Ascii.{digit_zero}
use Rattle.ssh_wire.specs.Reading.{◌>>=◌, in_fault}
use Rattle.key_text.specs.Blanks.{after_blanks, before_ending, first_word, is_blank}
use Rattle.key_text.specs.TypeName.{is_type_name}
use Rattle.key_text.specs.declared.line_fault.LineFault.TheVariants as lines
use Rattle.key_text.specs.declared.fingerprint_fault.FingerprintFault.TheVariants as fingerprints
use Rattle.keyed_lines.specs.Keys.{subject_in}
use Rattle.keyed_lines.specs.declared.key_cause.KeyCause.TheVariants as keys
use Rattle.run_faults.specs.declared.spec_cause.SpecCause.TheVariants as specs
use Rattle.krl_types.specs.Subject.{CertNames}
use Rattle.krl_spec.specs.Number.{is_hyphen}
use Rattle.text_entries.specs.declared.text_cause.TextCause.{TextCause}
use Rattle.text_entries.specs.declared.text_cause.TextCause.TheVariants as causes

-- ---- bytes

abbrev no_base64 : DecodeError → TextCause
no_base64 error = causes.Base64

-- the bytes of base64 with padding
unfoldable pub blob_in : List ℕ → Result (List ℕ) TextCause
blob_in text = in_fault no_base64 (decode_of standard text)

abbrev no_hex : FromHexError → TextCause
no_hex error = causes.Hex

-- the bytes of pairs of hexadecimal digits
unfoldable pub bytes_in : List ℕ → Result (List ℕ) TextCause
bytes_in text = in_fault no_hex (hex_decode_of text)

-- ---- keys

-- The text begins with the type name of a key: no options, marker or host names are before it.
abbrev pub begins_with_key : List ℕ → Bool
begins_with_key text = is_type_name (first_word text)

abbrev pub has_blank : List ℕ → Bool
has_blank text = list_any is_blank text

abbrev pub no_key : TextCause
no_key = causes.Spec (specs.Key (keys.Line lines.NoKey))

-- ---- authorities

-- a plain key by its blob, and no certificate
abbrev pub unless_certified : List ℕ → Option CertNames → Result (List ℕ) TextCause
unless_certified plain None = Ok plain
unless_certified plain (Some names) = Err causes.Certificate

-- the blob of a key line of a plain key
unfoldable pub authority_key_in : List ℕ → Result (List ℕ) TextCause
authority_key_in text = do
  asked ← in_fault causes.Spec (in_fault specs.Key (subject_in text))
  unless_certified asked.plain asked.cert

abbrev pub is_all : List ℕ → Bool
is_all text = starts_with nat_eq text (codes "all") && (length text == 3)

-- one by a key line with nothing before the key
abbrev pub bare_authority_in : List ℕ → Result (List ℕ) TextCause
bare_authority_in text = if begins_with_key text then authority_key_in text else Err no_key

-- all authorities, which are no bytes, or one
unfoldable pub authority_in : List ℕ → Result (List ℕ) TextCause
authority_in text = if is_all text then Ok [] else bare_authority_in text

abbrev pub some_bytes : List ℕ → Result (List ℕ) TextCause
some_bytes [] = Err causes.NoBytes
some_bytes (byte ∷ bytes) = Ok (byte ∷ bytes)

-- one authority by its bytes
unfoldable pub authority_blob_in : List ℕ → Result (List ℕ) TextCause
authority_blob_in text = do
  bytes ← blob_in text
  some_bytes bytes

-- ---- hashes

abbrev pub sha1_prefix : List ℕ
sha1_prefix = codes "SHA1:"

abbrev pub is_sha1 : List ℕ → Bool
is_sha1 text = starts_with nat_eq text sha1_prefix

abbrev pub sized : Result (List ℕ) DecodeError → Result (List ℕ) TextCause
sized (Err error) = Err (causes.Spec (specs.Fingerprint fingerprints.Base64))
sized (Ok bytes) =
    if length bytes == 20 then Ok bytes
    else Err (causes.Spec (specs.Fingerprint fingerprints.Length))

-- the 20 bytes of base64 without padding after the prefix
unfoldable pub sha1_in : List ℕ → Result (List ℕ) TextCause
sha1_in text = sized (decode_of standard_no_pad (drop 5 text))

-- ---- serial numbers

-- The number begins with 0 and has more digits.
abbrev pub begins_with_zero : List ℕ → Bool
begins_with_zero (first ∷ second ∷ digits) =
    first == digit_zero && is_ascii_digit second
begins_with_zero text = false

-- The number has a leading zero, or one of two around a hyphen has.
unfoldable pub has_leading_zero : List ℕ → Bool
has_leading_zero text =
    if nat_lt (position_or_len is_hyphen text) (length text)
    then begins_with_zero text
    || begins_with_zero (after_blanks (drop (position_or_len is_hyphen text + 1) text))
    else begins_with_zero text

-- Its digits are hexadecimal, and 0x is not before them.
abbrev pub is_bare_hex : List ℕ → Bool
is_bare_hex text = list_all is_ascii_hexdigit text && list_any is_ascii_alphabetic text

-- The number lacks its 0x, or one of two around a hyphen does.
unfoldable pub lacks_prefix : List ℕ → Bool
lacks_prefix text =
    if nat_lt (position_or_len is_hyphen text) (length text)
    then is_bare_hex (before_ending (before_first is_hyphen text))
    || is_bare_hex (after_blanks (drop (position_or_len is_hyphen text + 1) text))
    else is_bare_hex text

-- ---- key IDs by their bytes

abbrev pub is_zero : ℕ → Bool
is_zero byte = byte == 0

abbrev pub has_zero : List ℕ → Bool
has_zero text = list_any is_zero text
