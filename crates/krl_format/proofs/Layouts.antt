-- The tables of fields spell the bytes that are written out.
use Rattle.krl_format.proofs.Common.{[], ◌++◌, ◌<◌, ◌==◌, ◌∙◌, ◌∷◌, ◌≡◌, ◌^◌, ap, append-nil, arith, BeginsWithPart, Bool, eqb-true, false, Header, KrlFault}
use Rattle.krl_format.proofs.Common.{authority_fields, extension_fields, header_fields, header_of, BeginsWithTable, length, List, None, Number, number, refl, signature_fields}
use Rattle.krl_format.proofs.Common.{slice_index, slice_index_or, string, subst, sym, Text, true, ℕ}
use Rattle.ssh_wire.specs.Rows.{fault_unless}
use Rattle.krl_format.specs.Field.{magic_number}
use Rattle.krl_format.specs.Krl.{SpellsFields, magic}
use Rattle.krl_format.specs.Layout.{BeginsWithAuthority, BeginsWithHeader, HaveTheseTypes, IsExtensionText, IsSignatureText}
use Rattle.krl_types.specs.declared.krl_fault.KrlFault.TheVariants as faults

pub magic_bytes : number 8 magic_number ≡ magic
unfolding number
magic_bytes = refl

-- ---- a field, and its bytes

-- a number that must be one passed
must_be : (fault : KrlFault) (b : Bool) → fault_unless fault b ≡ None → b ≡ true
must_be fault true e = refl
must_be fault false e = absurd cc

this_number : {size : ℕ} {bytes value left : List ℕ} (fault : KrlFault) (n : ℕ) → BeginsWithPart (Number size) bytes value left → fault_unless fault (slice_index value 0 == n) ≡ None → bytes ≡ number size n ++ left
this_number {size} {bytes} {value} {left} fault n begins passed =
    let same : slice_index value 0 ≡ n = eqb-true (slice_index value 0) n (must_be fault _ passed) in
    begins.spelled ∙ ap (λ (m : ℕ). number size m ++ left) same

number_field : (size n : ℕ) (left : List ℕ) → n < 256 ^ size → BeginsWithPart (Number size) (number size n ++ left) (n ∷ []) left
number_field size n left fits = record { is_part = (refl, fits); spelled = refl }

text_field : (value left : List ℕ) → length value < 2 ^ 32 → BeginsWithPart Text (string value ++ left) value left
text_field value left fits = record { is_part = fits; spelled = refl }

-- ---- the header

pub header_spelled : (bytes rest : List ℕ) (values : List (List ℕ)) → BeginsWithTable header_fields [] bytes values rest → BeginsWithHeader bytes (header_of values) rest
header_spelled bytes rest values (first, a, is_magic, first_passed, (format, b, is_format, format_passed, (version, c, is_version, _, (date, d, is_date, _, (flags, e, is_flags, _, (reserved, f, is_reserved, _, (comment, g, is_comment, _, (all, end)))))))) =
    subst (λ (v : List (List ℕ)). BeginsWithHeader bytes (header_of v) rest) all (record {
      flags = slice_index flags 0;
      reserved = reserved;
      spelled =
          this_number faults.Magic magic_number is_magic first_passed
          ∙ ap (λ (m : List ℕ). m ++ a) magic_bytes
          ∙ ap (λ (t : List ℕ). magic ++ t) (this_number faults.FormatVersion 1 is_format format_passed
          ∙ ap (λ (t : List ℕ). number 4 1 ++ t) (is_version.spelled
          ∙ ap (λ (t : List ℕ). number 8 (slice_index version 0) ++ t) (is_date.spelled
          ∙ ap (λ (t : List ℕ). number 8 (slice_index date 0) ++ t) (is_flags.spelled
          ∙ ap (λ (t : List ℕ). number 8 (slice_index flags 0) ++ t) (is_reserved.spelled
          ∙ ap (λ (t : List ℕ). string reserved ++ t) (is_comment.spelled ∙ ap (λ (t : List ℕ). string comment ++ t) (end ∙ sym (append-nil rest))))))));
      version_fits = is_version.is_part.1;
      date_fits = is_date.is_part.1;
      flags_fit = is_flags.is_part.1;
      reserved_fits = is_reserved.is_part;
      comment_fits = is_comment.is_part;
    })

pub header_spells : (bytes rest : List ℕ) (header : Header) → BeginsWithHeader bytes header rest → (values : List (List ℕ)) × BeginsWithTable header_fields [] bytes values rest × (header_of values ≡ header)
header_spells bytes rest header h =
    let after_comment : List ℕ = string header.comment ++ (rest ++ []) in
    let after_reserved : List ℕ = string h.reserved ++ after_comment in
    let after_flags : List ℕ = number 8 h.flags ++ after_reserved in
    let after_date : List ℕ = number 8 header.date ++ after_flags in
    let after_version : List ℕ = number 8 header.version ++ after_date in
    let after_format : List ℕ = number 4 1 ++ after_version in
    let first : BeginsWithPart (Number 8) bytes (magic_number ∷ []) after_format =
    record { is_part = (refl, omega arith); spelled = h.spelled ∙ ap (λ (m : List ℕ). m ++ after_format) (sym magic_bytes) } in (
      (magic_number ∷ []) ∷ (1 ∷ []) ∷ (header.version ∷ []) ∷ (header.date ∷ []) ∷ (h.flags ∷ []) ∷ h.reserved ∷ header.comment ∷ [],
      (
        magic_number ∷ [],
        after_format,
        first,
        refl,
        (
          1 ∷ [],
          after_version,
          number_field 4 1 after_version (omega arith),
          refl,
          (
            header.version ∷ [],
            after_date,
            number_field 8 header.version after_date h.version_fits,
            refl,
            (
              header.date ∷ [],
              after_flags,
              number_field 8 header.date after_flags h.date_fits,
              refl,
              (
                h.flags ∷ [],
                after_reserved,
                number_field 8 h.flags after_reserved h.flags_fit,
                refl,
                (
                  h.reserved,
                  after_comment,
                  text_field h.reserved after_comment h.reserved_fits,
                  refl,
                  (
                    header.comment,
                    rest ++ [],
                    text_field header.comment (rest ++ []) h.comment_fits,
                    refl,
                    (refl, append-nil rest),
                  ),
                ),
              ),
            ),
          ),
        ),
      ),
      refl,
    )

-- ---- a signature

pub signature_spelled : (content : List ℕ) → SpellsFields signature_fields content → IsSignatureText content
signature_spelled content (values, (key, a, is_key, _, (signature, b, is_signature, _, (all, end)))) = record {
  key = key;
  signature = signature;
  spelled = is_key.spelled ∙ ap (λ (t : List ℕ). string key ++ t) (is_signature.spelled ∙ ap (λ (t : List ℕ). string signature ++ t) end);
  key_fits = is_key.is_part;
  signature_fits = is_signature.is_part;
}

pub signature_spells : (content : List ℕ) → IsSignatureText content → SpellsFields signature_fields content
signature_spells content is = (
  is.key ∷ is.signature ∷ [],
  (
    is.key,
    string is.signature ++ [],
    record { is_part = is.key_fits; spelled = is.spelled },
    refl,
    (is.signature, [], text_field is.signature [] is.signature_fits, refl, (refl, refl)),
  ),
)

-- ---- an extension

zero_byte : number 1 0 ≡ 0 ∷ []
unfolding number
zero_byte = refl

pub extension_spelled : (content : List ℕ) → SpellsFields extension_fields content → IsExtensionText content
extension_spelled content (values, (name, a, is_name, _, (critical, b, is_critical, passed, (contents, c, is_contents, _, (all, end))))) = record {
  name = name;
  contents = contents;
  spelled =
      is_name.spelled
      ∙ ap (λ (t : List ℕ). string name ++ t) (this_number faults.CriticalExtension 0 is_critical passed
      ∙ ap (λ (byte : List ℕ). byte ++ b) zero_byte
      ∙ ap (λ (t : List ℕ). 0 ∷ t) (is_contents.spelled ∙ ap (λ (t : List ℕ). string contents ++ t) end));
  name_fits = is_name.is_part;
  contents_fit = is_contents.is_part;
}

pub extension_spells : (content : List ℕ) → IsExtensionText content → SpellsFields extension_fields content
extension_spells content is =
    let text : List ℕ = string is.contents ++ [] in (
      is.name ∷ (0 ∷ []) ∷ is.contents ∷ [],
      (
        is.name,
        0 ∷ text,
        record { is_part = is.name_fits; spelled = is.spelled },
        refl,
        (
          0 ∷ [],
          text,
          record { is_part = (refl, omega arith); spelled = ap (λ (byte : List ℕ). byte ++ text) (sym zero_byte) },
          refl,
          (is.contents, [], text_field is.contents [] is.contents_fit, refl, (refl, refl)),
        ),
      ),
    )

-- ---- the beginning of a section of certificates

pub authority_spelled : (content rest : List ℕ) (values : List (List ℕ)) → BeginsWithTable authority_fields [] content values rest → BeginsWithAuthority content (slice_index_or values 0 []) rest
authority_spelled content rest values (authority, a, is_authority, _, (reserved, b, is_reserved, _, (all, end))) =
    subst (λ (v : List (List ℕ)). BeginsWithAuthority content (slice_index_or v 0 []) rest) all (record {
      reserved = reserved;
      spelled = is_authority.spelled ∙ ap (λ (t : List ℕ). string authority ++ t) (is_reserved.spelled ∙ ap (λ (t : List ℕ). string reserved ++ t) (end ∙ sym (append-nil rest)));
      authority_fits = is_authority.is_part;
      reserved_fits = is_reserved.is_part;
    })

pub authority_spells : (content authority rest : List ℕ) → BeginsWithAuthority content authority rest → (values : List (List ℕ)) × BeginsWithTable authority_fields [] content values rest × (slice_index_or values 0 [] ≡ authority)
authority_spells content authority rest is =
    let after : List ℕ = string is.reserved ++ (rest ++ []) in (
      authority ∷ is.reserved ∷ [],
      (
        authority,
        after,
        record { is_part = is.authority_fits; spelled = is.spelled },
        refl,
        (is.reserved, rest ++ [], text_field is.reserved (rest ++ []) is.reserved_fits, refl, (refl, append-nil rest)),
      ),
      refl,
    )

-- ---- type bytes

pub these_types : HaveTheseTypes
these_types = record {
  certificates = refl;
  keys = refl;
  sha1s = refl;
  signature = refl;
  sha256s = refl;
  extension = refl;
  serials = refl;
  range = refl;
  bitmap = refl;
  ids = refl;
  subsection_extension = refl;
}
