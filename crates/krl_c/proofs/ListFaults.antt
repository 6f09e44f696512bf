-- The first fault of a list is never that of a reader.
use Rattle.std.proofs.Common.{◌-◌, ◌≡◌, Bool, Err, false, List, None, Ok, Option, Result, Some, subst, true, ℕ}
use Rattle.std.specs.Prelude.{◌==◌, nat_le, nat_lt, not, if◌then◌else◌}
use Rattle.ssh_wire.specs.Rows.{fault_unless, unless}
use Rattle.ssh_wire.specs.Wire.{number_of}
use Rattle.krl_types.specs.Item.{item_size}
use Rattle.krl_types.specs.declared.krl_fault.KrlFault.{KrlFault}
use Rattle.krl_types.specs.declared.krl_fault.KrlFault.TheVariants as faults
use Rattle.krl_format.specs.Field.{magic_number}
use Rattle.krl_format.specs.Front.{IsFirstKrlFault, Reported, ended, ends_early, no_room, refused, too_long}
use Rattle.krl_format.specs.Place.{base_of, bits_within, expected, next_bits, passes_end, place_after}
use Rattle.krl_format.specs.Section.{SectionRow, content_of, length_of, next_subsection, section_of, section_row, signature_type, subsection_of, subsection_row}
use Rattle.krl_format.specs.declared.place.Place.{Place}
use Rattle.krl_format.specs.declared.place.Place.TheVariants as places
use Rattle.krl_format.specs.declared.place.field.Field.{Field}
use Rattle.krl_format.specs.declared.place.field.Field.TheVariants as fields

abbrev pub NotRead : KrlFault → Type 0
NotRead faults.Read = ⊥
NotRead _ = Unit {0}

-- a judgement on a field that is not that its reader failed
abbrev OfField : Result Place KrlFault → Type 0
OfField (Ok place) = Unit {0}
OfField (Err fault) = NotRead fault

either : (b : Bool) (one other : Result Place KrlFault) → OfField one → OfField other → OfField (if b then one else other)
either true one other is also = is
either false one other is also = also

unless_right : (right : Bool) (fault : KrlFault) (place : Place) → NotRead fault → OfField (unless (fault_unless fault right) place)
unless_right true fault place is = tt
unless_right false fault place is = is

of_type : {X : Type 0} (unknown : KrlFault) (length_place : X → Place) (part : Option X) → NotRead unknown → OfField (length_of unknown length_place part)
of_type unknown length_place None is = is
of_type unknown length_place (Some part) is = tt

of_content : (row : SectionRow) (size after : ℕ) → OfField (content_of row size after)
of_content row size after = either (row.may_have size) (Ok (row.first size after)) (Err faults.Length) tt tt

of_bits : (offset size left after byte : ℕ) → OfField (bits_within offset size left after byte)
of_bits offset size left after byte = either (not (passes_end (base_of offset left) byte)) (Ok (next_bits offset size (left - 1) after)) (Err faults.BitmapWraps) tt tt

-- a length that counts no more bytes than are left
of_length : (left n : ℕ) (next : Result Place KrlFault) → OfField next → OfField (if nat_lt (left - 4) n then Err faults.Length else next)
of_length left n next is = either (nat_lt (left - 4) n) (Err faults.Length) next tt is

of_row : (f : Field) (left after : ℕ) (field : List ℕ) → OfField ((expected (places.Field f left after)).judged field)
of_row fields.Magic left after field = unless_right (number_of field == magic_number) faults.Magic (place_after fields.Magic (left - 8) after) tt
of_row fields.FormatVersion left after field = unless_right (number_of field == 1) faults.FormatVersion (place_after fields.FormatVersion (left - 4) after) tt
of_row fields.Version left after field = tt
of_row fields.Date left after field = tt
of_row fields.Flags left after field = tt
of_row fields.Reserved left after field = tt
of_row fields.Comment left after field = tt
of_row fields.SignatureKey left after field = tt
of_row fields.SignatureBytes left after field = tt
of_row fields.Authority left after field = of_length left (number_of field) (Ok (places.Content fields.Authority (number_of field) (left - 4 - number_of field) after)) tt
of_row fields.CertificatesReserved left after field = of_length left (number_of field) (Ok (places.Content fields.CertificatesReserved (number_of field) (left - 4 - number_of field) after)) tt
of_row fields.ExtensionName left after field = of_length left (number_of field) (Ok (places.Content fields.ExtensionName (number_of field) (left - 4 - number_of field) after)) tt
of_row fields.Critical left after field = unless_right (number_of field == 0) faults.CriticalExtension (place_after fields.Critical (left - 1) after) tt
of_row fields.ExtensionContents left after field = either (number_of field == left - 4) (Ok (places.Content fields.ExtensionContents (number_of field) 0 after)) (Err faults.Length) tt tt

judged : (place : Place) (field : List ℕ) → OfField ((expected place).judged field)
judged (places.Field f left after) field = of_row f left after field
judged (places.Content f size left after) field = tt
judged (places.SectionType signed) field =
    let n = number_of field in
    let typed : Result Place KrlFault = length_of faults.UnknownSection places.SectionLength (section_of n) in
    either (n == signature_type) (Ok (places.Field fields.SignatureKey 0 0)) (if signed then Err faults.AfterSignature else typed) tt
    (either signed (Err faults.AfterSignature) typed tt (of_type faults.UnknownSection places.SectionLength (section_of n) tt))
judged (places.SectionLength section) field = of_content (section_row section) (number_of field) 0
judged (places.SubsectionType left) field = of_type faults.UnknownCertSection (λ part. places.SubsectionLength part (left - 1)) (subsection_of (number_of field)) tt
judged (places.SubsectionLength part left) field =
    of_length left (number_of field) (content_of (subsection_row part) (number_of field) (left - 4 - number_of field)) (of_content (subsection_row part) (number_of field) (left - 4 - number_of field))
judged (places.ItemLength kind left after) field =
    of_length left (number_of field) _ (either (number_of field == item_size kind (number_of field)) (Ok (places.Item kind (number_of field) (left - 4 - number_of field) after)) (Err faults.HashLength) tt tt)
judged (places.Item kind size left after) field = tt
judged (places.Serial left after) field = tt
judged (places.RangeMin after) field = tt
judged (places.RangeMax min after) field = either (nat_le min (number_of field)) (Ok (next_subsection after)) (Err faults.RangeReversed) tt tt
judged (places.Offset left after) field = tt
judged (places.BitmapSize offset left after) field = either (number_of field == left - 4) (Ok (next_bits offset (left - 4) (left - 4) after)) (Err faults.Length) tt tt
judged (places.Byte offset size left after) field =
    either (left == size) _ (bits_within offset size left after (number_of field))
    (either (nat_lt (number_of field) 128) (bits_within offset size left after (number_of field)) (Err faults.BitmapNegative) (of_bits offset size left after (number_of field)) tt)
    (of_bits offset size left after (number_of field))

fault_is : (fault why : KrlFault) → Some fault ≡ Some why → NotRead why → NotRead fault
fault_is fault why e is = let same : why ≡ fault = cc in subst NotRead same is

reported : (place : Place) (rest : List ℕ) (goes_on : Bool) (fault : KrlFault) → Reported place rest goes_on (Some fault) → NotRead fault
reported place rest goes_on fault (ended at off is) = absurd cc
reported place rest goes_on fault (no_room full is) = fault_is fault faults.Length is tt
reported place rest goes_on fault (refused field after why room parts size bad is) = fault_is fault why is (subst OfField bad (judged place field))
reported place rest goes_on fault (too_long room short on is) = fault_is fault faults.TooLong is tt
reported place rest goes_on fault (ends_early room short not_end off is) = fault_is fault faults.EndsEarly is tt

pub not_read : (list : List ℕ) (fault : KrlFault) → IsFirstKrlFault list (Some fault) → NotRead fault
not_read list fault first = reported first.state.place first.rest _ fault first.reported
