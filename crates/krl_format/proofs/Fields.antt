-- The expected field, in front of the spelling after it.
use Rattle.krl_format.proofs.Common.{[], ◌++◌, ◌-◌, ◌<◌, ◌∙◌, ◌∷◌, ◌≡◌, ◌≤◌, ap}
use Rattle.krl_format.proofs.Common.{append-nil, append_assoc, arith, authority_after, base_of}
use Rattle.krl_format.proofs.Common.{Bitmap, BitmapEntry, Bool, can_end, concat, Entry}
use Rattle.krl_format.proofs.Common.{eq-eqb, eqb, eqb-true, extension_fields, false}
use Rattle.krl_format.proofs.Common.{flat_map, get_or, Header, header_after, IdEntry, Ids, IsBytes}
use Rattle.krl_format.proofs.Common.{IsBytes-back, IsBytes-front, item_entry, item_size, LeadsTo}
use Rattle.krl_format.proofs.Common.{table_front, leb, leb-true, length, length-append, length-number}
use Rattle.krl_format.proofs.Common.{length-string, List, ltb, ltb-true, map, names, next_bits}
use Rattle.krl_format.proofs.Common.{number, number-number_of, number_of, Ok, one_byte}
use Rattle.krl_format.proofs.Common.{passed_ok, Passes, passes_end, Place, Range, RangeEntry, refl}
use Rattle.krl_format.proofs.Common.{same_append, same_is, same_refl, same_then, section_of_type}
use Rattle.krl_format.proofs.Common.{Serials, SerialsEntry, State, state_after}
use Rattle.krl_format.proofs.Common.{string, strings, subsection_of_type, SubsectionExtension, subst}
use Rattle.krl_format.proofs.Common.{sym, true, ℕ}
use Rattle.krl_format.proofs.PassingBits.{judged_parts}
use Rattle.krl_format.proofs.SpelledSections.{content_front, fits_within, item_front, items_from}
use Rattle.krl_format.proofs.SpelledSections.{number_front, section_from, serial_more}
use Rattle.krl_format.proofs.SpelledSections.{serials_from, signature_section, string_more}
use Rattle.krl_format.proofs.SpelledSections.{string_parts, subsections_from}
use Rattle.krl_format.proofs.SpelledSubsections.{bits_from, bits_more, part_front, serials_same}
use Rattle.krl_format.proofs.SpelledSubsections.{subsections_more}
use Rattle.krl_format.proofs.RestSpellings.{Completes, FromBits, FromItem}
use Rattle.krl_format.proofs.RestSpellings.{FromPart, FromSections, FromSubsections, Items}
use Rattle.krl_format.proofs.Judgements.{chosen, done, held_back, length_next, same_place, typed_so}
use Rattle.krl_format.proofs.TableRows.{rest_of_table, row_front}
use Rattle.ssh_wire.specs.Rows.{Part}
use Rattle.krl_format.specs.Field.{authority_with}
use Rattle.krl_format.specs.Place.{header_with_text, place_after}
use Rattle.krl_format.specs.Section.{all_sections, all_subsections, length_of}
use Rattle.krl_format.proofs.Common.{cond, Err, inl, inr, KrlFault, Result, section_of, section_row, signature_type}
use Rattle.krl_format.proofs.Common.{subsection_of, subsection_row, SubsectionKind}
use Rattle.krl_format.specs.declared.place.field.Field.TheVariants as fields
use Rattle.krl_format.specs.declared.section.Subsection.TheVariants as subsection_kinds
use Rattle.krl_types.specs.declared.krl_fault.KrlFault.TheVariants as faults
use Rattle.krl_types.specs.declared.item_kind.ItemKind.TheVariants as kinds
use Rattle.krl_format.specs.declared.place.Place.TheVariants as places

section_front : (last h : Header) (signed : Bool) (q : Place) (n : ℕ) (tail : List ℕ) (more : List Entry) → section_of_type signed n ≡ Ok q
    → Completes last h [] q tail more → FromSections signed (last ≡ h) (n ∷ tail) more
section_front last h signed q n tail more e k =
    let unsigned : Result Place KrlFault = length_of faults.UnknownSection places.SectionLength (section_of n) in
    elim (chosen (eqb n signature_type) (places.Field fields.SignatureKey 0 0) (cond signed (Err faults.AfterSignature) unsigned) q e) [
      | inl here ↦
          subst (λ (m : ℕ). FromSections signed (last ≡ h) (m ∷ tail) more) (sym (eqb-true n signature_type here.0))
          (signature_section (last ≡ h) signed tail more (subst (λ (p : Place). Completes last h [] p tail more) (sym here.1) k))
      | inr other ↦
          let held = held_back signed faults.AfterSignature unsigned q other in
          let (section, is, next) = length_next faults.UnknownSection places.SectionLength (section_of n) q held.1 in
          let found : FromSections false (last ≡ h) ((section_row section).type_byte ∷ tail) more = subst (λ (p : Place). Completes last h [] p tail more) (sym next) k in
          subst (λ (b : Bool). FromSections b (last ≡ h) (n ∷ tail) more) (sym held.0)
          (subst (λ (m : ℕ). FromSections false (last ≡ h) (m ∷ tail) more) (sym (typed_so section_row all_sections n section is)) found)
    ]

subsection_front : (last h : Header) (a : List ℕ) (left : ℕ) (q : Place) (n : ℕ) (tail : List ℕ) (more : List Entry) → 1 ≤ left → subsection_of_type (left - 1) n ≡ Ok q
    → Completes last h a q tail more → FromSubsections (last ≡ h) a left (n ∷ tail) more
subsection_front last h a left q n tail more room e k =
    let at : SubsectionKind → Place = λ part. places.SubsectionLength part (left - 1) in
    let (part, is, next) = length_next faults.UnknownCertSection at (subsection_of n) q e in
    let found : FromPart (last ≡ h) a (subsection_row part).type_byte (left - 1) tail more = subst (λ (p : Place). Completes last h a p tail more) (sym next) k in
    subsections_more (last ≡ h) a n left tail more
    (subst (λ (m : ℕ). FromPart (last ≡ h) a m (left - 1) tail more) (sym (typed_so subsection_row all_subsections n part is)) found) room

-- the length of a subsection and its content, after its type byte
subsection_from : (last h : Header) (a : List ℕ) (part : SubsectionKind) (left : ℕ) (field tail : List ℕ) (more : List Entry) → IsBytes field → length field ≡ 4 → 4 ≤ left → number_of field ≤ left - 4
    → (subsection_row part).may_have (number_of field) ≡ true → Completes last h a ((subsection_row part).first (number_of field) (left - 4 - number_of field)) tail more
    → FromPart (last ≡ h) a (subsection_row part).type_byte left (field ++ tail) more
subsection_from last h a subsection_kinds.Serials left field tail more fits whole room enough good k =
    let n = number_of field in
    let x = serials_from n k in
    let E = map (λ n. SerialsEntry a (n ∷ [])) x.items in
    part_front (Serials x.items) field tail (flat_map (number 8) x.items) fits whole room enough refl x.parts x.size_is (refl, x.good)
    (same_then more (E ++ x.others) (SerialsEntry a x.items ∷ x.others) (same_is more (E ++ x.others) x.named)
    (same_append E x.others (SerialsEntry a x.items ∷ []) x.others (serials_same a x.items) (same_refl x.others))) x.then_is
subsection_from last h a subsection_kinds.Range left field tail more fits whole room enough good x =
    let n = number_of field in
    let y = x.then_is in
    part_front (Range x.value y.max) field tail (number 8 x.value ++ number 8 y.max) fits whole room enough refl
    (x.parts ∙ ap (λ (l : List ℕ). number 8 x.value ++ l) y.parts ∙ sym (append_assoc (number 8 x.value) (number 8 y.max) y.rest))
    (omega (arith, length-append (number 8 x.value) (number 8 y.max), length-number 8 x.value, length-number 8 y.max, eqb-true n 16 good)) (refl, y.ordered, y.fits)
    (same_is more (RangeEntry a x.value y.max ∷ y.others) y.named) y.then_is
subsection_from last h a subsection_kinds.Bitmap left field tail more fits whole room enough good x =
    let n = x.1 in
    let y = n.then_is in
    part_front (Bitmap n.value (number_of y.bits)) field tail (number 8 n.value ++ string y.bits) fits whole room enough refl
    (n.parts ∙ ap (λ (l : List ℕ). number 8 n.value ++ l) y.parts ∙ sym (append_assoc (number 8 n.value) (string y.bits) y.rest))
    (omega (arith, length-append (number 8 n.value) (string y.bits), length-number 8 n.value, y.size_is, x.0))
    (record { bytes = y.bits; spelled = refl; positive = y.positive; value_is = refl; offset_fits = n.fits; within = y.within }) y.named y.then_is
subsection_from last h a subsection_kinds.Ids left field tail more fits whole room enough good k =
    let x = items_from kinds.Id (number_of field) k in
    part_front (Ids x.items) field tail (strings x.items) fits whole room enough refl x.parts x.size_is refl (same_is more (map (IdEntry a) x.items ++ x.others) x.named) x.then_is
subsection_from last h a subsection_kinds.Extension left field tail more fits whole room enough good x =
    let front = table_front extension_fields [] tail x.values x.rest (x.leads []) in
    let size : length front.0 ≡ number_of field = omega (arith, x.then_is.1, x.then_is.2.0, ap length front.1, length-append front.0 x.rest) in
    part_front SubsectionExtension field tail front.0 fits whole room enough refl front.1 size (x.values, front.2) (same_refl more) x.then_is.2.1

pub field_front : (last h : Header) (a : List ℕ) (p q : Place) (field tail : List ℕ) (more : List Entry) → IsBytes field → Passes p field q
    → ((next : Place) → done next ≡ done q → Completes last (header_after p h field) (authority_after p a field) next tail more)
    → Completes last h a p (field ++ tail) (names p a field ++ more)
field_front last h a (places.Field f left after) q field tail more fits pass k = row_front last h a f left after q field tail more fits pass.room pass.whole pass.judged k
field_front last h a (places.Content f size left after) q field tail more fits pass k = content_front field tail pass.whole
    (λ is. rest_of_table f last h a field tail more left after
    (subst (λ (x : Header). Completes last x (authority_with f field a) (place_after f left after) tail more) (ap (λ (part : Part). header_with_text part f field h) is) (k _ pass.judged)))
field_front last h a (places.SectionType signed) q field tail more fits pass k =
    subst (λ (x : List ℕ). FromSections signed (last ≡ h) (x ++ tail) more) (sym (one_byte field pass.whole)) (section_front last h signed q (number_of field) tail more pass.judged (k q refl))
field_front last h a (places.SectionLength section) q field tail more fits pass k =
    let n = number_of field in
    let w = passed_ok ((section_row section).may_have n) faults.Length ((section_row section).first n 0) q pass.judged in
    section_from last h a section field tail more fits pass.whole (k _ (ap done w.1))
field_front last h a (places.SubsectionLength part left) q field tail more fits pass k =
    let n = number_of field in
    let w = fits_within left n _ q pass.judged in
    let v = passed_ok ((subsection_row part).may_have n) faults.Length ((subsection_row part).first n (left - 4 - n)) q w.1 in
    subsection_from last h a part left field tail more fits pass.whole pass.room w.0 v.0 (k _ (ap done v.1))
field_front last h a (places.ItemLength kind left after) q field tail more fits pass k =
    let n = number_of field in
    let w = fits_within left n _ q pass.judged in
    let v = passed_ok (eqb n (item_size kind n)) faults.HashLength _ q w.1 in
    let size : n ≡ item_size kind n = eqb-true n (item_size kind n) v.0 in
    let room : 4 ≤ left = pass.room in
    let sized = subst (λ (m : ℕ). FromItem m (item_entry kind a) (Items (last ≡ h) kind a (left - 4 - n) after) tail more) (sym size) (k _ (ap done v.1)) in
    string_more field tail (left - 4 - n) fits pass.whole (omega (arith, w.0, room)) sized (sized.size_is ∙ size ∙ ap (item_size kind) (sym sized.size_is))
field_front last h a (places.Item kind n left after) q field tail more fits pass k = item_front field tail pass.whole (items_from kind left (k _ pass.judged))
field_front last h a (places.SubsectionType left) q field tail more fits pass k =
    subst (λ (x : List ℕ). FromSubsections (last ≡ h) a left (x ++ tail) more) (sym (one_byte field pass.whole)) (subsection_front last h a left q (number_of field) tail more pass.room pass.judged (k q refl))
field_front last h a (places.Serial left after) q field tail more fits pass k = serial_more field tail fits pass.whole pass.room (serials_from (left - 8) (k _ pass.judged))
field_front last h a (places.RangeMin after) q field tail more fits pass k = number_front field tail fits pass.whole (k _ pass.judged)
field_front last h a (places.RangeMax min after) q field tail more fits pass k =
    let w = passed_ok (leb min (number_of field)) faults.RangeReversed _ q pass.judged in
    let n = number-number_of 8 field pass.whole fits in
    record {
      max = number_of field;
      rest = tail;
      others = more;
      parts = ap (λ (x : List ℕ). x ++ tail) (sym n.0);
      ordered = leb-true min (number_of field) w.0;
      fits = n.1;
      named = refl;
      then_is = subsections_from after (k _ (ap done w.1));
    }
field_front last h a (places.Offset left after) q field tail more fits pass k = (pass.room, number_front field tail fits pass.whole (k _ pass.judged))
field_front last h a (places.BitmapSize offset left after) q field tail more fits pass k =
    let w = passed_ok (eqb (number_of field) (left - 4)) faults.Length _ q pass.judged in
    let x = bits_from (left - 4) (k _ (ap done w.1)) in
    let room : 4 ≤ left = pass.room in
    record {
      bits = x.bits;
      rest = x.rest;
      others = x.others;
      parts = string_parts field tail x.bits x.rest fits pass.whole (x.size_is ∙ sym (eqb-true (number_of field) (left - 4) w.0)) x.parts;
      size_is = omega (arith, length-string x.bits, x.size_is, room);
      positive = x.positive refl;
      within = x.within;
      named = x.named;
      then_is = x.then_is;
    }
field_front last h a (places.Byte offset size left after) q field tail more fits pass k = λ pos.
    let n = number_of field in
    let one = one_byte field pass.whole in
    let byte : n < 256 = subst (λ (m : ℕ). m < 256) (ap (λ (l : List ℕ). get_or l 0 0) one) (fits 0) in
    let w = judged_parts (eqb left size) (ltb n 128) (passes_end (base_of offset left) n) q (next_bits offset size (left - 1) after) pass.judged in
    subst (λ (x : List ℕ). FromBits (last ≡ h) a offset size left after (x ++ tail) (BitmapEntry a (base_of offset left) n ∷ more)) (sym one)
    (bits_more (last ≡ h) a offset size left after n tail more byte pos (λ e. ltb-true n 128 (w.0 (eq-eqb left size e))) w.1 (bits_from (left - 1) (k _ (ap done w.2))))

-- ---- a sequence of fields

ends_here : (last h : Header) (a : List ℕ) (p : Place) → last ≡ h → can_end p ≡ true → Completes last h a p [] []
ends_here last h a (places.SectionType true) e may = record { sections = []; spelled = refl; last = tt; named = same_refl []; known = e }
ends_here last h a (places.SectionType false) e may = record { sections = []; spelled = refl; last = tt; named = same_refl []; known = e }
ends_here last h a _ e may = absurd (cc)

pub completes : (s : State) (fields : List (List ℕ)) (last : State) → LeadsTo s fields last → can_end last.place ≡ true → IsBytes (concat fields)
    → (more : List Entry) × (last.entries ≡ s.entries ++ more) × Completes last.header s.header s.authority s.place (concat fields) more
completes s [] last leads may fits = (
  [],
  ap (λ (x : State). x.entries) (sym leads) ∙ sym (append-nil s.entries),
  ends_here last.header s.header s.authority s.place (ap (λ (x : State). x.header) (sym leads)) (subst (λ (x : State). can_end x.place ≡ true) (sym leads) may),
)
completes s (field ∷ fields) last (next, (pass, leads)) may fits =
    let w = completes (state_after s field next) fields last leads may (IsBytes-back field (concat fields) fits) in (
      names s.place s.authority field ++ w.0,
      w.1 ∙ append_assoc s.entries (names s.place s.authority field) w.0,
      field_front last.header s.header s.authority s.place next field (concat fields) w.0 (IsBytes-front field (concat fields) fits) pass
          (λ p e. subst (λ (x : Place). Completes last.header (header_after s.place s.header field) (authority_after s.place s.authority field) x (concat fields) w.0) (same_place next p (sym e)) w.2),
    )
