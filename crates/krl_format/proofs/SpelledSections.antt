-- A sequence of fields that leads to the end of a list spells its sections, and has their entries.
use Rattle.krl_format.proofs.Common.{[], ◌++◌, ◌+◌, ◌-◌, ◌<◌, ◌^◌, ◌∙◌, ◌∷◌, ◌≡◌, ◌≤◌}
use Rattle.krl_format.proofs.Common.{AllByRecursion, ap, append-nil, append_assoc, arith}
use Rattle.krl_format.proofs.Common.{authority_fields, BeginsWithPart, Bool, Certificates, entries_of}
use Rattle.krl_format.proofs.Common.{Entry, Extension, extension_fields, false, flat_map, Header}
use Rattle.krl_format.proofs.Common.{IsBytes, IsItem, IsSignature, item_entry, ItemKind, KrlFault}
use Rattle.krl_format.proofs.Common.{table_front, table_more, length, length-append}
use Rattle.krl_format.proofs.Common.{length-number, length-string, List, ltb, ltb-false, map}
use Rattle.krl_format.proofs.Common.{NamesSame, next_item, next_serial, next_subsection, None, Number}
use Rattle.krl_format.proofs.Common.{number, number-number_of, number_of, Ok, Place}
use Rattle.krl_format.proofs.Common.{refl, Result, same_append, same_is, same_refl, same_then}
use Rattle.krl_format.proofs.Common.{section_entries, SerialsEntry, Signature, signature_fields}
use Rattle.krl_format.proofs.Common.{SignaturesLast, slice_index_or, SpelledSection, SpellsEach}
use Rattle.krl_format.proofs.Common.{SpellsSection, SpellsSubsection, Row, string, strings}
use Rattle.krl_format.proofs.Common.{Subsection, subsection_entries, subst, suc, sym, Text, true}
use Rattle.krl_format.proofs.Common.{within, zero, ℕ}
use Rattle.krl_format.proofs.RestSpellings.{Completes, FromContent, FromField}
use Rattle.krl_format.proofs.RestSpellings.{FromItem, FromItems, FromLength, FromNumber, FromRow}
use Rattle.krl_format.proofs.RestSpellings.{FromSections, FromSubsections, InRoom, Items}
use Rattle.krl_format.proofs.RestSpellings.{LastFor, Rest, SerialItems}
use Rattle.krl_format.proofs.Judgements.{held_back}
use Rattle.krl_format.proofs.RestSpellings.{authority_from}
use Rattle.krl_format.proofs.Common.{fields_after, Keys, BeginsWithTable, Section, section_row, Sha1s, Sha256s, signature_type}
use Rattle.krl_types.specs.declared.krl_fault.KrlFault.TheVariants as faults
use Rattle.krl_types.specs.declared.item_kind.ItemKind.TheVariants as kinds
use Rattle.krl_format.specs.declared.section.Section.TheVariants as section_kinds
use Rattle.krl_format.specs.declared.place.field.Field.TheVariants as fields

abbrev byte_of : Section → ℕ
byte_of section = (section_row section).type_byte

-- ---- judgements that passed

pub fits_within : (left size : ℕ) (next : Result Place KrlFault) (q : Place) → within left (λ _. next) size ≡ Ok q → (size ≤ left - 4) × (next ≡ Ok q)
fits_within left size next q e =
    let w = held_back (ltb (left - 4) size) faults.Length next q e in
    (ltb-false (left - 4) size w.0, w.1)

-- ---- one field at the front

pub number_front : {Then : ℕ → Rest} {more : List Entry} (field tail : List ℕ) → IsBytes field → length field ≡ 8 → Then (number_of field) tail more → FromNumber Then (field ++ tail) more
number_front field tail fits size h =
    let n = number-number_of 8 field size fits in
    record { value = number_of field; rest = tail; parts = ap (λ (x : List ℕ). x ++ tail) (sym n.0); fits = n.1; then_is = h }

pub length_front : {Then : ℕ → Rest} {more : List Entry} (field tail : List ℕ) → IsBytes field → length field ≡ 4 → Then (number_of field) tail more → FromLength Then (field ++ tail) more
length_front field tail fits size h =
    let n = number-number_of 4 field size fits in
    record { size = number_of field; rest = tail; parts = ap (λ (x : List ℕ). x ++ tail) (sym n.0); fits = n.1; then_is = h }

pub content_front : {size : ℕ} {Then : List ℕ → Rest} {more : List Entry} (field tail : List ℕ) → length field ≡ size → Then field tail more → FromContent size Then (field ++ tail) more
content_front field tail len h = record { content = field; rest = tail; parts = refl; size_is = len; then_is = h }

pub item_front : {size : ℕ} {entry : List ℕ → Entry} {Then : Rest} {more : List Entry} (field tail : List ℕ) → length field ≡ size → Then tail more → FromItem size entry Then (field ++ tail) (entry field ∷ more)
item_front {more = more} field tail len h = record { content = field; rest = tail; others = more; parts = refl; size_is = len; named = refl; then_is = h }

-- a length and the bytes that it counts are a string
pub whole_string : (size : ℕ) (content rest after bytes : List ℕ) → bytes ≡ number 4 size ++ after → after ≡ content ++ rest → length content ≡ size → bytes ≡ string content ++ rest
unfolding string
whole_string size content rest after bytes e f len =
    e ∙ ap (λ (n : ℕ). number 4 n ++ after) (sym len) ∙ ap (λ (x : List ℕ). number 4 (length content) ++ x) f ∙ sym (append_assoc (number 4 (length content)) content rest)

pub string_parts : (field tail content rest : List ℕ) → IsBytes field → length field ≡ 4 → length content ≡ number_of field → tail ≡ content ++ rest → field ++ tail ≡ string content ++ rest
string_parts field tail content rest fits size len parts =
    whole_string (number_of field) content rest tail (field ++ tail) (ap (λ (x : List ℕ). x ++ tail) (sym (number-number_of 4 field size fits).0)) parts len

-- ---- the rows of a table

pub row_none : {Then : List (List ℕ) → Rest} {bytes : List ℕ} {more : List Entry} → Then [] bytes more → FromRow [] Then bytes more
row_none {bytes = bytes} h = record { values = []; rest = bytes; leads = λ before. (sym (append-nil before), refl); then_is = h }

pub row_more : {s : Row KrlFault} {rows : List (Row KrlFault)} {Then : List (List ℕ) → Rest} {bytes value tail : List ℕ} {more : List Entry} → BeginsWithPart s.part bytes value tail
    → ((before : List (List ℕ)) → s.judged before value ≡ None) → FromRow rows (λ values. Then (value ∷ values)) tail more → FromRow (s ∷ rows) Then bytes more
row_more {rows = rows} {value = value} {tail} begins passed k = record {
  values = value ∷ k.values;
  rest = k.rest;
  leads = λ before. (value, tail, begins, passed before, rw (sym (append_assoc before (value ∷ []) k.values)) (k.leads (before ++ value ∷ [])));
  then_is = k.then_is;
}

-- a row in a part that has some bytes left, before the row and after it
pub row_in : (left inner : ℕ) {s : Row KrlFault} {rows : List (Row KrlFault)} {Then : List (List ℕ) → ℕ → Rest} {bytes value tail : List ℕ} {more : List Entry} → BeginsWithPart s.part bytes value tail
    → ((before : List (List ℕ)) → s.judged before value ≡ None) → InRoom inner rows (λ values. Then (value ∷ values)) tail more → length bytes + inner ≡ left + length tail → InRoom left (s ∷ rows) Then bytes more
row_in left inner begins passed k size =
    row_more begins passed (record { values = k.values; rest = k.rest; leads = k.leads; then_is = (k.then_is.0, omega (arith, k.then_is.1, size), k.then_is.2) })

pub begins_number : {size : ℕ} (field tail : List ℕ) → (number size (number_of field) ≡ field) × (number_of field < 256 ^ size) → BeginsWithPart (Number size) (field ++ tail) (number_of field ∷ []) tail
begins_number field tail back = record { is_part = (refl, back.1); spelled = ap (λ (x : List ℕ). x ++ tail) (sym back.0) }

pub begins_text : {Then : List ℕ → Rest} {more : List Entry} (field tail : List ℕ) → IsBytes field → length field ≡ 4 → (h : FromContent (number_of field) Then tail more) → BeginsWithPart Text (field ++ tail) h.content h.rest
begins_text field tail fits whole h =
    record { is_part = omega (arith, h.size_is, (number-number_of 4 field whole fits).1); spelled = string_parts field tail h.content h.rest fits whole h.size_is h.parts }

items_none : {X : Type 0} {spell : X → List ℕ} {Good : X → Type 0} {entry : X → Entry} {Then : Rest} {bytes : List ℕ} {more : List Entry} → Then bytes more → FromItems spell Good entry 0 Then bytes more
items_none {bytes = bytes} {more} h = record { items = []; rest = bytes; others = more; parts = refl; size_is = refl; good = tt; named = refl; then_is = h }

-- a string in front of the other strings
pub string_more : {Good : List ℕ → Type 0} {entry : List ℕ → Entry} {left : ℕ} {Then : Rest} {more : List Entry} (field tail : List ℕ) (after : ℕ) → IsBytes field → length field ≡ 4
    → left ≡ 4 + number_of field + after → (h : FromItem (number_of field) entry (FromItems string Good entry after Then) tail more) → Good h.content
    → FromItems string Good entry left Then (field ++ tail) more
string_more {entry = entry} field tail after fits size total h good =
    let k = h.then_is in
    record {
      items = h.content ∷ k.items;
      rest = k.rest;
      others = k.others;
      parts = string_parts field tail h.content h.rest fits size h.size_is h.parts ∙ ap (λ (x : List ℕ). string h.content ++ x) k.parts ∙ sym (append_assoc (string h.content) (flat_map string k.items) k.rest);
      size_is = omega (arith, length-append (string h.content) (flat_map string k.items), length-string h.content, h.size_is, k.size_is, total);
      good = (good, k.good);
      named = h.named ∙ ap (λ (x : List Entry). entry h.content ∷ x) k.named;
      then_is = k.then_is;
    }

pub serial_more : {K : Type 0} {a : List ℕ} {left after : ℕ} {more : List Entry} (field tail : List ℕ) → IsBytes field → length field ≡ 8 → 8 ≤ left
    → SerialItems K a (left - 8) after tail more → SerialItems K a left after (field ++ tail) (SerialsEntry a (number_of field ∷ []) ∷ more)
serial_more {a = a} field tail fits size room k =
    let n = number-number_of 8 field size fits in record {
      items = number_of field ∷ k.items;
      rest = k.rest;
      others = k.others;
      parts = ap (λ (x : List ℕ). x ++ tail) (sym n.0) ∙ ap (λ (x : List ℕ). number 8 (number_of field) ++ x) k.parts ∙ sym (append_assoc (number 8 (number_of field)) (flat_map (number 8) k.items) k.rest);
      size_is = omega (arith, length-append (number 8 (number_of field)) (flat_map (number 8) k.items), length-number 8 (number_of field), k.size_is, room);
      good = (n.1, k.good);
      named = ap (λ (x : List Entry). SerialsEntry a (number_of field ∷ []) ∷ x) k.named;
      then_is = k.then_is;
    }

pub subsections_from : (left : ℕ) {last h : Header} {a bytes : List ℕ} {more : List Entry} → Completes last h a (next_subsection left) bytes more → FromSubsections (last ≡ h) a left bytes more
subsections_from zero {bytes = bytes} {more} k =
    record { subsections = []; body = []; rest = bytes; others = more; parts = refl; size_is = refl; spelled = refl; named = same_refl more; then_is = k }
subsections_from (suc left) k = k

pub serials_from : (left : ℕ) {after : ℕ} {last h : Header} {a bytes : List ℕ} {more : List Entry} → Completes last h a (next_serial left after) bytes more → SerialItems (last ≡ h) a left after bytes more
serials_from zero {after} k = items_none (subsections_from after k)
serials_from (suc left) k = k

pub items_from : (kind : ItemKind) (left : ℕ) {after : ℕ} {last h : Header} {a bytes : List ℕ} {more : List Entry} → Completes last h a (next_item kind left after) bytes more
    → Items (last ≡ h) kind a left after bytes more
items_from kind zero {after} k = items_none (subsections_from after k)
items_from kind (suc left) k = k

pub sections_from : {K : Type 0} {a bytes : List ℕ} {more : List Entry} → FromSubsections K a 0 bytes more → FromSections false K bytes more
sections_from {K} {a} {bytes} {more} h = only h.subsections h.body h.spelled h.size_is h.parts h.named
  where
    only : (subs : List Subsection) (body : List ℕ) → SpellsEach SpellsSubsection body subs → length body ≡ 0 → bytes ≡ body ++ h.rest
        → NamesSame more (flat_map (subsection_entries a) subs ++ h.others) → FromSections false K bytes more
    only [] body none size parts named =
        let rest : bytes ≡ h.rest = parts ∙ ap (λ (x : List ℕ). x ++ h.rest) none in
        let k = h.then_is in
        record {
          sections = k.sections;
          spelled = subst (λ (x : List ℕ). SpellsEach SpellsSection x k.sections) (sym rest) k.spelled;
          last = k.last;
          named = same_then more h.others (entries_of k.sections) named k.named;
          known = k.known;
        }
    only (sub ∷ subs) body (first, (more', (e, spelled, others))) size parts named =
        absurd (omega (arith, ap length spelled.spelled, ap length e, length-append first more', size))

-- ---- sections

sections_more : (K : Type 0) (section : SpelledSection) (text tail rest : List ℕ) (more others : List Entry) (k : FromSections false K rest others)
    → tail ≡ text ++ rest → SpellsSection text section → NamesSame more (section_entries section ++ others) → SignaturesLast (section ∷ k.sections)
    → FromSections false K tail more
sections_more K section text tail rest more others k parts spelled named last = record {
  sections = section ∷ k.sections;
  spelled = (text, (rest, (parts, spelled, k.spelled)));
  last = last;
  named = same_then more (section_entries section ++ others) (section_entries section ++ entries_of k.sections) named
      (same_append (section_entries section) others (section_entries section) (entries_of k.sections) (same_refl (section_entries section)) k.named);
  known = k.known;
}

-- a section of items of any kind
items_section : (K : Type 0) (a : List ℕ) (kind : ItemKind) (type_byte : ℕ) (section : List (List ℕ) → SpelledSection) (bytes : List ℕ) (more : List Entry)
    → ((items : List (List ℕ)) → AllByRecursion (IsItem kind) items → length (strings items) < 2 ^ 32 → SpellsSection (type_byte ∷ string (strings items)) (section items))
    → ((items : List (List ℕ)) → section_entries (section items) ≡ map (item_entry kind a) items)
    → ((items : List (List ℕ)) (others : List SpelledSection) → SignaturesLast others → SignaturesLast (section items ∷ others))
    → FromLength (λ n. Items K kind a n 0) bytes more → FromSections false K (type_byte ∷ bytes) more
items_section K a kind type_byte section bytes more spelled names last l =
    let h = l.then_is in
    let k = sections_from h.then_is in
    let content : List ℕ = strings h.items in
    let parts = whole_string l.size content h.rest l.rest bytes l.parts h.parts h.size_is in
    sections_more K (section h.items) (type_byte ∷ string content) (type_byte ∷ bytes) h.rest more h.others k (ap (λ (x : List ℕ). type_byte ∷ x) parts)
    (spelled h.items h.good (omega (arith, l.fits, h.size_is)))
    (same_is more (section_entries (section h.items) ++ h.others) (h.named ∙ ap (λ (x : List Entry). x ++ h.others) (sym (names h.items)))) (last h.items k.sections k.last)

-- the authority is the first value
authority_first : (a bytes rest : List ℕ) (values : List (List ℕ)) → BeginsWithTable authority_fields [] bytes values rest
    → authority_from (fields.Authority ∷ fields_after fields.Authority) a values ≡ slice_index_or values 0 []
authority_first a bytes rest values (authority, b, is_authority, _, (reserved, c, is_reserved, _, (all, end))) =
    subst (λ (v : List (List ℕ)). authority_from (fields.Authority ∷ fields_after fields.Authority) a v ≡ slice_index_or v 0 []) all refl

certificates_section : (last before : Header) (a bytes : List ℕ) (more : List Entry) → FromLength (λ n. FromField last before a fields.Authority n 0) bytes more
    → FromSections false (last ≡ before) (byte_of section_kinds.Certificates ∷ bytes) more
certificates_section last before a bytes more l =
    let n = byte_of section_kinds.Certificates in
    let h = l.then_is in
    let s = h.then_is.2 in
    let authority : List ℕ = authority_from (fields.Authority ∷ fields_after fields.Authority) a h.values in
    let front = table_front authority_fields [] l.rest h.values h.rest (h.leads []) in
    let content : List ℕ = front.0 ++ s.body in
    let size : length content ≡ l.size = omega (arith, h.then_is.1, ap length front.1, length-append front.0 h.rest, length-append front.0 s.body, s.size_is) in
    let parts : l.rest ≡ content ++ s.rest = front.1 ∙ ap (λ (x : List ℕ). front.0 ++ x) s.parts ∙ sym (append_assoc front.0 s.body s.rest) in
    let fields = table_more authority_fields [] front.0 h.values [] s.body front.2 in
    let first = sym (authority_first a l.rest h.rest h.values (h.leads [])) in
    sections_more (last ≡ before) (Certificates authority s.subsections) (n ∷ string content) (n ∷ bytes) s.rest more s.others s.then_is
    (ap (λ (x : List ℕ). n ∷ x) (whole_string l.size content s.rest l.rest bytes l.parts parts size))
    (record { content = content; spelled = refl; fits = omega (arith, l.fits, size); content_is = record { values = h.values; body = s.body; fields = fields; authority_is = first; subsections_are = s.spelled } })
    s.named s.then_is.last

extension_section : (last before : Header) (a bytes : List ℕ) (more : List Entry) → FromLength (λ n. FromField last before a fields.ExtensionName n 0) bytes more → FromSections false (last ≡ before) (byte_of section_kinds.Extension ∷ bytes) more
extension_section last before a bytes more l =
    let n = byte_of section_kinds.Extension in
    let h = l.then_is in
    let k = sections_from h.then_is.2.1 in
    let front = table_front extension_fields [] l.rest h.values h.rest (h.leads []) in
    let size : length front.0 ≡ l.size = omega (arith, h.then_is.1, h.then_is.2.0, ap length front.1, length-append front.0 h.rest) in
    sections_more (last ≡ before) Extension (n ∷ string front.0) (n ∷ bytes) h.rest more more k (ap (λ (x : List ℕ). n ∷ x) (whole_string l.size front.0 h.rest l.rest bytes l.parts front.1 size))
    (record { content = front.0; spelled = refl; fits = omega (arith, l.fits, size); content_is = (h.values, front.2) }) (same_refl more) k.last

-- the length of a section and its content, after its type byte
pub section_from : (last h : Header) (a : List ℕ) (section : Section) (field tail : List ℕ) (more : List Entry) → IsBytes field → length field ≡ 4
    → Completes last h a ((section_row section).first (number_of field) 0) tail more → FromSections false (last ≡ h) (byte_of section ∷ (field ++ tail)) more
section_from last h a section_kinds.Certificates field tail more fits whole k = certificates_section last h a (field ++ tail) more (length_front field tail fits whole k)
section_from last h a section_kinds.Keys field tail more fits whole k =
    items_section (last ≡ h) a kinds.Key (byte_of section_kinds.Keys) Keys (field ++ tail) more (λ items good fits. record { content = strings items; spelled = refl; fits = fits; content_is = refl })
    (λ items. refl) (λ items others last. last) (length_front field tail fits whole (items_from kinds.Key (number_of field) k))
section_from last h a section_kinds.Sha1s field tail more fits whole k =
    items_section (last ≡ h) a kinds.Sha1 (byte_of section_kinds.Sha1s) Sha1s (field ++ tail) more (λ items good fits. record { content = strings items; spelled = refl; fits = fits; content_is = (refl, good) })
    (λ items. refl) (λ items others last. last) (length_front field tail fits whole (items_from kinds.Sha1 (number_of field) k))
section_from last h a section_kinds.Sha256s field tail more fits whole k =
    items_section (last ≡ h) a kinds.Sha256 (byte_of section_kinds.Sha256s) Sha256s (field ++ tail) more (λ items good fits. record { content = strings items; spelled = refl; fits = fits; content_is = (refl, good) })
    (λ items. refl) (λ items others last. last) (length_front field tail fits whole (items_from kinds.Sha256 (number_of field) k))
section_from last h a section_kinds.Extension field tail more fits whole k = extension_section last h a (field ++ tail) more (length_front field tail fits whole k)

signature_last : (signed : Bool) (sections : List SpelledSection) → AllByRecursion IsSignature sections → LastFor signed (Signature ∷ sections)
signature_last true sections h = (tt, h)
signature_last false sections h = h

pub signature_section : (K : Type 0) (signed : Bool) (bytes : List ℕ) (more : List Entry) → FromRow signature_fields (λ values. FromSections true K) bytes more → FromSections signed K (signature_type ∷ bytes) more
signature_section K signed bytes more h =
    let k = h.then_is in
    let front = table_front signature_fields [] bytes h.values h.rest (h.leads []) in
    record {
      sections = Signature ∷ k.sections;
      spelled = (signature_type ∷ front.0, (h.rest, (ap (λ (x : List ℕ). signature_type ∷ x) front.1, (front.0, refl, (h.values, front.2)), k.spelled)));
      last = signature_last signed k.sections k.last;
      named = k.named;
      known = k.known;
    }
