-- A list that is spelled has no fault if it is within the limit.
use Rattle.krl_format.proofs.Common.{[], ◌++◌, ◌<◌, ◌^◌, ◌∙◌, ◌∷◌, ◌≡◌, ◌≤◌, ◌⊎◌}
use Rattle.krl_format.proofs.Common.{AllByRecursion, ap, arith, authority_fields, Bool, Certificates}
use Rattle.krl_format.proofs.Common.{ended, Extension, extension_fields}
use Rattle.krl_format.proofs.Common.{failed_read, false, first, Header, header_fields, inl}
use Rattle.krl_format.proofs.Common.{inr, IsBytes, IsBytes-back, IsBytes-front, IsBytes-in_string}
use Rattle.krl_format.proofs.Common.{IsFirstKrlFault, IsItem, ItemKind, Keys, KrlFault, le-ltb, table_front}
use Rattle.krl_format.proofs.Common.{table_more, length, length-append}
use Rattle.krl_format.proofs.Common.{limit, List, ltb, next_item, None}
use Rattle.krl_format.proofs.Common.{number_of, Ok, Option, ran_out, refl, Says}
use Rattle.krl_format.proofs.Common.{section_of_type, Sha1s, Sha256s, Signature, signature_fields}
use Rattle.krl_format.proofs.Common.{Some, SpelledSection, Spells, SpellsEach, SpellsSection, start}
use Rattle.krl_format.proofs.Common.{string, strings, subst, take_all, true, ℕ}
use Rattle.krl_format.proofs.Fronts.{first_fault_is, one_reported}
use Rattle.krl_format.proofs.PlaceRows.{Goes, goes_none, goes_one, goes_then, goes_from, reported_at}
use Rattle.krl_format.proofs.RestSpellings.{LastFor}
use Rattle.krl_format.proofs.SpelledFields.{items_go, any_size, subsections_go}
use Rattle.krl_format.proofs.TableWalks.{content_goes, fields_go, judge_is}
use Rattle.krl_format.proofs.Judgements.{section_typed}
use Rattle.krl_format.proofs.Common.{content_of, Section, section_row, signature_type}
use Rattle.krl_types.specs.declared.krl_fault.KrlFault.TheVariants as faults
use Rattle.krl_format.specs.declared.section.Section.TheVariants as section_kinds
use Rattle.krl_types.specs.declared.item_kind.ItemKind.TheVariants as kinds
use Rattle.krl_format.specs.declared.place.Place.TheVariants as places
use Rattle.krl_format.specs.declared.place.field.Field.TheVariants as fields

abbrev signed_after : SpelledSection → Bool
signed_after Signature = true
signed_after _ = false

-- a section that is no signature: its type byte, the length of its content, and the content
typed_goes : (section : Section) {text : List ℕ} (content rest : List ℕ) → text ≡ (section_row section).type_byte ∷ string content → length content < 2 ^ 32 → (section_row section).may_have (length content) ≡ true
    → Goes ((section_row section).first (length content) 0) (content ++ rest) (places.SectionType false) rest → Goes (places.SectionType false) (text ++ rest) (places.SectionType false) rest
typed_goes section content rest spelled fits good w =
    let row = section_row section in
    goes_from (ap (λ (x : List ℕ). x ++ rest) spelled)
    (goes_then (goes_one (row.type_byte ∷ []) tt refl (section_typed section))
    (content_goes content tt refl fits
    (λ field e. ap (λ (size : ℕ). content_of row size 0) e ∙ judge_is _ faults.Length (row.first (length content) 0) good) w))

-- the items of a section
items_section_go : (kind : ItemKind) (items : List (List ℕ)) (content rest : List ℕ) → length content < 2 ^ 32 → content ≡ strings items → AllByRecursion (IsItem kind) items
    → Goes (next_item kind (length content) 0) (content ++ rest) (places.SectionType false) rest
items_section_go kind items content rest fits is good =
    goes_from (ap (λ (x : List ℕ). x ++ rest) is) (items_go kind items (length content) 0 0 rest (omega (arith, ap length is)) fits good)

-- a signature may always follow
signature_typed : (signed : Bool) → section_of_type signed signature_type ≡ Ok (places.Field fields.SignatureKey 0 0)
signature_typed true = refl
signature_typed false = refl

section_goes : (section : SpelledSection) (signed : Bool) (text rest : List ℕ) → SpellsSection text section → LastFor signed (section ∷ []) → IsBytes text
    → Goes (places.SectionType signed) (text ++ rest) (places.SectionType (signed_after section)) rest
unfolding number_of
section_goes (Certificates authority subs) false text rest h last fits =
    let c = h.content_is in
    let all = IsBytes-in_string h.content (IsBytes-back ((section_row section_kinds.Certificates).type_byte ∷ []) (string h.content) (subst IsBytes h.spelled fits)) in
    let front = table_front authority_fields [] h.content c.values c.body c.fields in
    let body_bytes = IsBytes-back front.0 c.body (subst IsBytes front.1 all) in
    typed_goes section_kinds.Certificates h.content rest h.spelled h.fits refl
    (goes_then (fields_go fields.Authority (length h.content) (length c.body) 0 c.values (h.content ++ rest) (c.body ++ rest) (table_more authority_fields [] h.content c.values c.body rest c.fields) tt
    (omega (arith, length-append h.content rest, length-append c.body rest))) (subsections_go subs c.body rest (length c.body) c.subsections_are refl body_bytes))
section_goes (Keys blobs) false text rest h last fits = typed_goes section_kinds.Keys h.content rest h.spelled h.fits refl (items_section_go kinds.Key blobs h.content rest h.fits h.content_is (any_size blobs))
section_goes (Sha1s hashes) false text rest h last fits = typed_goes section_kinds.Sha1s h.content rest h.spelled h.fits refl (items_section_go kinds.Sha1 hashes h.content rest h.fits h.content_is.0 h.content_is.1)
section_goes (Sha256s hashes) false text rest h last fits = typed_goes section_kinds.Sha256s h.content rest h.spelled h.fits refl (items_section_go kinds.Sha256 hashes h.content rest h.fits h.content_is.0 h.content_is.1)
section_goes Extension false text rest h last fits =
    typed_goes section_kinds.Extension h.content rest h.spelled h.fits refl
    (fields_go fields.ExtensionName (length h.content) 0 0 h.content_is.0 (h.content ++ rest) rest (table_more extension_fields [] h.content h.content_is.0 [] rest h.content_is.1) refl (omega (arith, length-append h.content rest)))
section_goes Signature signed text rest (content, spelled, (values, leads)) last fits =
    goes_from (ap (λ (x : List ℕ). x ++ rest) spelled)
    (goes_then (goes_one (signature_type ∷ []) tt refl (signature_typed signed))
    (fields_go fields.SignatureKey 0 0 0 values (content ++ rest) rest (table_more signature_fields [] content values [] rest leads) tt tt))
section_goes _ true text rest h last fits = absurd last.0

last_first : (signed : Bool) (section : SpelledSection) (sections : List SpelledSection) → LastFor signed (section ∷ sections) → LastFor signed (section ∷ []) × LastFor (signed_after section) sections
last_first true Signature sections h = ((tt, tt), h.1)
last_first false Signature sections h = (tt, h)
last_first true _ sections h = absurd h.0
last_first false _ sections h = (tt, h)

sections_go : (sections : List SpelledSection) (signed : Bool) (body : List ℕ) → SpellsEach SpellsSection body sections → LastFor signed sections → IsBytes body
    → (b : Bool) × Goes (places.SectionType signed) body (places.SectionType b) []
sections_go [] signed body h last fits = (signed, goes_from h goes_none)
sections_go (section ∷ sections) signed body (first_one, (later, (parts, spelled, others))) last fits =
    let all = subst IsBytes parts fits in
    let both = last_first signed section sections last in
    let one = section_goes section signed first_one later spelled both.0 (IsBytes-front first_one later all) in
    let more = sections_go sections (signed_after section) later others both.1 (IsBytes-back first_one later all) in
    (more.0, goes_from parts (goes_then one more.1))

-- a spelled list within the limit has no fault
pub spelled_unfaulted : (text : List ℕ) (header : Header) (sections : List SpelledSection) → IsBytes text → Spells text header sections → length text ≤ limit → IsFirstKrlFault text None
spelled_unfaulted text header sections fits h le =
    let front = table_front header_fields [] text h.values h.body h.fields in
    let rest = sections_go sections false h.body h.sections_are h.signatures_last (IsBytes-back front.0 h.body (subst IsBytes front.1 fits)) in
    let walk = goes_then (fields_go fields.Magic 0 0 0 h.values text h.body h.fields tt tt) rest.1 in
    let off : ltb limit (length text) ≡ false = le-ltb limit (length text) le in
    first_fault_is text None (reported_at start refl (goes_from (take_all limit text le) walk) (ended (refl, refl) off refl))

-- for a spelled list, the only possible faults are that an allocation failed or that the reader
-- failed
pub only_broken_off : (fault : KrlFault) (failed : Bool) (left : Option (List ℕ)) (text : List ℕ) (header : Header) (sections : List SpelledSection) → Says fault text failed left → IsBytes text → Spells text header sections → length text ≤ limit
    → (fault ≡ faults.NoMemory) ⊎ ((fault ≡ faults.Read) × (failed ≡ true))
only_broken_off fault failed left text header sections (ran_out is some works) fits h le = inl is
only_broken_off fault failed left text header sections (failed_read is given) fits h le = inr (is, given.failed_is)
only_broken_off fault failed left text header sections (first reported works) fits h le =
    let e = one_reported text (Some fault) None reported (spelled_unfaulted text header sections fits h le) in
    absurd (cc (e))

pub only_ran_out : (fault : KrlFault) (failed : Bool) (left : Option (List ℕ)) (text : List ℕ) (header : Header) (sections : List SpelledSection) → Says fault text failed left → IsBytes text → Spells text header sections → length text ≤ limit
    → (fault ≡ faults.NoMemory) ⊎ (fault ≡ faults.Read)
only_ran_out fault failed left text header sections says fits h le =
    elim (only_broken_off fault failed left text header sections says fits h le) [ inl memory ↦ inl memory | inr read ↦ inr read.0 ]
