-- A walk goes through all fields of a spelling.
use Rattle.krl_format.proofs.Common.{[], ◌%◌, ◌*◌, ◌++◌, ◌+◌, ◌-◌, ◌<◌, ◌==◌, ◌^◌, ◌∙◌, ◌∷◌, ◌≡◌, ◌≤◌}
use Rattle.krl_format.proofs.Common.{AllByRecursion, ap, append_assoc, arith, base_of}
use Rattle.krl_format.proofs.Common.{bit_at, bit_at_above, bit_at_cat_high, bit_at_cat_low, Bitmap}
use Rattle.krl_format.proofs.Common.{bits_judged, cases_lt, eq-eqb}
use Rattle.krl_format.proofs.Common.{extension_fields, false}
use Rattle.krl_format.proofs.Common.{highest_bit, Ids, inl, inr, IsBytes, IsBytes-back}
use Rattle.krl_format.proofs.Common.{IsBytes-front, IsBytes-in_string, IsItem, IsNotNegative, item_size}
use Rattle.krl_format.proofs.Common.{ItemKind, judge, le-leb, leading_zeros}
use Rattle.krl_format.proofs.Common.{table_more, length, length-append, length-number}
use Rattle.krl_format.proofs.Common.{length-numbers, length-string, List, lt-leb}
use Rattle.krl_format.proofs.Common.{ne_eqb, next_bits, next_item, next_serial, next_subsection}
use Rattle.krl_format.proofs.Common.{number, number_of-number, number_of}
use Rattle.krl_format.proofs.Common.{number_of-one, numbers_text, Ok, passes_end, Place, Range, refl}
use Rattle.krl_format.proofs.Common.{Serials, SpellsEach, SpellsSubsection}
use Rattle.krl_format.proofs.Common.{string, strings, Subsection, SubsectionExtension, subst, suc}
use Rattle.krl_format.proofs.Common.{sym, w8, within, zero, ℕ}
use Rattle.krl_format.proofs.Bitmaps.{number_of-byte, low_more, low_none}
use Rattle.krl_format.proofs.PassingBits.{bits_pass}
use Rattle.krl_format.proofs.PlaceRows.{Goes, goes_none, goes_one, goes_then, goes_from}
use Rattle.krl_format.proofs.TableWalks.{content_goes, fields_go, judge_is, text_goes, within_is}
use Rattle.krl_format.proofs.Judgements.{subsection_typed}
use Rattle.krl_format.proofs.Common.{content_of, subsection_row, SubsectionKind, true}
use Rattle.krl_types.specs.declared.krl_fault.KrlFault.TheVariants as faults
use Rattle.krl_format.specs.declared.section.Subsection.TheVariants as subsection_kinds
use Rattle.krl_types.specs.declared.item_kind.ItemKind.TheVariants as kinds
use Rattle.krl_format.specs.declared.place.Place.TheVariants as places
use Rattle.krl_format.specs.declared.place.field.Field.TheVariants as fields
use Rattle.serial_set.proofs.Bits.{highest_bit as top_bit}

-- ---- the items of a list

item_goes : (kind : ItemKind) (total left after : ℕ) (item rest : List ℕ) → total ≡ 4 + length item + left → total < 2 ^ 32 → IsItem kind item
    → Goes (next_item kind total after) (string item ++ rest) (next_item kind left after) rest
item_goes kind zero left after item rest e fits good = absurd (omega arith)
item_goes kind (suc k) left after item rest e fits good =
    let at : ℕ → ℕ → Place = λ size more. places.Item kind size more after in
    let left_is : suc k - 4 - length item ≡ left = omega arith in
    let room : 4 ≤ suc k = omega arith in
    text_goes (record { is_part = omega arith; spelled = refl }) room refl
    (λ field e'. within_is (suc k) (λ size. judge (size == item_size kind size) faults.HashLength (at size (suc k - 4 - size))) (number_of field) (length item) e' (omega arith)
    ∙ judge_is _ faults.HashLength (at (length item) (suc k - 4 - length item)) (eq-eqb (length item) (item_size kind (length item)) good)
    ∙ ap (λ (m : ℕ). Ok (at (length item) m)) left_is) tt good refl

pub items_go : (kind : ItemKind) (items : List (List ℕ)) (total left after : ℕ) (rest : List ℕ) → total ≡ length (strings items) + left → total < 2 ^ 32 → AllByRecursion (IsItem kind) items
    → Goes (next_item kind total after) (strings items ++ rest) (next_item kind left after) rest
items_go kind [] total left after rest e fits good =
    subst (λ (m : ℕ). Goes (next_item kind total after) rest (next_item kind m after) rest) (let same : total ≡ left = omega arith in same) goes_none
items_go kind (item ∷ items) total left after rest e fits good =
    let mid : ℕ = length (strings items) + left in
    let whole : length (strings (item ∷ items)) ≡ 4 + length item + length (strings items) = omega (arith, length-append (string item) (strings items), length-string item) in
    goes_from (append_assoc (string item) (strings items) rest)
    (goes_then (item_goes kind total mid after item (strings items ++ rest) (omega arith) fits good.0) (items_go kind items mid left after rest refl (omega arith) good.1))

-- items that may have any size
pub any_size : (items : List (List ℕ)) → AllByRecursion (λ item. length item ≡ length item) items
any_size [] = tt
any_size (item ∷ items) = (refl, any_size items)

-- ---- subsections of serials

serial_goes : (total left after n : ℕ) (rest : List ℕ) → total ≡ 8 + left → Goes (next_serial total after) (number 8 n ++ rest) (next_serial left after) rest
serial_goes zero left after n rest e = absurd (omega arith)
serial_goes (suc k) left after n rest e =
    let left_is : suc k - 8 ≡ left = omega arith in
    let room : 8 ≤ suc k = omega arith in
    goes_one (number 8 n) room (length-number 8 n) (ap (λ (m : ℕ). Ok (next_serial m after)) left_is)

serials_go : (items : List ℕ) (total left after : ℕ) (rest : List ℕ) → total ≡ length (numbers_text items) + left → Goes (next_serial total after) (numbers_text items ++ rest) (next_serial left after) rest
serials_go [] total left after rest e = subst (λ (m : ℕ). Goes (next_serial total after) rest (next_serial m after) rest) (let same : total ≡ left = omega arith in same) goes_none
serials_go (n ∷ items) total left after rest e =
    let mid : ℕ = length (numbers_text items) + left in
    let whole : length (numbers_text (n ∷ items)) ≡ 8 + length (numbers_text items) = omega (arith, length-append (number 8 n) (numbers_text items), length-number 8 n) in
    goes_from (append_assoc (number 8 n) (numbers_text items) rest)
    (goes_then (serial_goes total mid after n (numbers_text items ++ rest) (omega arith)) (serials_go items mid left after rest refl))

-- ---- the bytes of a bitmap

-- no set bit is the bit of a number past the last one
not_passes : (base byte : ℕ) → byte < 256 → ((k : ℕ) → bit_at byte k ≡ 1 → base + k < 2 ^ 64) → passes_end base byte ≡ false
not_passes base zero lt within = refl
not_passes base (suc b) lt within =
    let top = within (highest_bit (suc b)) (top_bit (suc b) (leading_zeros w8 (suc b)) (omega arith) lt refl).0 in
    rw (ne_eqb (suc b) 0 (λ e. absurd (omega arith)), lt-leb 18446744073709551616 (base + highest_bit (suc b)) (omega (arith, top))) refl

low_bytes : (bits : List ℕ) → IsBytes bits → number_of bits < 2 ^ (8 * length bits)
low_bytes [] fits = low_none
low_bytes (b ∷ bits) fits = low_more b bits (fits 0) (low_bytes bits (λ i. fits (suc i)))

bits_go : (bits : List ℕ) (offset size after : ℕ) (rest : List ℕ) → IsBytes bits → length bits ≤ size → (length bits ≡ size → IsNotNegative bits)
    → ((k : ℕ) → bit_at (number_of bits) k ≡ 1 → offset + k < 2 ^ 64)
    → Goes (next_bits offset size (length bits) after) (bits ++ rest) (next_subsection after) rest
bits_go [] offset size after rest fits le sign within = goes_none
bits_go (b ∷ bits) offset size after rest fits le sign within =
    let n = 8 * length bits in
    let byte : b < 256 = fits 0 in
    let tail_fits : IsBytes bits = λ i. fits (suc i) in
    let low = low_bytes bits tail_fits in
    let whole : (k : ℕ) → bit_at (b * 2 ^ n + number_of bits) k ≡ 1 → bit_at (number_of (b ∷ bits)) k ≡ 1 = λ k e. subst (λ (m : ℕ). bit_at m k ≡ 1) (sym (number_of-byte b bits)) e in
    let base : base_of offset (suc (length bits)) ≡ offset + n = omega arith in
    let passes : passes_end (base_of offset (suc (length bits))) b ≡ false = not_passes (base_of offset (suc (length bits))) b byte
    (λ k set.
    let le' : n ≤ n + k = omega arith in
    let at : n + k - n ≡ k = omega arith in
    let high = within (n + k) (whole (n + k) (bit_at_cat_high b n (number_of bits) (n + k) low le' ∙ ap (bit_at b) at ∙ set)) in
    omega (arith, high, base)) in
    let judged : bits_judged offset size (suc (length bits)) after (number_of (b ∷ [])) ≡ Ok (next_bits offset size (suc (length bits) - 1) after) =
    ap (bits_judged offset size (suc (length bits)) after) (number_of-one b) ∙ bits_pass offset size (suc (length bits)) after b (λ e. sign e) passes in
    let less : suc (length bits) - 1 ≡ length bits = omega arith in
    goes_then (goes_one (b ∷ []) tt refl (judged ∙ ap (λ (m : ℕ). Ok (next_bits offset size m after)) less))
    (bits_go bits offset size after rest tail_fits (omega arith) (λ e. absurd (omega arith))
    (λ k set. within k (elim (cases_lt k n) [
      | inl lt ↦ whole k (bit_at_cat_low b n (number_of bits) k lt ∙ set)
      | inr ge ↦ let z = bit_at_above (number_of bits) n k low ge in absurd (omega (arith, z, set))
    ])))

-- ---- subsections

-- the type byte of a subsection, the length of its content, and the content
part_goes : (left : ℕ) (part : SubsectionKind) (text content rest : List ℕ) → text ≡ (subsection_row part).type_byte ∷ string content → length text ≤ left → length content < 2 ^ 32
    → (subsection_row part).may_have (length content) ≡ true
    → Goes ((subsection_row part).first (length content) (left - length text)) (content ++ rest) (next_subsection (left - length text)) rest
    → Goes (places.SubsectionType left) (text ++ rest) (next_subsection (left - length text)) rest
part_goes left part text content rest spelled le fits good walk =
    let row = subsection_row part in
    let size : length text ≡ 5 + length content = ap length spelled ∙ omega (arith, length-string content) in
    let after : left - 1 - 4 - length content ≡ left - length text = omega (arith, size) in
    let some : 1 ≤ left = omega (arith, size) in
    let room : 4 ≤ left - 1 = omega (arith, size) in
    goes_from (ap (λ (x : List ℕ). x ++ rest) spelled)
    (goes_then (goes_one (row.type_byte ∷ []) some refl (subsection_typed part left))
    (content_goes content room refl fits
    (λ field e. within_is (left - 1) (λ size. content_of row size (left - 1 - 4 - size)) (number_of field) (length content) e (omega (arith, size))
    ∙ ap (content_of row (length content)) after ∙ judge_is _ faults.Length (row.first (length content) (left - length text)) good) walk))

subsection_goes : (left : ℕ) (sub : Subsection) (text rest : List ℕ) → SpellsSubsection text sub → length text ≤ left → IsBytes text
    → Goes (places.SubsectionType left) (text ++ rest) (next_subsection (left - length text)) rest
unfolding number_of
subsection_goes left (Serials numbers) text rest h le fits =
    let n = length h.content in
    let b = left - length text in
    let all : n ≡ length (numbers_text numbers) = ap length h.content_is.0 in
    let eight : n % 8 ≡ 0 = omega (arith, all ∙ length-numbers numbers) in
    part_goes left subsection_kinds.Serials text h.content rest h.spelled le h.fits (eq-eqb (n % 8) 0 eight)
    (goes_from (ap (λ (x : List ℕ). x ++ rest) h.content_is.0) (serials_go numbers n 0 b rest (omega (arith, all))))
subsection_goes left (Range min max) text rest h le fits =
    let n = length h.content in
    let all : n ≡ 16 = ap length h.content_is.0 ∙ omega (arith, length-append (number 8 min) (number 8 max), length-number 8 min, length-number 8 max) in
    let b = left - length text in
    let low : number_of (number 8 min) ≡ min = number_of-number 8 min (omega (arith, h.content_is.1, h.content_is.2)) in
    let high : number_of (number 8 max) ≡ max = number_of-number 8 max h.content_is.2 in
    part_goes left subsection_kinds.Range text h.content rest h.spelled le h.fits (eq-eqb n 16 all)
    (goes_from (ap (λ (x : List ℕ). x ++ rest) h.content_is.0 ∙ append_assoc (number 8 min) (number 8 max) rest)
    (goes_then (goes_one (number 8 min) tt (length-number 8 min) (ap (λ (m : ℕ). Ok (places.RangeMax m b)) low))
    (goes_one (number 8 max) tt (length-number 8 max) (judge_is _ faults.RangeReversed (next_subsection b) (le-leb min (number_of (number 8 max)) (omega (arith, high, h.content_is.1)))))))
subsection_goes left (Bitmap offset value) text rest h le fits =
    let n = length h.content in
    let m = h.content_is in
    let bits = m.bytes in
    let b = left - length text in
    let all : n ≡ 8 + (4 + length bits) = ap length m.spelled ∙ omega (arith, length-append (number 8 offset) (string bits), length-number 8 offset, length-string bits) in
    let content_bytes : IsBytes h.content = IsBytes-in_string h.content (IsBytes-back ((subsection_row subsection_kinds.Bitmap).type_byte ∷ []) (string h.content) (subst IsBytes h.spelled fits)) in
    let bits_bytes : IsBytes bits = IsBytes-in_string bits (IsBytes-back (number 8 offset) (string bits) (subst IsBytes m.spelled content_bytes)) in
    let fewer : n - 8 - 4 ≡ length bits = omega (arith, all) in
    let eight : 8 ≤ n = omega (arith, all) in
    let four : 4 ≤ n - 8 = omega (arith, all) in
    let within' : (k : ℕ) → bit_at (number_of bits) k ≡ 1 → offset + k < 2 ^ 64 = λ k set. m.within k (subst (λ (v : ℕ). bit_at v k ≡ 1) (sym m.value_is) set) in
    part_goes left subsection_kinds.Bitmap text h.content rest h.spelled le h.fits refl
    (goes_from (ap (λ (x : List ℕ). x ++ rest) m.spelled ∙ append_assoc (number 8 offset) (string bits) rest)
    (goes_then (goes_one (number 8 offset) eight (length-number 8 offset) (ap (λ (k : ℕ). Ok (places.BitmapSize k (n - 8) b)) (number_of-number 8 offset m.offset_fits)))
    (content_goes bits four refl (omega (arith, all, h.fits))
    (λ field e. judge_is _ faults.Length (next_bits offset (n - 8 - 4) (n - 8 - 4) b) (eq-eqb (number_of field) (n - 8 - 4) (e ∙ sym fewer)) ∙ ap (λ (k : ℕ). Ok (next_bits offset k k b)) fewer)
    (bits_go bits offset (length bits) b rest bits_bytes (omega arith) (λ e. m.positive) within'))))
subsection_goes left (Ids texts) text rest h le fits =
    let n = length h.content in
    let b = left - length text in
    part_goes left subsection_kinds.Ids text h.content rest h.spelled le h.fits refl
    (goes_from (ap (λ (x : List ℕ). x ++ rest) h.content_is) (items_go kinds.Id texts n 0 b rest (omega (arith, ap length h.content_is)) h.fits (any_size texts)))
subsection_goes left SubsectionExtension text rest h le fits =
    let n = length h.content in
    let b = left - length text in
    part_goes left subsection_kinds.Extension text h.content rest h.spelled le h.fits refl
    (fields_go fields.ExtensionName n 0 b h.content_is.0 (h.content ++ rest) rest (table_more extension_fields [] h.content h.content_is.0 [] rest h.content_is.1) refl (omega (arith, length-append h.content rest)))

pub subsections_go : (subs : List Subsection) (body rest : List ℕ) (total : ℕ) → SpellsEach SpellsSubsection body subs → total ≡ length body → IsBytes body
    → Goes (next_subsection total) (body ++ rest) (places.SectionType false) rest
subsections_go [] body rest total h e fits =
    let none : total ≡ 0 = e ∙ ap length h in
    goes_from (ap (λ (x : List ℕ). x ++ rest) h) (subst (λ (m : ℕ). Goes (next_subsection m) rest (places.SectionType false) rest) (sym none) goes_none)
subsections_go (sub ∷ subs) body rest zero (first, (later, (parts, spelled, others))) e fits =
    absurd (omega (arith, e, ap length parts, length-append first later, ap length spelled.spelled))
subsections_go (sub ∷ subs) body rest (suc k) (first, (later, (parts, spelled, others))) e fits =
    let len = length-append first later in
    let all = subst IsBytes parts fits in
    let left : suc k - length first ≡ length later = omega (arith, e, ap length parts, len) in
    goes_from (ap (λ (x : List ℕ). x ++ rest) parts ∙ append_assoc first later rest)
    (goes_then (subsection_goes (suc k) sub first (later ++ rest) spelled (omega (arith, e, ap length parts, len)) (IsBytes-front first later all))
    (subsections_go subs later rest (suc k - length first) others left (IsBytes-back first later all)))
