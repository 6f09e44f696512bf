-- Lines of serial numbers.
use Rattle.std.proofs.Common.{◌≡◌, ℕ, ◌+◌, ◌<◌, ◌^◌, ◌==◌, true, false, List, [], ◌∷◌, ◌++◌, codes, decimal, drop, get_or, Option, Some, Ok, refl, sym, ap, ◌∙◌, arith, append_assoc, append-nil, inl, inr}
use Rattle.std.specs.List.{AllPass, position_or_len}
use Rattle.std.proofs.lemmas.Bool.{cases_Bool, eqb-true, le-ltb, ne_eqb}
use Rattle.std.proofs.lemmas.Fmt.{decimal_is_IsNumeral, first_decimal}
use Rattle.std.proofs.lemmas.List.Elements.{All-append, All-cons, All-nil}
use Rattle.serial_set.specs.declared.span.Span.{Span}
use Rattle.key_text.specs.Blanks.{after_blanks, is_blank}
use Rattle.krl_types.specs.Entry.{RangeEntry}
use Rattle.krl_spec.specs.Entries.{order_entry}
use Rattle.krl_spec.specs.Number.{is_hyphen, serials_of_text}
use Rattle.krl_spec.specs.Spelled.{AreBounds, IsNumber, decimal as is_decimal, one_number, two_numbers}
use Rattle.krl_spec.specs.declared.directive.Directive.TheVariants as directives
use Rattle.krl_spec.proofs.BoundsLaws.{bounds_again}
use Rattle.krl_spec.proofs.LongestParts.{cut_again, no_cut}
use Rattle.list_text.specs.Text.{name_part, serials_line}
use Rattle.text_entries.specs.Says.{Under}
use Rattle.text_entries.specs.Values.{begins_with_zero, has_leading_zero}
use Rattle.text_entries.specs.Word.{word_named}
use Rattle.text_entries.specs.declared.standing.Standing.{Standing}
use Rattle.text_entries.specs.declared.word.Word.TheVariants as words
use Rattle.text_laws.specs.FactLines.{AreSerials, IsUnder}
use Rattle.text_laws.proofs.Contents.{IsName, no_blank, solid_value}
use Rattle.text_laws.proofs.LineReads.{Reads, literal_name}
use Rattle.text_laws.proofs.Marks.{entry_reads}
use Rattle.text_laws.proofs.Orders.{behind_blanks}
use Rattle.text_laws.proofs.SolidBytes.{IsSolid, decimal_no_hyphen, decimal_solid, is_solid}

abbrev span_of : ℕ → ℕ → Span
span_of lo hi = record { lo = lo; hi = hi }

number_is : (n : ℕ) → 0 < n → n < 2 ^ 64 → IsNumber (decimal n) n
number_is n some small =
    let is = decimal_is_IsNumeral n small in
    let first = first_decimal n some small in
    is_decimal (λ zero. absurd (omega (arith, first, zero))) (record { numeral = is.0; value = sym is.1; fits = small })

serials_are : (text : List ℕ) (lo hi : ℕ) → AreBounds text lo hi → AreSerials (span_of lo hi)
    → serials_of_text text ≡ Ok (record { lo = lo; hi = hi })
unfolding serials_of_text
serials_are text lo hi are order =
    let first = ne_eqb lo 0 (λ none. absurd (omega (arith, order.some, none))) in
    let last = ne_eqb hi 0 (λ none. absurd (omega (arith, order.some, order.rises, none))) in
    rw (bounds_again text lo hi are, first, last, le-ltb hi lo order.rises) refl

-- ---- no leading zero

leads : (first : ℕ) (digits : List ℕ) → 48 < first → begins_with_zero (first ∷ digits) ≡ false
leads first [] above = refl
leads first (second ∷ digits) above = rw (ne_eqb first 48 (λ zero. absurd (omega (arith, above, zero)))) refl

text_leads : (text rest : List ℕ) → 48 < get_or text 0 0 → begins_with_zero (text ++ rest) ≡ false
text_leads [] rest above = absurd (omega (arith, above))
text_leads (first ∷ digits) rest above = leads first (digits ++ rest) above

number_leads : (n : ℕ) (rest : List ℕ) → 0 < n → n < 2 ^ 64 → begins_with_zero (decimal n ++ rest) ≡ false
number_leads n rest some small = text_leads (decimal n) rest (first_decimal n some small)

decimal_leads : (n : ℕ) → 0 < n → n < 2 ^ 64 → begins_with_zero (decimal n) ≡ false
decimal_leads n some small = ap begins_with_zero (sym (append-nil (decimal n))) ∙ number_leads n [] some small

one_leads : (n : ℕ) → 0 < n → n < 2 ^ 64 → has_leading_zero (decimal n) ≡ false
unfolding has_leading_zero
one_leads n some small = rw (no_cut 45 (decimal n) (decimal_no_hyphen n small), decimal_leads n some small) refl

two_lead : (lo hi : ℕ) → AreSerials (span_of lo hi) → has_leading_zero (decimal lo ++ 45 ∷ decimal hi) ≡ false
unfolding has_leading_zero
two_lead lo hi order =
    let low : lo < 2 ^ 64 = omega (arith, order.rises, order.fits) in
    let high : 0 < hi = omega (arith, order.some, order.rises) in
    let cut = cut_again 45 (decimal lo) (decimal hi) (decimal_no_hyphen lo low) in
    let starts = no_blank (decimal hi) (solid_value (decimal hi) (decimal_solid hi order.fits)).starts in
    let last : after_blanks (drop (position_or_len is_hyphen (decimal lo ++ 45 ∷ decimal hi) + 1) (decimal lo ++ 45 ∷ decimal hi)) ≡ decimal hi =
    ap after_blanks cut.after ∙ behind_blanks [] (decimal hi) (All-nil (λ (byte : ℕ). is_blank byte ≡ true)) starts in
    rw (cut.within, number_leads lo (45 ∷ decimal hi) order.some low, last, decimal_leads hi high order.fits) refl

-- ---- the line

serial_name : IsName (codes "serial")
serial_name = literal_name (codes "serial") (omega arith) refl refl

serial_word : word_named (codes "serial") ≡ Some words.Serial
unfolding word_named
serial_word = refl

serial_reads : (standing : Standing) (named : Option (List ℕ)) (authority value text : List ℕ) (lo hi : ℕ) → IsUnder standing named authority → AllPass is_solid value → AreBounds value lo hi
    → has_leading_zero value ≡ false → AreSerials (span_of lo hi)
    → text ≡ codes "serial" ++ 58 ∷ 32 ∷ (value ++ 10 ∷ [])
    → Reads standing (name_part named ++ text) (Under (RangeEntry authority lo hi))
serial_reads standing named authority value text lo hi under solid are leading order spelled =
    let entry : order_entry (Some authority) directives.Serial value ≡ Ok (RangeEntry authority lo hi) = rw (serials_are value lo hi are order) refl in
    entry_reads standing named authority (codes "serial") value text words.Serial (RangeEntry authority lo hi) under serial_name (solid_value value solid) serial_word spelled refl
    (rw (leading, entry) refl)

one_solid : (n hi : ℕ) → AreSerials (span_of n hi) → AllPass is_solid (decimal n)
one_solid n hi order = decimal_solid n (omega (arith, order.rises, order.fits))

pub serials_read : (standing : Standing) (named : Option (List ℕ)) (authority : List ℕ) (span : Span) → IsUnder standing named authority → AreSerials span
    → Reads standing (name_part named ++ serials_line span) (Under (RangeEntry authority span.lo span.hi))
serials_read standing named authority span under order = elim (cases_Bool (span.lo == span.hi)) [
  | inl one ↦
      let same = eqb-true span.lo span.hi one in
      serial_reads standing named authority (decimal span.lo) (serials_line span) span.lo span.hi under (one_solid span.lo span.hi order)
      (one_number (number_is span.lo order.some (omega (arith, order.rises, order.fits))) same)
      (one_leads span.lo order.some (omega (arith, order.rises, order.fits))) order (rw one refl)
  | inr two ↦
      let first = number_is span.lo order.some (omega (arith, order.rises, order.fits)) in
      let last = number_is span.hi (omega (arith, order.some, order.rises)) order.fits in
      let value : List ℕ = decimal span.lo ++ 45 ∷ decimal span.hi in
      let solid = All-append IsSolid (decimal span.lo) (45 ∷ decimal span.hi) (one_solid span.lo span.hi order)
      (All-cons IsSolid 45 (decimal span.hi) refl (decimal_solid span.hi order.fits)) in
      let none = All-nil (λ (byte : ℕ). is_blank byte ≡ true) in
      serial_reads standing named authority value (serials_line span) span.lo span.hi under solid
      (two_numbers (decimal span.lo) [] [] (decimal span.hi) refl none none first last) (two_lead span.lo span.hi order) order
      (rw two (ap (λ (xs : List ℕ). codes "serial: " ++ xs) (sym (append_assoc (decimal span.lo) (45 ∷ decimal span.hi) (10 ∷ [])))))
]
