-- The held serial numbers, as one list.
use Rattle.krl_queries.proofs.Common.{[], ◌+◌, ◌-◌, ◌<◌, ◌↔◌, ◌∙◌, ◌∷◌, ◌≡◌, ◌≤◌, All-weaker, ap}
use Rattle.krl_queries.proofs.Common.{arith, Contains, Covers, flat_map, HoldsSerial, IsOrderlySection}
use Rattle.krl_queries.proofs.Common.{IsOrderly, List, names_from, range_with_len, Revocations}
use Rattle.krl_queries.proofs.Common.{RunsFrom, Section, serials_in, Span, span_size, suc, sum_by}
use Rattle.krl_queries.proofs.Common.{zero, ℕ}
use Rattle.std.proofs.lemmas.List.Concat.{length-flat_map}
use Rattle.std.proofs.lemmas.List.FromFn.{get_or-range_with_len, length-range_with_len}
use Rattle.krl_types.proofs.Equivalences.{contains_append, iff_or}
use Rattle.krl_queries.proofs.DistinctLists.{Once, once_append, sum_ones}
use Rattle.krl_queries.proofs.AuthorityItems.{in_under, once_under, some_listed, sum_under, under}
use Rattle.krl_types.proofs.Elements.{contains_none}
use Rattle.std.proofs.Math.Logic.Iff as Iff

-- ---- consecutive numbers

in_row : (a n s : ℕ) → Contains (range_with_len a n) s ↔ ((a ≤ s) × (s < a + n))
in_row a n s = (
  λ h. let at : h.0 < n = omega (arith, h.1, length-range_with_len a n) in (omega (arith, h.2, get_or-range_with_len a n h.0 s at), omega (arith, h.2, get_or-range_with_len a n h.0 s at)),
  λ h. (s - a, omega (arith, h, length-range_with_len a n), let at : s - a < n = omega (arith, h) in omega (arith, h, get_or-range_with_len a n (s - a) s at)),
)

once_row : (a n : ℕ) → Once (range_with_len a n)
once_row a zero = tt
once_row a (suc n) = (λ h. omega (arith, ((in_row (a + 1) n a).0 h).0), once_row (a + 1) n)

-- ---- the numbers of spans

abbrev row : Span → List ℕ
row span = range_with_len span.lo (span_size span)

abbrev pub numbers : List Span → List ℕ
numbers spans = flat_map row spans

in_numbers : (least : ℕ) (spans : List Span) → RunsFrom least spans → (s : ℕ) → Contains (numbers spans) s ↔ Covers spans s
in_numbers least [] runs s = (λ h. absurd (contains_none s h), λ h. absurd h)
in_numbers least (x ∷ xs) runs s =
    let here : Contains (row x) s ↔ ((x.lo ≤ s) × (s ≤ x.hi)) = Iff.trans (in_row x.lo (span_size x) s) (λ h. (h.0, omega (arith, h.1, runs.1)), λ h. (h.0, omega (arith, h.1, runs.1))) in
    Iff.trans (contains_append (row x) (numbers xs) s) (iff_or here (in_numbers (x.hi + 2) xs runs.2 s))

once_numbers : (least : ℕ) (spans : List Span) → RunsFrom least spans → Once (numbers spans)
once_numbers least [] runs = tt
once_numbers least (x ∷ xs) runs =
    once_append (row x) (numbers xs) (once_row x.lo (span_size x)) (once_numbers (x.hi + 2) xs runs.2)
    (λ s here later. omega (arith, runs.1, ((in_row x.lo (span_size x) s).0 here).1, names_from (x.hi + 2) xs s runs.2 ((in_numbers (x.hi + 2) xs runs.2 s).0 later)))

count_numbers : (spans : List Span) → sum_by (λ s. 1) (numbers spans) ≡ sum_by span_size spans
count_numbers spans = sum_ones (numbers spans) ∙ length-flat_map row spans ∙ ap (λ f. sum_by f spans) (λ i span. length-range_with_len span.lo (span_size span) i)

-- ---- held serial numbers

-- each serial number, under its authority
abbrev pub serials_of : List Section → List (List ℕ × ℕ)
serials_of sections = under (λ section. numbers section.spans) sections

pub in_serials : (r : Revocations) → IsOrderly r → (a : List ℕ) (s : ℕ) → Contains (serials_of r.sections) (a, s) ↔ HoldsSerial r.sections a s
in_serials r o a s =
    let same = λ (section : Section) (is : IsOrderlySection section). in_numbers 0 section.spans is.runs s in
    Iff.trans (in_under (λ section. numbers section.spans) r.sections a s)
    (some_listed (λ section is h. (h.0, (same section is).0 h.1)) r.sections o.listed, some_listed (λ section is h. (h.0, (same section is).1 h.1)) r.sections o.listed)

pub once_serials : (r : Revocations) → IsOrderly r → Once (serials_of r.sections)
once_serials r o = once_under (λ section. numbers section.spans) r.sections o.authorities_rise (All-weaker IsOrderlySection (λ section. Once (numbers section.spans)) (λ section is. once_numbers 0 section.spans is.runs) r.sections o.listed)

pub count_serials : (sections : List Section) → sum_by (λ p. 1) (serials_of sections) ≡ serials_in sections
count_serials sections = sum_under (λ section. numbers section.spans) (λ s. 1) (λ section. sum_by span_size section.spans) (λ section. count_numbers section.spans) sections
