-- The serial numbers with which runs begin, as one list.
use Rattle.krl_queries.proofs.Common.{[], ⊎_elim, ◌+◌, ◌-◌, ◌<◌, ◌∙◌, ◌∷◌, ◌≡◌, ◌≤◌, All, All-head}
use Rattle.krl_queries.proofs.Common.{All-tail, All-weaker, arith, BeginsRun, Contains, Covers}
use Rattle.krl_queries.proofs.Common.{held, HoldsSerial, inl, inr, IsOrderlySection, IsOrderly, length}
use Rattle.krl_queries.proofs.Common.{length-map, List, map, names_from, Revocations, RisesBy}
use Rattle.krl_queries.proofs.Common.{RunsFrom, Section, SomeSection, Span, sum_by, ℕ}
use Rattle.krl_queries.proofs.DistinctLists.{Once, sum_ones}
use Rattle.krl_entries.proofs.OneMeaning.{held_first, section_authority}
use Rattle.krl_queries.proofs.AuthorityItems.{in_under, once_under, some_listed, sum_under, under}
use Rattle.krl_types.proofs.Elements.{contains_cases, contains_none}

-- ---- the numbers with which spans begin

abbrev pub starts : List Span → List ℕ
starts spans = map (λ span. span.lo) spans

start_covered : (least : ℕ) (spans : List Span) → RunsFrom least spans → (s : ℕ) → Contains (starts spans) s → Covers spans s
start_covered least [] runs s h = absurd (contains_none s h)
start_covered least (x ∷ xs) runs s h =
    ⊎_elim (λ here. inl (omega (arith, here), omega (arith, here, runs.1))) (λ later. inr (start_covered (x.hi + 2) xs runs.2 s later)) (contains_cases x.lo s (starts xs) h)

start_first : (least : ℕ) (spans : List Span) → RunsFrom least spans → (s : ℕ) → Contains (starts spans) s → 0 < s → Covers spans (s - 1) → ⊥
start_first least [] runs s h some before = before
start_first least (x ∷ xs) runs s h some before =
    let past : Covers xs (s - 1) → x.hi + 2 ≤ s - 1 = names_from (x.hi + 2) xs (s - 1) runs.2 in
    elim (contains_cases x.lo s (starts xs) h) [
      | inl here ↦ ⊎_elim (λ in_it. omega (arith, here, in_it.0)) (λ later. omega (arith, here, runs.1, past later)) before
      | inr later ↦ ⊎_elim (λ in_it. omega (arith, in_it.1, names_from (x.hi + 2) xs s runs.2 (start_covered (x.hi + 2) xs runs.2 s later))) (start_first (x.hi + 2) xs runs.2 s later some) before
    ]

once_starts : (least : ℕ) (spans : List Span) → RunsFrom least spans → Once (starts spans)
once_starts least [] runs = tt
once_starts least (x ∷ xs) runs = (λ h. omega (arith, runs.1, names_from (x.hi + 2) xs x.lo runs.2 (start_covered (x.hi + 2) xs runs.2 x.lo h)), once_starts (x.hi + 2) xs runs.2)

-- ---- held runs

begins : (sections : List Section) → RisesBy section_authority sections → All IsOrderlySection sections → (a : List ℕ) (s : ℕ)
    → SomeSection (λ section. (section.authority ≡ a) × Contains (starts section.spans) s) sections → HoldsSerial sections a (s - 1) → ⊥
begins [] rises listed a s h before = h
begins (x ∷ xs) rises listed a s h before =
    let is : IsOrderlySection x = All-head IsOrderlySection x xs listed in
    let here : x.authority ≡ a → ⊥ = λ same.
    let start = (held_first (λ section. Contains (starts section.spans) s) a x xs same rises.0).0 h in
    let some = (is.serials s (start_covered 0 x.spans is.runs s start)).0 in
    start_first 0 x.spans is.runs s start some ((held_first (λ section. Covers section.spans (s - 1)) a x xs same rises.0).0 before) in
    elim h [
      | inl k ↦ here k.0
      | inr later ↦ ⊎_elim (λ k. here k.0) (begins xs rises.1 (All-tail IsOrderlySection x xs listed) a s later) before
    ]

-- the first serial number of each run, under its authority
abbrev pub starts_of : List Section → List (List ℕ × ℕ)
starts_of sections = under (λ section. starts section.spans) sections

pub in_starts : (r : Revocations) → IsOrderly r → (a : List ℕ) (s : ℕ) → Contains (starts_of r.sections) (a, s) → BeginsRun r a s
in_starts r o a s h =
    let some = (in_under (λ section. starts section.spans) r.sections a s).0 h in
    (some_listed (λ section is k. (k.0, start_covered 0 section.spans is.runs s k.1)) r.sections o.listed some, begins r.sections o.authorities_rise o.listed a s some)

pub once_starts_of : (r : Revocations) → IsOrderly r → Once (starts_of r.sections)
once_starts_of r o = once_under (λ section. starts section.spans) r.sections o.authorities_rise (All-weaker IsOrderlySection (λ section. Once (starts section.spans)) (λ section is. once_starts 0 section.spans is.runs) r.sections o.listed)

pub count_starts : (r : Revocations) → sum_by (λ p. 1) (starts_of r.sections) ≡ held r
count_starts r = sum_under (λ section. starts section.spans) (λ s. 1) (λ section. length section.spans) (λ section. sum_ones (starts section.spans) ∙ length-map section.spans (λ span. span.lo)) r.sections
