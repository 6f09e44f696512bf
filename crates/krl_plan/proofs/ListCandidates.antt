-- The lists that begin at the first run, after one more run in front.
use Rattle.krl_plan.proofs.Common.{[], ◌*◌, ◌+◌, ◌-◌, ◌<◌, ◌^◌, ◌∙◌, ◌∷◌, ◌≡◌, ◌≤◌, ◌⊎◌, All}
use Rattle.krl_plan.proofs.Common.{All-cons, All-nil, All-tail, Allows, ap, arith, Candidate, Cell}
use Rattle.krl_plan.proofs.Common.{cell_with, Contains, Contains-get_or, Forgets, get_or, inl, inr}
use Rattle.krl_plan.proofs.Common.{IsBestOf, IsCell, IsFilled, IsGroup, IsLeastOf, IsSmall, length}
use Rattle.krl_plan.proofs.Common.{length-take-le, List, Pushes, refl, rest_cost, serial_count}
use Rattle.krl_plan.proofs.Common.{Serials, Span, suc, take, Wins, zero, ℕ}
use Rattle.krl_plan.specs.Lists.{IsList, list_candidate}
use Rattle.krl_plan.proofs.BestCandidates.{group_of, one_better, same_cell}
use Rattle.krl_plan.proofs.Candidates.{forgets_filled, pushes_filled, same_candidate}

list_first : (run : Span) (runs : List Span) → IsSmall run → IsList (run ∷ runs) 1
list_first run runs small = record {
  some = omega arith;
  within = omega arith;
  allowed = (omega arith, All-cons IsSmall run [] small (All-nil IsSmall));
}

list_up : (run : Span) (runs : List Span) (count : ℕ) → IsSmall run → IsList runs count → count < 1024 → IsList (run ∷ runs) (suc count)
list_up run runs count small g few =
    let within : count ≤ length runs = g.within in
    let allowed : Allows Serials (take count runs) = g.allowed in
    let len = length-take-le count runs within in
    record {
      some = omega arith;
      within = omega arith;
      allowed = (omega arith, All-cons IsSmall run (take count runs) small allowed.1);
    }

list_down : (run : Span) (runs : List Span) (count : ℕ) → IsList (run ∷ runs) count → (count ≡ 1) ⊎ ((before : ℕ) × ((count ≡ suc before) × (IsList runs before × (before < 1024))))
list_down run runs zero g = let some : 0 < 0 = g.some in absurd (omega arith)
list_down run runs (suc zero) g = inl refl
list_down run runs (suc (suc count)) g =
    let within : suc (suc count) ≤ suc (length runs) = g.within in
    let allowed : Allows Serials (run ∷ take (suc count) runs) = g.allowed in
    let few : suc (length (take (suc count) runs)) ≤ 1024 = allowed.0 in
    let len = length-take-le (suc count) runs (omega arith) in
    let group : IsList runs (suc count) = record {
      some = omega arith;
      within = omega arith;
      allowed = (omega arith, All-tail IsSmall run (take (suc count) runs) allowed.1);
    } in
    inr (suc count, (refl, (group, omega arith)))

-- no list has more than 1,024 runs
pub list_few : (runs : List Span) (count : ℕ) → IsList runs count → count ≤ 1024
list_few runs count g =
    let allowed : Allows Serials (take count runs) = g.allowed in
    let few : length (take count runs) ≤ 1024 = allowed.0 in
    let len = length-take-le count runs g.within in
    omega arith

-- ---- candidates

list_one : (base more at rest : ℕ) (run : Span) (runs : List Span) (rests : List ℕ) (candidate : Candidate) → more + 8 * (run.hi + 1 - run.lo) ≡ base
    → candidate.position ≡ at + 1 → candidate.value ≡ base + rest → candidate.end ≡ at + 1 → list_candidate more at (run ∷ runs) (rest ∷ rests) 1 ≡ candidate
list_one base more at rest run runs rests candidate e position value end = same_candidate (list_candidate more at (run ∷ runs) (rest ∷ rests) 1) candidate (omega arith) (omega arith) (omega arith)

list_more : (base more at rest count : ℕ) (run : Span) (runs : List Span) (rests : List ℕ) → more + 8 * (run.hi + 1 - run.lo) ≡ base → 0 < count
    → list_candidate more at (run ∷ runs) (rest ∷ rests) (suc count) ≡ list_candidate base (at + 1) runs rests count
list_more base more at rest zero run runs rests e some = absurd (omega arith)
list_more base more at rest (suc count) run runs rests e some =
    same_candidate (list_candidate more at (run ∷ runs) (rest ∷ rests) (suc (suc count))) (list_candidate base (at + 1) runs rests (suc count)) (omega arith) (omega arith) (omega arith)

-- the queue after one more run
pub list_filled : (old near candidates : List Candidate) (candidate : Candidate) (base more at rest : ℕ) (run : Span) (runs : List Span) (rests : List ℕ)
    → IsFilled old (IsList runs) (list_candidate base (at + 1) runs rests) → Forgets (at + 1024) old near → Pushes candidate near candidates → IsSmall run → more + 8 * (run.hi + 1 - run.lo) ≡ base
    → candidate.position ≡ at + 1 → candidate.value ≡ base + rest → candidate.end ≡ at + 1 → candidate.value < 2 ^ 101 → IsFilled candidates (IsList (run ∷ runs)) (list_candidate more at (run ∷ runs) (rest ∷ rests))
list_filled old near candidates candidate base more at rest run runs rests f g p small e position value end fits =
    let Near : ℕ → Type 0 = λ count. IsList runs count × (count < 1024) in
    let within : IsFilled near Near (list_candidate base (at + 1) runs rests) =
    forgets_filled old near (at + 1024) (IsList runs) Near (list_candidate base (at + 1) runs rests) f g
    (λ count is le. (is, omega arith)) (λ count is. (is.0, omega arith)) in
    pushes_filled near candidates candidate Near (IsList (run ∷ runs)) (list_candidate base (at + 1) runs rests) (list_candidate more at (run ∷ runs) (rest ∷ rests)) within p fits
    (list_first run runs small) (list_one base more at rest run runs rests candidate e position value end)
    (λ count is. (list_up run runs count small is.0 is.1, list_more base more at rest count run runs rests e (IsGroup.some is.0)))
    (list_down run runs)

-- ---- the best

-- the facts about a candidate
pub list_is : (candidates : List Candidate) (base at : ℕ) (runs : List Span) (rests : List ℕ) (candidate : Candidate) → IsFilled candidates (IsList runs) (list_candidate base at runs rests) → Contains candidates candidate
    → (base ≤ candidate.value) × ((at < candidate.end) × (candidate.end ≤ at + 1024)) × (candidate.value < 2 ^ 101)
list_is candidates base at runs rests candidate f c =
    let is = f.only candidate c in
    let count : ℕ = is.0 in
    let few = list_few runs count is.1.0 in
    let some : 0 < count = IsGroup.some is.1.0 in
    let value : candidate.value ≡ base + 8 * serial_count (take count runs) + rest_cost rests count = ap (λ (m : Candidate). m.value) is.1.1 in
    let end : candidate.end ≡ at + count = ap (λ (m : Candidate). m.end) is.1.1 in
    (omega arith, (omega arith, omega arith), f.small candidate c)

pub list_best : (candidates : List Candidate) (base at : ℕ) (runs : List Span) (rests : List ℕ) (least : Candidate) (old cell best : Cell) → IsFilled candidates (IsList runs) (list_candidate base at runs rests)
    → IsLeastOf candidates least → IsCell rests runs old → cell.cost ≡ 5 + (least.value - base) → cell.group ≡ group_of Serials (least.end - at)
    → (best ≡ old) ⊎ (best ≡ cell) → ((other : Cell) → Wins old other → Wins best other) → ((other : Cell) → Wins cell other → Wins best other) → IsBestOf rests runs Serials (IsList runs) old best
list_best candidates base at runs rests least old cell best f l c cost group one first second =
    let is = f.only least l.one in
    let count : ℕ = is.0 in
    let value : least.value ≡ base + 8 * serial_count (take count runs) + rest_cost rests count = ap (λ (m : Candidate). m.value) is.1.1 in
    let position : least.position ≡ at + count = ap (λ (m : Candidate). m.position) is.1.1 in
    let end : least.end ≡ at + count = ap (λ (m : Candidate). m.end) is.1.1 in
    let counted : least.end - at ≡ count = omega arith in
    let costs : cell.cost ≡ 5 + 8 * serial_count (take count runs) + rest_cost rests count = omega arith in
    let same : cell ≡ cell_with rests runs (group_of Serials count) = same_cell cell (cell_with rests runs (group_of Serials count)) costs (group ∙ ap (group_of Serials) counted) in
    let wins : (other : ℕ) → IsList runs other → Wins (cell_with rests runs (group_of Serials count)) (cell_with rests runs (group_of Serials other)) =
    λ other it. (let first = l.first (list_candidate base at runs rests other) (f.all other it) in grind arith) in
    one_better rests runs Serials (IsList runs) old cell best count c is.1.0 same wins one first second

-- all candidates that were not forgotten are past a new one
pub list_past : (old near : List Candidate) (base at limit : ℕ) (runs : List Span) (rests : List ℕ) → IsFilled old (IsList runs) (list_candidate base at runs rests) → Forgets limit old near
    → All (λ other. at < other.position) near
list_past old near base at limit runs rests f g k d lt =
    let candidate : Candidate = get_or near k d in
    let is = f.only candidate (g.only candidate (Contains-get_or near k d lt)).0 in
    let some : 0 < is.0 = IsGroup.some is.1.0 in
    let position : candidate.position ≡ at + is.0 = ap (λ (m : Candidate). m.position) is.1.1 in
    omega arith
