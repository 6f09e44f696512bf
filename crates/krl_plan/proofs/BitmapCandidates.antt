-- The bitmaps that begin at the first run, after one more run in front.
use Rattle.krl_plan.proofs.Common.{[], ◌%◌, ◌+◌, ◌-◌, ◌/◌, ◌<◌, ◌^◌, ◌∙◌, ◌∷◌, ◌≡◌, ◌≤◌, ◌⊎◌, All}
use Rattle.krl_plan.proofs.Common.{ap, arith, Bitmap, bitmap_candidate, Candidate, cases_lt, Cell}
use Rattle.krl_plan.proofs.Common.{cell_with, Contains, Contains-get_or, Forgets, get_or, inl, inr}
use Rattle.krl_plan.proofs.Common.{IsBestOf, IsBitmap, IsBitmapOf, IsCell, IsFilled, IsFirstOf}
use Rattle.krl_plan.proofs.Common.{IsGroup, IsLeastOf, IsRuns, last_of, length, List, Pushes, reach}
use Rattle.krl_plan.proofs.Common.{refl, rest_cost, RunsFrom, Span, suc, sym, take, Wins, zero, ℕ}
use Rattle.krl_plan.proofs.ChosenGroups.{group_few}
use Rattle.krl_plan.proofs.BestCandidates.{group_of, one_better, same_cell}
use Rattle.krl_plan.proofs.Candidates.{forgets_filled, longer_filled, pushes_filled, same_candidate}

-- ---- last serials

pub last_above : (least count : ℕ) (runs : List Span) → RunsFrom least runs → 0 < count → count ≤ length runs → least ≤ last_of (take count runs)
last_above least zero runs r some le = absurd (omega arith)
last_above least (suc count) [] r some le = absurd (omega arith)
last_above least (suc zero) (run ∷ runs) r some le = let h : run.lo ≤ run.hi = r.1 in omega arith
last_above least (suc (suc count)) (run ∷ []) r some le = absurd (omega arith)
last_above least (suc (suc count)) (run ∷ (next ∷ runs)) r some le =
    let h : run.lo ≤ run.hi = r.1 in
    let later : run.hi + 2 ≤ last_of (take (suc count) (next ∷ runs)) = last_above (run.hi + 2) (suc count) (next ∷ runs) r.2 (omega arith) (omega arith) in
    omega arith

-- more runs end later
last_rises : (least few many : ℕ) (runs : List Span) → RunsFrom least runs → 0 < few → few < many → many ≤ length runs → last_of (take few runs) < last_of (take many runs)
last_rises least zero many runs r some lt le = absurd (omega arith)
last_rises least (suc few) zero runs r some lt le = absurd (omega arith)
last_rises least (suc few) (suc zero) runs r some lt le = absurd (omega arith)
last_rises least (suc few) (suc (suc many)) [] r some lt le = absurd (omega arith)
last_rises least (suc few) (suc (suc many)) (run ∷ []) r some lt le = absurd (omega arith)
last_rises least (suc zero) (suc (suc many)) (run ∷ (next ∷ runs)) r some lt le =
    let later : run.hi + 2 ≤ last_of (take (suc many) (next ∷ runs)) = last_above (run.hi + 2) (suc many) (next ∷ runs) r.2 (omega arith) (omega arith) in
    omega arith
last_rises least (suc (suc few)) (suc (suc many)) (run ∷ (next ∷ runs)) r some lt le =
    last_rises (run.hi + 2) (suc few) (suc many) (next ∷ runs) r.2 (omega arith) (omega arith) (omega arith)

-- ---- one more run

-- the bitmaps with one more run, before those that reach too far are forgotten
abbrev pub IsLonger : Span → List Span → ℕ → ℕ → Type 0
IsLonger run runs r zero = ⊥
IsLonger run runs r (suc zero) = (run.hi + 1) % 8 ≡ r
IsLonger run runs r (suc (suc count)) = IsBitmapOf runs r (suc count)

bitmap_near : (run : Span) (runs : List Span) (r count : ℕ) → IsLonger run runs r count → last_of (take count (run ∷ runs)) ≤ run.lo + 2047 → IsBitmapOf (run ∷ runs) r count
bitmap_near run runs r zero ahead near = absurd ahead
bitmap_near run runs r (suc zero) ahead near =
    record { is_bitmap = record { some = omega arith; within = omega arith; allowed = omega arith }; leaves = ahead }
bitmap_near run [] r (suc (suc count)) ahead near = let within : suc count ≤ 0 = IsGroup.within (ahead.is_bitmap) in absurd (omega arith)
bitmap_near run (next ∷ runs) r (suc (suc count)) ahead near =
    let within : suc count ≤ suc (length runs) = IsGroup.within (ahead.is_bitmap) in
    record {
      is_bitmap = record { some = omega arith; within = omega arith; allowed = omega arith };
      leaves = ahead.leaves;
    }

bitmap_back : (run : Span) (runs : List Span) (r count : ℕ) → IsRuns (run ∷ runs) → IsBitmapOf (run ∷ runs) r count → IsLonger run runs r count × (last_of (take count (run ∷ runs)) ≤ run.lo + 2047)
bitmap_back run runs r zero rises is = let some : 0 < 0 = IsGroup.some (is.is_bitmap) in absurd (omega arith)
bitmap_back run runs r (suc zero) rises is =
    let allowed : run.hi - run.lo < 2048 = IsGroup.allowed (is.is_bitmap) in
    (is.leaves, omega arith)
bitmap_back run [] r (suc (suc count)) rises is = let within : suc (suc count) ≤ 1 = IsGroup.within (is.is_bitmap) in absurd (omega arith)
bitmap_back run (next ∷ runs) r (suc (suc count)) rises is =
    let within : suc (suc count) ≤ suc (suc (length runs)) = IsGroup.within (is.is_bitmap) in
    let allowed : last_of (take (suc count) (next ∷ runs)) - run.lo < 2048 = IsGroup.allowed (is.is_bitmap) in
    let some : run.lo ≤ run.hi = rises.1 in
    let above : run.hi + 2 ≤ next.lo = rises.2.0 in
    let group : IsBitmap (next ∷ runs) (suc count) = record { some = omega arith; within = omega arith; allowed = omega arith } in
    (record { is_bitmap = group; leaves = is.leaves }, omega arith)

bitmap_longer : (run : Span) (runs : List Span) (r count : ℕ) → IsBitmapOf runs r count → IsLonger run runs r (suc count)
bitmap_longer run runs r zero is = let some : 0 < 0 = IsGroup.some (is.is_bitmap) in absurd (omega arith)
bitmap_longer run runs r (suc count) is = is

bitmap_before : (run : Span) (runs : List Span) (r count : ℕ) → IsLonger run runs r count → (count ≡ 1) ⊎ ((before : ℕ) × ((count ≡ suc before) × IsBitmapOf runs r before))
bitmap_before run runs r zero ahead = absurd ahead
bitmap_before run runs r (suc zero) ahead = inl refl
bitmap_before run runs r (suc (suc count)) ahead = inr (suc count, (refl, ahead))

-- a queue for another remainder than the new run's
bitmap_other : (run : Span) (runs : List Span) (r count : ℕ) → ((run.hi + 1) % 8 ≡ r → ⊥) → IsLonger run runs r count → (before : ℕ) × ((count ≡ suc before) × IsBitmapOf runs r before)
bitmap_other run runs r zero other ahead = absurd ahead
bitmap_other run runs r (suc zero) other ahead = absurd (other ahead)
bitmap_other run runs r (suc (suc count)) other ahead = (suc count, (refl, ahead))

-- ---- candidates

bitmap_more : (at rest r count : ℕ) (run : Span) (runs : List Span) (rests : List ℕ) → IsBitmapOf runs r count → bitmap_candidate at (run ∷ runs) (rest ∷ rests) (suc count) ≡ bitmap_candidate (at + 1) runs rests count
bitmap_more at rest r zero run runs rests is = let some : 0 < 0 = IsGroup.some (is.is_bitmap) in absurd (omega arith)
bitmap_more at rest r (suc count) run [] rests is = let within : suc count ≤ 0 = IsGroup.within (is.is_bitmap) in absurd (omega arith)
bitmap_more at rest r (suc count) run (next ∷ runs) rests is =
    same_candidate (bitmap_candidate at (run ∷ (next ∷ runs)) (rest ∷ rests) (suc (suc count))) (bitmap_candidate (at + 1) (next ∷ runs) rests (suc count)) refl refl (omega arith)

-- the queue of the run's remainder, with the run added
pub bitmap_pushed : (old candidates : List Candidate) (candidate : Candidate) (at rest r : ℕ) (run : Span) (runs : List Span) (rests : List ℕ) → IsFilled old (IsBitmapOf runs r) (bitmap_candidate (at + 1) runs rests) → Pushes candidate old candidates
    → (run.hi + 1) % 8 ≡ r → candidate.position ≡ run.hi → candidate.value ≡ (run.hi + 1) / 8 + rest → candidate.end ≡ at + 1 → candidate.value < 2 ^ 101 → IsFilled candidates (IsLonger run runs r) (bitmap_candidate at (run ∷ runs) (rest ∷ rests))
bitmap_pushed old candidates candidate at rest r run runs rests f p e position value end fits =
    pushes_filled old candidates candidate (IsBitmapOf runs r) (IsLonger run runs r) (bitmap_candidate (at + 1) runs rests) (bitmap_candidate at (run ∷ runs) (rest ∷ rests)) f p fits e
    (same_candidate (bitmap_candidate at (run ∷ runs) (rest ∷ rests) 1) candidate (sym position) (sym value) (sym end))
    (λ count is. (bitmap_longer run runs r count is, bitmap_more at rest r count run runs rests is)) (bitmap_before run runs r)

pub bitmap_kept : (candidates : List Candidate) (at rest r : ℕ) (run : Span) (runs : List Span) (rests : List ℕ) → IsFilled candidates (IsBitmapOf runs r) (bitmap_candidate (at + 1) runs rests)
    → ((run.hi + 1) % 8 ≡ r → ⊥) → IsFilled candidates (IsLonger run runs r) (bitmap_candidate at (run ∷ runs) (rest ∷ rests))
bitmap_kept candidates at rest r run runs rests f other =
    longer_filled candidates (IsBitmapOf runs r) (IsLonger run runs r) (bitmap_candidate (at + 1) runs rests) (bitmap_candidate at (run ∷ runs) (rest ∷ rests)) f
    (λ count is. (bitmap_longer run runs r count is, bitmap_more at rest r count run runs rests is)) (λ count ahead. bitmap_other run runs r count other ahead)

pub bitmap_forgot : (old candidates : List Candidate) (at r : ℕ) (run : Span) (runs : List Span) (rests : List ℕ) → IsRuns (run ∷ runs) → IsFilled old (IsLonger run runs r) (bitmap_candidate at (run ∷ runs) rests)
    → Forgets (run.lo + 2047) old candidates → IsFilled candidates (IsBitmapOf (run ∷ runs) r) (bitmap_candidate at (run ∷ runs) rests)
bitmap_forgot old candidates at r run runs rests rises f g =
    forgets_filled old candidates (run.lo + 2047) (IsLonger run runs r) (IsBitmapOf (run ∷ runs) r) (bitmap_candidate at (run ∷ runs) rests) f g
    (bitmap_near run runs r) (λ count is. bitmap_back run runs r count rises is)

-- all candidates are past a new one
pub bitmap_past : (candidates : List Candidate) (at r : ℕ) (run : Span) (runs : List Span) (rests : List ℕ) → IsRuns (run ∷ runs) → IsFilled candidates (IsBitmapOf runs r) (bitmap_candidate at runs rests) → All (λ other. run.hi < other.position) candidates
bitmap_past candidates at r run runs rests rises f k d lt =
    let candidate : Candidate = get_or candidates k d in
    let is = f.only candidate (Contains-get_or candidates k d lt) in
    let count : ℕ = is.0 in
    let position : candidate.position ≡ last_of (take count runs) = ap (λ (m : Candidate). m.position) is.1.1 in
    let above = last_above (run.hi + 2) count runs rises.2 (IsGroup.some (is.1.0.is_bitmap)) (IsGroup.within (is.1.0.is_bitmap)) in
    omega arith

-- ---- the best

-- an eighth of the first serial, rounded as a remainder requires
pub before_of : (first r : ℕ) → (before : ℕ) × ((r < first % 8 → before ≡ first / 8 + 1) × (first % 8 ≤ r → before ≡ first / 8))
before_of first r = elim (cases_lt r (first % 8)) [
  | inl lt ↦ (first / 8 + 1, ((λ h. refl), (λ h. absurd (omega arith))))
  | inr ge ↦ (first / 8, ((λ h. absurd (omega arith)), (λ h. refl)))
]

-- the bytes of the bits from one serial to another
bytes_between : (first last r before : ℕ) → first ≤ last → (last + 1) % 8 ≡ r → (r < first % 8 → before ≡ first / 8 + 1) → (first % 8 ≤ r → before ≡ first / 8)
    → (last - first + 1) / 8 + before ≡ (last + 1) / 8
bytes_between first last r before le e less more = grind arith

reach_is : (run : Span) (runs : List Span) (count : ℕ) → 0 < count → reach (take count (run ∷ runs)) ≡ last_of (take count (run ∷ runs)) - run.lo
reach_is run runs zero some = absurd (omega arith)
reach_is run runs (suc count) some = refl

-- the facts about a candidate
pub bitmap_is : (candidates : List Candidate) (at r before : ℕ) (run : Span) (runs : List Span) (rests : List ℕ) (candidate : Candidate) → IsRuns (run ∷ runs)
    → IsFilled candidates (IsBitmapOf (run ∷ runs) r) (bitmap_candidate at (run ∷ runs) rests) → Contains candidates candidate → (r < run.lo % 8 → before ≡ run.lo / 8 + 1) → (run.lo % 8 ≤ r → before ≡ run.lo / 8)
    → (before ≤ candidate.value) × ((at < candidate.end) × (candidate.end ≤ at + 1024)) × (candidate.value < 2 ^ 101)
bitmap_is candidates at r before run runs rests candidate rises f c less more =
    let is = f.only candidate c in
    let count : ℕ = is.0 in
    let map : IsBitmapOf (run ∷ runs) r count = is.1.0 in
    let few : count ≤ 1024 = group_few (run ∷ runs) (group_of Bitmap count) rises map.is_bitmap in
    let some : 0 < count = IsGroup.some (map.is_bitmap) in
    let above = last_above run.lo count (run ∷ runs) (omega arith, rises.1, rises.2) some (IsGroup.within (map.is_bitmap)) in
    let bytes = bytes_between run.lo (last_of (take count (run ∷ runs))) r before above map.leaves less more in
    let value : candidate.value ≡ (last_of (take count (run ∷ runs)) + 1) / 8 + rest_cost rests count = ap (λ (m : Candidate). m.value) is.1.1 in
    let end : candidate.end ≡ at + count = ap (λ (m : Candidate). m.end) is.1.1 in
    (omega arith, (omega arith, omega arith), f.small candidate c)

-- the cost of the bitmap
bitmap_cost : (at r before count : ℕ) (run : Span) (runs : List Span) (rests : List ℕ) → IsRuns (run ∷ runs) → IsBitmapOf (run ∷ runs) r count
    → (r < run.lo % 8 → before ≡ run.lo / 8 + 1) → (run.lo % 8 ≤ r → before ≡ run.lo / 8)
    → Cell.cost (cell_with rests (run ∷ runs) (group_of Bitmap count)) + before ≡ 18 + Candidate.value (bitmap_candidate at (run ∷ runs) rests count)
bitmap_cost at r before count run runs rests rises map less more =
    let some : 0 < count = IsGroup.some (map.is_bitmap) in
    let above = last_above run.lo count (run ∷ runs) (omega arith, rises.1, rises.2) some (IsGroup.within (map.is_bitmap)) in
    let bytes = bytes_between run.lo (last_of (take count (run ∷ runs))) r before above map.leaves less more in
    let far : reach (take count (run ∷ runs)) ≡ last_of (take count (run ∷ runs)) - run.lo = reach_is run runs count some in
    let eighth : (reach (take count (run ∷ runs)) + 1) / 8 ≡ (last_of (take count (run ∷ runs)) - run.lo + 1) / 8 = ap (λ (n : ℕ). (n + 1) / 8) far in
    omega arith

bitmap_wins : (at r before count other : ℕ) (run : Span) (runs : List Span) (rests : List ℕ) (least : Candidate) → IsRuns (run ∷ runs) → IsBitmapOf (run ∷ runs) r count → IsBitmapOf (run ∷ runs) r other
    → (r < run.lo % 8 → before ≡ run.lo / 8 + 1) → (run.lo % 8 ≤ r → before ≡ run.lo / 8) → least ≡ bitmap_candidate at (run ∷ runs) rests count → IsFirstOf least (bitmap_candidate at (run ∷ runs) rests other)
    → Wins (cell_with rests (run ∷ runs) (group_of Bitmap count)) (cell_with rests (run ∷ runs) (group_of Bitmap other))
bitmap_wins at r before count other run runs rests least rises map it less more is first =
    let value : least.value ≡ Candidate.value (bitmap_candidate at (run ∷ runs) rests count) = ap (λ (m : Candidate). m.value) is in
    let position : least.position ≡ last_of (take count (run ∷ runs)) = ap (λ (m : Candidate). m.position) is in
    let one = bitmap_cost at r before count run runs rests rises map less more in
    let two = bitmap_cost at r before other run runs rests rises it less more in
    let farther : count < other → last_of (take count (run ∷ runs)) < last_of (take other (run ∷ runs)) =
    λ more. last_rises 0 count other (run ∷ runs) rises (IsGroup.some (map.is_bitmap)) more (IsGroup.within (it.is_bitmap)) in
    grind arith

pub bitmap_best : (candidates : List Candidate) (at r before : ℕ) (run : Span) (runs : List Span) (rests : List ℕ) (least : Candidate) (old cell best : Cell) → IsRuns (run ∷ runs)
    → IsFilled candidates (IsBitmapOf (run ∷ runs) r) (bitmap_candidate at (run ∷ runs) rests) → IsLeastOf candidates least → (r < run.lo % 8 → before ≡ run.lo / 8 + 1) → (run.lo % 8 ≤ r → before ≡ run.lo / 8)
    → IsCell rests (run ∷ runs) old → cell.cost ≡ 18 + (least.value - before) → cell.group ≡ group_of Bitmap (least.end - at)
    → (best ≡ old) ⊎ (best ≡ cell) → ((other : Cell) → Wins old other → Wins best other) → ((other : Cell) → Wins cell other → Wins best other)
    → IsBestOf rests (run ∷ runs) Bitmap (IsBitmapOf (run ∷ runs) r) old best
bitmap_best candidates at r before run runs rests least old cell best rises f l less more c cost group one first second =
    let all : List Span = run ∷ runs in
    let is = f.only least l.one in
    let count : ℕ = is.0 in
    let map : IsBitmapOf (run ∷ runs) r count = is.1.0 in
    let known = bitmap_is candidates at r before run runs rests least rises f l.one less more in
    let enough : before ≤ least.value = known.0 in
    let value : least.value ≡ Candidate.value (bitmap_candidate at (run ∷ runs) rests count) = ap (λ (m : Candidate). m.value) is.1.1 in
    let position : least.position ≡ last_of (take count (run ∷ runs)) = ap (λ (m : Candidate). m.position) is.1.1 in
    let end : least.end ≡ at + count = ap (λ (m : Candidate). m.end) is.1.1 in
    let counted : least.end - at ≡ count = omega arith in
    let priced = bitmap_cost at r before count run runs rests rises map less more in
    let costs : cell.cost ≡ Cell.cost (cell_with rests (run ∷ runs) (group_of Bitmap count)) = omega arith in
    let same : cell ≡ cell_with rests (run ∷ runs) (group_of Bitmap count) = same_cell cell (cell_with rests (run ∷ runs) (group_of Bitmap count)) costs (group ∙ ap (group_of Bitmap) counted) in
    let wins : (other : ℕ) → IsBitmapOf (run ∷ runs) r other → Wins (cell_with rests (run ∷ runs) (group_of Bitmap count)) (cell_with rests (run ∷ runs) (group_of Bitmap other)) =
    λ other it. bitmap_wins at r before count other run runs rests least rises map it less more is.1.1 (l.first (bitmap_candidate at (run ∷ runs) rests other) (f.all other it)) in
    one_better rests (run ∷ runs) Bitmap (IsBitmapOf (run ∷ runs) r) old cell best count c map.is_bitmap same wins one first second
