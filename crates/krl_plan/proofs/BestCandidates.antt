-- The best of a cell and of others, and the best of all sorts.
use Rattle.krl_plan.proofs.Common.{◌+◌, ◌<◌, ◌∙◌, ◌≡◌, ◌≤◌, ◌⊎◌, ap, arith, Bitmap, Cell, cell_with}
use Rattle.krl_plan.proofs.Common.{Group, inl, inr, IsBest, IsBestOf, IsBitmap, IsCell, IsGroup}
use Rattle.krl_plan.proofs.Common.{length, length-take-le, List, Range, refl, rest_cost, Serials}
use Rattle.krl_plan.proofs.Common.{Sort, Span, subst, sym, take, Wins, ℕ}
use Rattle.krl_plan.specs.Lists.{IsList}

abbrev pub group_of : Sort → ℕ → Group
group_of sort count = record { sort = sort; count = count }

wins_itself : (cell : Cell) → Wins cell cell
wins_itself cell = inr (refl, inr (refl, omega arith))

pub same_cell : (a b : Cell) → a.cost ≡ b.cost → a.group ≡ b.group → a ≡ b
same_cell a b cost group =
    let made : ℕ → Group → Cell = λ c g. record { cost = c; group = g } in
    ap (λ (c : ℕ). made c a.group) cost ∙ ap (made b.cost) group

-- one more cell, which wins against all that it represents
pub one_better : (rests : List ℕ) (runs : List Span) (sort : Sort) (Is : ℕ → Type 0) (old cell best : Cell) (count : ℕ) → IsCell rests runs old → IsGroup runs (group_of sort count)
    → cell ≡ cell_with rests runs (group_of sort count) → ((other : ℕ) → Is other → Wins (cell_with rests runs (group_of sort count)) (cell_with rests runs (group_of sort other)))
    → (best ≡ old) ⊎ (best ≡ cell) → ((other : Cell) → Wins old other → Wins best other) → ((other : Cell) → Wins cell other → Wins best other) → IsBestOf rests runs sort Is old best
one_better rests runs sort Is old cell best count c g is wins one first second =
    let fresh : IsCell rests runs cell = subst (λ (x : Cell). IsCell rests runs x) (sym is) (record { is_group = g; cost_is = refl }) in
    record {
      is_cell = elim one [
        | inl e ↦ subst (λ (x : Cell). IsCell rests runs x) (sym e) c
        | inr e ↦ subst (λ (x : Cell). IsCell rests runs x) (sym e) fresh
      ];
      kept = first;
      beats = λ other it. second (cell_with rests runs (group_of sort other)) (subst (λ (x : Cell). Wins x (cell_with rests runs (group_of sort other))) (sym is) (wins other it));
    }

pub best_of_all : (rests : List ℕ) (runs : List Span) (start listed best : Cell) → 0 < length runs → start ≡ cell_with rests runs (group_of Range 1)
    → (IsCell rests runs start → IsBestOf rests runs Serials (IsList runs) start listed) → (IsCell rests runs listed → IsBestOf rests runs Bitmap (IsBitmap runs) listed best) → IsBest rests runs best
best_of_all rests runs start listed best some is lists bitmaps =
    let range : Cell = cell_with rests runs (group_of Range 1) in
    let group : IsGroup runs (group_of Range 1) = record { some = omega arith; within = omega arith; allowed = length-take-le 1 runs (omega arith) } in
    let ranged : IsCell rests runs start = subst (λ (x : Cell). IsCell rests runs x) (sym is) (record { is_group = group; cost_is = refl }) in
    let by_lists = lists ranged in
    let by_bitmaps = bitmaps by_lists.is_cell in
    let ranges : Wins best range = by_bitmaps.kept range (by_lists.kept range (subst (λ (x : Cell). Wins start x) is (wins_itself start))) in
    let one : (sort : Sort) (count : ℕ) → IsGroup runs (group_of sort count) → Wins best (cell_with rests runs (group_of sort count)) =
    λ sort. elim sort as (λ s. (count : ℕ) → IsGroup runs (group_of s count) → Wins best (cell_with rests runs (group_of s count))) [
      | Serials ↦ λ count g. by_bitmaps.kept (cell_with rests runs (group_of Serials count)) (by_lists.beats count g)
      | Range ↦ λ count g.
          let single : length (take count runs) ≡ 1 = IsGroup.allowed g in
          let len = length-take-le count runs (IsGroup.within g) in
          let e : count ≡ 1 = omega arith in
          subst (λ (n : ℕ). Wins best (cell_with rests runs (group_of Range n))) (sym e) ranges
      | Bitmap ↦ λ count g. by_bitmaps.beats count g
    ] in
    record { is_cell = by_bitmaps.is_cell; wins = λ g is. one g.sort g.count is }

-- the best group costs no more than a range before the rest
pub best_bounded : (rests : List ℕ) (runs : List Span) (best : Cell) → 0 < length runs → IsBest rests runs best → best.cost ≤ 21 + rest_cost rests 1
best_bounded rests runs best some b =
    let group : IsGroup runs (group_of Range 1) = record { some = omega arith; within = omega arith; allowed = length-take-le 1 runs (omega arith) } in
    elim (b.wins (group_of Range 1) group) [ inl lt ↦ omega arith | inr tie ↦ omega arith ]
