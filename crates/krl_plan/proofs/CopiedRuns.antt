-- Runs that are copied from a set, and the numbers at which its batches begin.
use Rattle.krl_plan.proofs.Common.{[], ◌*◌, ◌++◌, ◌+◌, ◌<◌, ◌∙◌, ◌∷◌, ◌≡◌, ◌≤◌, ap, append-nil}
use Rattle.krl_plan.proofs.Common.{append_assoc, AreSerials, arith, BeginBatches, cases_lt}
use Rattle.krl_plan.proofs.Common.{common_steps, Copies, drop, drop-append-le, drop-drop, drop_all}
use Rattle.krl_plan.proofs.Common.{get_or_append_left, get_or_push, inl, inr, IsPiece, IsRuns, left}
use Rattle.krl_plan.proofs.Common.{length, length-take, length-take-le, length_push, List, next_of}
use Rattle.krl_plan.proofs.Common.{Option, since, Some, Span, steps, subst, sym, take}
use Rattle.krl_plan.proofs.Common.{take-append-drop, take-append-le, take_all, iteration_ends, iteration_continues}
use Rattle.krl_plan.proofs.Common.{ℕ}
use Rattle.krl_plan.proofs.ChosenGroups.{IsRuns-drop}

-- ---- copies

-- a piece, and what an iteration has left after it
piece_then : (spans piece : List Span) (n : ℕ) → IsRuns spans → AreSerials spans → IsPiece spans n piece → piece ++ left (next_of piece) spans ≡ since n spans
piece_then spans piece n r fits p =
    ap (λ (l : List Span). piece ++ l) (iteration_continues spans piece n r fits p) ∙ ap (λ (l : List Span). l ++ drop (length piece) (since n spans)) p.front
    ∙ take-append-drop (length piece) (since n spans)

pub copied_more : (spans old new piece whole : List Span) (n : ℕ) (before next : Option ℕ) → IsRuns spans → AreSerials spans → IsPiece spans n piece → before ≡ Some n → next ≡ next_of piece
    → new ≡ old ++ piece → old ++ left before spans ≡ whole → new ++ left next spans ≡ whole
copied_more spans old new piece whole n before next r fits p b m e w = grind (arith, common_steps, append_assoc, piece_then)

-- if `count` runs are left, `count` are copied, and they are the first
copied_enough : (spans old new : List Span) (count : ℕ) (from next : Option ℕ) → Copies spans count from old new next → count ≤ length (old ++ left from spans) → count ≤ length new
copied_enough spans old new count from next c le = grind (arith, common_steps, append-nil)

pub copied_first : (spans old new : List Span) (count : ℕ) (from next : Option ℕ) → Copies spans count from old new next → count ≤ length (old ++ left from spans)
    → (count ≤ length new) × (take count new ≡ take count (old ++ left from spans)) × (drop count new ++ left next spans ≡ drop count (old ++ left from spans))
copied_first spans old new count from next c le =
    let enough = copied_enough spans old new count from next c le in (
      enough,
      sym (take-append-le count new (left next spans) enough) ∙ ap (take count) c.same,
      sym (drop-append-le count new (left next spans) enough) ∙ ap (drop count) c.same,
    )

pub copied_batch : (spans old new : List Span) (count n : ℕ) (next : Option ℕ) → old ≡ [] → Copies spans count (Some n) old new next → take count new ≡ take count (since n spans)
copied_batch spans old new count n next e c = grind (arith, common_steps, append-nil, take-append-le)

-- ---- batches

drop_taken : (n : ℕ) (xs : List Span) → drop (length (take n xs)) xs ≡ drop n xs
drop_taken n xs = grind (arith, common_steps, drop_all, length-take-le, take_all)

batch_piece : (spans batch : List Span) (n : ℕ) → batch ≡ take 1024 (since n spans) → IsPiece spans n batch
batch_piece spans batch n e =
    let size = ap length e ∙ length-take 1024 (since n spans) in
    record {
      some = λ h. omega arith;
      front = elim (cases_lt (length (since n spans)) 1024) [
        | inl lt ↦ (let all = e ∙ take_all 1024 (since n spans) (omega arith) in all ∙ sym (take_all (length batch) (since n spans) (omega (arith, ap length all))))
        | inr le ↦ (let full : 1024 ≡ length batch = omega arith in e ∙ ap (λ (k : ℕ). take k (since n spans)) full)
      ];
    }

pub batch_ends : (spans batch : List Span) (n : ℕ) → IsRuns spans → AreSerials spans → batch ≡ take 1024 (since n spans) → steps (next_of batch) spans < steps (Some n) spans
batch_ends spans batch n r fits e = iteration_ends spans batch n r fits (batch_piece spans batch n e)

-- after a batch the iteration continues at the next
pub batch_passed : (spans batch : List Span) (starts : List ℕ) (n : ℕ) → IsRuns spans → AreSerials spans → batch ≡ take 1024 (since n spans) → since n spans ≡ drop (1024 * length starts) spans
    → left (next_of batch) spans ≡ drop (1024 * length (starts ++ n ∷ [])) spans
batch_passed spans batch starts n r fits e at =
    let next : 1024 * length starts + 1024 ≡ 1024 * length (starts ++ n ∷ []) = omega (arith, length_push starts n) in
    iteration_continues spans batch n r fits (batch_piece spans batch n e) ∙ ap (λ (l : List Span). drop (length l) (since n spans)) e ∙ drop_taken 1024 (since n spans)
    ∙ ap (drop 1024) at ∙ drop-drop 1024 (1024 * length starts) spans ∙ ap (λ (k : ℕ). drop k spans) next

pub starts_more : (spans : List Span) (starts : List ℕ) (n : ℕ) → BeginBatches spans starts → since n spans ≡ drop (1024 * length starts) spans → BeginBatches spans (starts ++ n ∷ [])
starts_more spans starts n begin at = grind (arith, common_steps, get_or_append_left, get_or_push, length_push)

starts_pop : (spans : List Span) (starts rest : List ℕ) (n : ℕ) → starts ≡ rest ++ n ∷ [] → BeginBatches spans starts → BeginBatches spans rest × (since n spans ≡ drop (1024 * length rest) spans)
starts_pop spans starts rest n e begin = grind (arith, common_steps, get_or_append_left, get_or_push, length_push)

-- the last batch, followed by the runs after it
pub last_batch : (spans batch : List Span) (starts rest : List ℕ) (n : ℕ) → IsRuns spans → starts ≡ rest ++ n ∷ [] → BeginBatches spans starts → batch ≡ take 1024 (since n spans)
    → BeginBatches spans rest × IsRuns (batch ++ drop (1024 * length starts) spans) × (batch ++ drop (1024 * length starts) spans ≡ drop (1024 * length rest) spans)
last_batch spans batch starts rest n r e begin is =
    let pop = starts_pop spans starts rest n e begin in
    let from : List Span = drop (1024 * length rest) spans in
    let next : 1024 * length starts ≡ 1024 * length rest + 1024 = omega (arith, ap length e, length_push rest n) in
    let then : batch ++ drop (1024 * length starts) spans ≡ from =
    ap (λ (k : ℕ). batch ++ drop k spans) next ∙ ap (λ (l : List Span). batch ++ l) (sym (drop-drop 1024 (1024 * length rest) spans))
    ∙ ap (λ (l : List Span). l ++ drop 1024 from) (is ∙ ap (take 1024) pop.1) ∙ take-append-drop 1024 from in
    (pop.0, subst IsRuns (sym then) (IsRuns-drop 0 (1024 * length rest) spans r), then)
