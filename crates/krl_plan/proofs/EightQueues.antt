-- The queues of bitmaps, one for each remainder, after one more run.
use Rattle.krl_plan.proofs.Common.{◌%◌, ◌+◌, ◌/◌, ◌<◌, ◌^◌, ◌∙◌, ◌∷◌, ◌≡◌, ap, arith}
use Rattle.krl_plan.proofs.Common.{bitmap_candidate, Candidate, cases_eq, Forgets, get_or}
use Rattle.krl_plan.proofs.Common.{get_or-set_other, get_or-set_same, inl, inr, IsBitmapOf}
use Rattle.krl_plan.proofs.Common.{IsFilled, IsRuns, length, length-set, List, MonotonicQueue}
use Rattle.krl_plan.proofs.Common.{Pushes, set, Span, subst, sym, ℕ}
use Rattle.krl_plan.proofs.BitmapCandidates.{IsLonger, bitmap_forgot, bitmap_kept, bitmap_pushed}

-- each queue has the bitmaps of its remainder
abbrev pub AreFilled : List MonotonicQueue → ℕ → List Span → List ℕ → Type 0
AreFilled queues at runs rests =
    (r : ℕ) (d : MonotonicQueue) → r < 8 → IsFilled (get_or queues r d).candidates.items (IsBitmapOf runs r) (bitmap_candidate at runs rests)

-- the run's own queue takes its candidate
ahead : (old : List MonotonicQueue) (was new : MonotonicQueue) (candidate : Candidate) (at rest : ℕ) (run : Span) (runs : List Span) (rests : List ℕ) → length old ≡ 8 → AreFilled old (at + 1) runs rests
    → Pushes candidate (get_or old ((run.hi + 1) % 8) was).candidates.items new.candidates.items → candidate.position ≡ run.hi → candidate.value ≡ (run.hi + 1) / 8 + rest → candidate.end ≡ at + 1 → candidate.value < 2 ^ 101
    → (r : ℕ) (d : MonotonicQueue) → r < 8 → IsFilled (get_or (set old ((run.hi + 1) % 8) new) r d).candidates.items (IsLonger run runs r) (bitmap_candidate at (run ∷ runs) (rest ∷ rests))
ahead old was new candidate at rest run runs rests len filled p position value end fits r d lt =
    let own : ℕ = (run.hi + 1) % 8 in
    let Ahead : MonotonicQueue → Type 0 = λ w. IsFilled w.candidates.items (IsLonger run runs r) (bitmap_candidate at (run ∷ runs) (rest ∷ rests)) in
    elim (cases_eq own r) [
      | inl e ↦
          let there : get_or (set old own new) r d ≡ new = ap (λ (k : ℕ). get_or (set old own new) k d) (sym e) ∙ get_or-set_same old own new d (omega arith) in
          let before : IsFilled (get_or old own was).candidates.items (IsBitmapOf runs r) (bitmap_candidate (at + 1) runs rests) =
          subst (λ (k : ℕ). IsFilled (get_or old k was).candidates.items (IsBitmapOf runs r) (bitmap_candidate (at + 1) runs rests)) (sym e) (filled r was lt) in
          subst Ahead (sym there) (bitmap_pushed (get_or old own was).candidates.items new.candidates.items candidate at rest r run runs rests before p e position value end fits)
      | inr other ↦
          let there : get_or (set old own new) r d ≡ get_or old r d = get_or-set_other old own r new d (λ e. other (sym e)) in
          subst Ahead (sym there) (bitmap_kept (get_or old r d).candidates.items at rest r run runs rests (filled r d lt) other)
    ]

pub queues_more : (old new : List MonotonicQueue) (was own : MonotonicQueue) (candidate : Candidate) (at rest : ℕ) (run : Span) (runs : List Span) (rests : List ℕ) → length old ≡ 8 → IsRuns (run ∷ runs)
    → AreFilled old (at + 1) runs rests → Pushes candidate (get_or old ((run.hi + 1) % 8) was).candidates.items own.candidates.items
    → ((k : ℕ) (d : MonotonicQueue) → k < length (set old ((run.hi + 1) % 8) own) → Forgets (run.lo + 2047) (get_or (set old ((run.hi + 1) % 8) own) k d).candidates.items (get_or new k d).candidates.items)
    → candidate.position ≡ run.hi → candidate.value ≡ (run.hi + 1) / 8 + rest → candidate.end ≡ at + 1 → candidate.value < 2 ^ 101 → AreFilled new at (run ∷ runs) (rest ∷ rests)
queues_more old new was own candidate at rest run runs rests len rises filled p g position value end fits r d lt =
    let same = length-set old ((run.hi + 1) % 8) own in
    bitmap_forgot (get_or (set old ((run.hi + 1) % 8) own) r d).candidates.items (get_or new r d).candidates.items at r run runs (rest ∷ rests) rises
    (ahead old was own candidate at rest run runs rests len filled p position value end fits r d lt) (g r d (omega arith))
