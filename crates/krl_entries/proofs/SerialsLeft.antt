-- The runs that are left of a set, piece by piece.
use Rattle.krl_entries.proofs.Common.{[], ◌++◌, ◌∙◌, ◌∷◌, ◌<◌, ◌≡◌, ◌≤◌, All, ap, AreSerials, arith, Covers}
use Rattle.krl_entries.proofs.Common.{All-cons, ◌+◌, drop, inl, inr, IsRuns, length, List, Option}
use Rattle.krl_entries.proofs.Common.{Some, Span, subst, sym, take-append-drop, ℕ}
use Rattle.std.proofs.Common.{max, slice_get}
use Rattle.std.proofs.lemmas.List.{drop_all}
use Rattle.std.proofs.lemmas.List.Elements.{All-nil, All-take}
use Rattle.std.proofs.lemmas.Option.{none-some, same_Some}
use Rattle.std.specs.Iterator.{item_count, MakesProgress}
use Rattle.serial_set.specs.BitRuns.{IsInterval}
use Rattle.serial_set.specs.Iteration.{IsPiece, left, next_of, since}
use Rattle.serial_set.specs.Span.{RunsFrom}
use Rattle.serial_set.proofs.RunIteration.{iteration_continues, since_runs, since_same, since_to}

-- each run of a piece is an interval
intervals : (a : ℕ) (spans : List Span) → RunsFrom a spans → ((s : ℕ) → Covers spans s → 0 < s) → All IsInterval spans
intervals a [] runs above = All-nil IsInterval
intervals a (x ∷ xs) runs above =
    All-cons IsInterval x xs (above x.lo (inl (omega arith, runs.1)), runs.1) (intervals (x.hi + 2) xs runs.2 (λ s h. above s (inr h)))

pub piece_intervals : (spans piece : List Span) (n : ℕ) → IsRuns spans → AreSerials spans → IsPiece spans n piece → All IsInterval piece
piece_intervals spans piece n runs serials is =
    subst (All IsInterval) (sym is.front) (All-take IsInterval (length piece) (since n spans)
    (intervals (max 0 n) (since n spans) (since_runs 0 n spans runs) (λ s h. (serials s (since_to 0 n spans s runs h).0).0)))

-- what is left from a number on is the piece there and what is left after it
pub spans_left : (spans piece : List Span) (n : ℕ) (before next : Option ℕ) → IsRuns spans → AreSerials spans → before ≡ Some n → IsPiece spans n piece → next ≡ next_of piece
    → left before spans ≡ piece ++ left next spans
spans_left spans piece n before next runs serials at is then =
    let k = length piece in
    let rest : left next spans ≡ drop k (since n spans) = ap (λ (o : Option ℕ). left o spans) then ∙ iteration_continues spans piece n runs serials is in
    ap (λ (o : Option ℕ). left o spans) at ∙ sym (take-append-drop k (since n spans)) ∙ ap (λ (xs : List Span). xs ++ drop k (since n spans)) (sym is.front)
    ∙ ap (λ (xs : List Span). piece ++ xs) (sym rest)

-- where a piece is used up, the first run of the next piece comes, and then its others
pub fetched : (spans old piece : List Span) (at n : ℕ) (before next : Option ℕ) (first : Span) → IsRuns spans → AreSerials spans → length old ≤ at → before ≡ Some n → IsPiece spans n piece → next ≡ next_of piece → slice_get piece 0 ≡ Some first
    → drop at old ++ left before spans ≡ first ∷ (drop 1 piece ++ left next spans)
fetched spans old [] at n before next first runs serials used then is on f = absurd (none-some first f)
fetched spans old (x ∷ xs) at n before next first runs serials used then is on f =
    ap (λ (l : List Span). l ++ left before spans) (drop_all at old used) ∙ spans_left spans (x ∷ xs) n before next runs serials then is on
    ∙ ap (λ (s : Span). s ∷ (xs ++ left next spans)) (same_Some x first f)

-- at first all runs are left
pub all_left : (spans none : List Span) → IsRuns spans → none ≡ [] → drop 0 none ++ left (Some 0) spans ≡ spans
all_left spans none runs is = ap (λ (l : List Span). drop 0 l ++ left (Some 0) spans) is ∙ since_same 0 spans runs

-- a call that gave the first of what was left made progress
pub progress : {S A B : Type 0} (rest : S → List B) (can : S → Type 0) → ((s : S) → can s) → (s t : S) (x : A) (y : B) → rest s ≡ y ∷ rest t → MakesProgress can (item_count rest) s (Some x) t
progress rest can always s t x y e = record {
  on = λ _. (always t, tt, subst (λ l. length (rest t) < length l) (sym e) (omega arith));
  keeps = always t;
  rests = λ _. tt;
}
