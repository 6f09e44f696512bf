-- Serial numbers that some spans cover and others do not, one part after another.
use Rattle.list_diff.proofs.Common.{[], ◌++◌, ◌+◌, ◌<◌, ◌∷◌, ◌≡◌, ◌↔◌, ◌⊎◌, AreSerials, Covers}
use Rattle.list_diff.proofs.Common.{drop, get_or, inl, inr, IsRuns, length, List, LostBetween}
use Rattle.list_diff.proofs.Common.{LostSerial, Option, Revocations, SerialWith, Some, Span, subst, sym, ℕ}
use Rattle.list_diff.proofs.Gains.{Owes, owes_all}
use Rattle.list_diff.proofs.Searches.{run_at}
use Rattle.krl_entries.proofs.SerialsLeft.{spans_left}
use Rattle.serial_set.proofs.RisingLists.{covers_append}
use Rattle.serial_set.proofs.RunIteration.{since_same}
use Rattle.serial_set.specs.Iteration.{IsPiece, left, next_of}

-- the numbers of the first span, and of the others
lost_span : (span : Span) (spans others : List Span) (s : ℕ) → LostSerial (span ∷ spans) others s ↔ (LostBetween span.lo span.hi others s ⊎ LostSerial spans others s)
lost_span span spans others s = (
  λ h. elim h.0 [ inl here ↦ inl (here, h.1) | inr later ↦ inr (later, h.1) ],
  λ h. elim h [ inl here ↦ (inl here.0, here.1) | inr later ↦ (inr later.0, later.1) ],
)

-- the numbers of some spans, and of those after them
lost_spans : (spans rest all others : List Span) → all ≡ spans ++ rest → (s : ℕ) → LostSerial all others s ↔ (LostSerial spans others s ⊎ LostSerial rest others s)
lost_spans spans rest all others is s = (
  λ h. elim ((covers_append spans rest s).0 (subst (λ (l : List Span). Covers l s) is h.0)) [ inl here ↦ inl (here, h.1) | inr later ↦ inr (later, h.1) ],
  λ h. elim h [
    | inl here ↦ (subst (λ (l : List Span). Covers l s) (sym is) ((covers_append spans rest s).1 (inl here.0)), here.1)
    | inr later ↦ (subst (λ (l : List Span). Covers l s) (sym is) ((covers_append spans rest s).1 (inr later.0)), later.1)
  ],
)

-- the numbers of a piece, and of those after it
pub lost_piece : (spans piece others : List Span) (n : ℕ) (before next : Option ℕ) → IsRuns spans → AreSerials spans → before ≡ Some n → IsPiece spans n piece → next ≡ next_of piece → (s : ℕ)
    → LostSerial (left before spans) others s ↔ (LostSerial piece others s ⊎ LostSerial (left next spans) others s)
lost_piece spans piece others n before next runs serials at is then s =
    lost_spans piece (left next spans) (left before spans) others (spans_left spans piece n before next runs serials at is then) s

-- everything is left at first
pub owes_start : (first : Revocations) (a : List ℕ) (spans others : List Span) → IsRuns spans
    → Owes first (SerialWith a (LostSerial spans others)) first (SerialWith a (LostSerial (left (Some 0) spans) others))
owes_start first a spans others runs =
    subst (λ (l : List Span). Owes first (SerialWith a (LostSerial spans others)) first (SerialWith a (LostSerial l others))) (sym (since_same 0 spans runs)) (owes_all first (SerialWith a (LostSerial spans others)))

-- the span at an index, and those after it
pub lost_at : (spans others : List Span) (i : ℕ) (d : Span) → i < length spans → (s : ℕ)
    → LostSerial (drop i spans) others s ↔ (LostBetween (get_or spans i d).lo (get_or spans i d).hi others s ⊎ LostSerial (drop (i + 1) spans) others s)
lost_at spans others i d lt s =
    subst (λ (l : List Span). LostSerial l others s ↔ (LostBetween (get_or spans i d).lo (get_or spans i d).hi others s ⊎ LostSerial (drop (i + 1) spans) others s))
    (sym (run_at spans i d lt)) (lost_span (get_or spans i d) (drop (i + 1) spans) others s)

pub none_lost : (others : List Span) (s : ℕ) → LostSerial [] others s → ⊥
none_lost others s h = h.0
