-- Whether a rising list covers a number, decided by the first span that does not end before it.
use Rattle.span_vec.proofs.Common.{[], ◌++◌, ◌+◌, ◌<◌, ◌∙◌, ◌∷◌, ◌≡◌, ◌≤◌, All, All-head, All-tail}
use Rattle.span_vec.proofs.Common.{All-weaker, ap, arith, Covers, drop, drop_more, get_or, inl}
use Rattle.span_vec.proofs.Common.{inr, IsRuns, length, List, max, names_append, names_from}
use Rattle.span_vec.proofs.Common.{names_right, runs_middle, RunsFrom, Span, subst, sym, take}
use Rattle.span_vec.proofs.Common.{take-append-drop, take_all, ℕ}

pub none_below : (xs : List Span) (s : ℕ) → All (λ t. t.hi < s) xs → Covers xs s → ⊥
none_below [] s below n = n
none_below (x ∷ xs) s below n =
    let at : x.hi < s = All-head (λ t. t.hi < s) x xs below in
    elim n [ inl here ↦ omega arith | inr later ↦ none_below xs s (All-tail (λ t. t.hi < s) x xs below) later ]

pub asked_at : (xs : List Span) (s i : ℕ) (x : Span) → IsRuns xs → i < length xs → All (λ t. t.hi < s) (take i xs) → All (λ t. s ≤ t.hi) (drop i xs) → x ≡ get_or xs i x → (x.lo ≤ s → Covers xs s) × (Covers xs s → x.lo ≤ s)
asked_at xs s i x runs h below from at =
    let first : drop i xs ≡ x ∷ drop (i + 1) xs = drop_more xs i x h ∙ ap (λ t. t ∷ drop (i + 1) xs) (sym at) in
    let parts : take i xs ++ x ∷ drop (i + 1) xs ≡ xs = ap (λ l. take i xs ++ l) (sym first) ∙ take-append-drop i xs in
    let end : s ≤ x.hi = All-head (λ t. s ≤ t.hi) x (drop (i + 1) xs) (subst (All (λ t. s ≤ t.hi)) first from) in
    let later = runs_middle 0 (take i xs) x (drop (i + 1) xs) (subst (RunsFrom 0) (sym parts) runs) in (
      λ begin. subst (λ l. Covers l s) parts (names_right (take i xs) (x ∷ drop (i + 1) xs) s (inl (begin, end))),
      λ n. elim (names_append (take i xs) (x ∷ drop (i + 1) xs) s (subst (λ l. Covers l s) (sym parts) n)) [
        | inl l ↦ absurd (none_below (take i xs) s below l)
        | inr r ↦ elim r [ inl here ↦ here.0 | inr q ↦ absurd (omega (arith, names_from (x.hi + 2) (drop (i + 1) xs) s later.1 q)) ]
      ],
    )

pub asked_past : (xs : List Span) (s i : ℕ) → length xs ≤ i → All (λ t. t.hi < s) (take i xs) → Covers xs s → ⊥
asked_past xs s i h below n = none_below xs s (subst (All (λ t. t.hi < s)) (take_all i xs h) below) n

-- if the first span that does not end before `lo` begins past `hi`, no number from `lo` to `hi` is covered
pub meets_none : (xs : List Span) (lo hi s i : ℕ) (x : Span) → IsRuns xs → i < length xs → All (λ t. t.hi < lo) (take i xs) → x ≡ get_or xs i x → hi < x.lo → lo ≤ s → s ≤ hi → Covers xs s → ⊥
meets_none xs lo hi s i x runs h below at past le to n =
    let first : drop i xs ≡ x ∷ drop (i + 1) xs = drop_more xs i x h ∙ ap (λ t. t ∷ drop (i + 1) xs) (sym at) in
    let parts : take i xs ++ x ∷ drop (i + 1) xs ≡ xs = ap (λ l. take i xs ++ l) (sym first) ∙ take-append-drop i xs in
    let later = runs_middle 0 (take i xs) x (drop (i + 1) xs) (subst (RunsFrom 0) (sym parts) runs) in
    elim (names_append (take i xs) (x ∷ drop (i + 1) xs) s (subst (λ l. Covers l s) (sym parts) n)) [
      | inl l ↦ none_below (take i xs) s (All-weaker (λ (t : Span). t.hi < lo) (λ (t : Span). t.hi < s) (λ t k. omega arith) (take i xs) below) l
      | inr r ↦ elim r [ inl here ↦ absurd (omega (arith, here.0)) | inr q ↦ absurd (omega (arith, later.0, names_from (x.hi + 2) (drop (i + 1) xs) s later.1 q)) ]
    ]

pub meets_past : (xs : List Span) (lo s i : ℕ) → length xs ≤ i → All (λ t. t.hi < lo) (take i xs) → lo ≤ s → Covers xs s → ⊥
meets_past xs lo s i h below le n = none_below xs s (All-weaker (λ (t : Span). t.hi < lo) (λ (t : Span). t.hi < s) (λ t k. omega arith) xs (subst (All (λ t. t.hi < lo)) (take_all i xs h) below)) n

-- if it begins at or before `hi`, the larger of its begin and `lo` is covered
pub meets_some : (xs : List Span) (lo s i : ℕ) (x : Span) → IsRuns xs → i < length xs → All (λ t. lo ≤ t.hi) (drop i xs) → x ≡ get_or xs i x → s ≡ max x.lo lo → Covers xs s
meets_some xs lo s i x runs h from at is =
    let first : drop i xs ≡ x ∷ drop (i + 1) xs = drop_more xs i x h ∙ ap (λ t. t ∷ drop (i + 1) xs) (sym at) in
    let parts : take i xs ++ x ∷ drop (i + 1) xs ≡ xs = ap (λ l. take i xs ++ l) (sym first) ∙ take-append-drop i xs in
    let end : lo ≤ x.hi = All-head (λ t. lo ≤ t.hi) x (drop (i + 1) xs) (subst (All (λ t. lo ≤ t.hi)) first from) in
    let later = runs_middle 0 (take i xs) x (drop (i + 1) xs) (subst (RunsFrom 0) (sym parts) runs) in
    let whole : x.lo ≤ x.hi = later.0 in
    subst (λ l. Covers l s) parts (names_right (take i xs) (x ∷ drop (i + 1) xs) s (inl (omega arith, omega arith)))
