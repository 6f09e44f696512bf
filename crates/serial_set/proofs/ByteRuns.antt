-- The runs of a byte while its bits are read from the highest to the lowest.
use Rattle.serial_set.proofs.Common.{[], ◌*◌, ◌++◌, ◌+◌, ◌-◌, ◌<◌, ◌∙◌, ◌∷◌, ◌≡◌, ◌≤◌, ◌⊎◌, All, ap}
use Rattle.serial_set.proofs.Common.{append-nil, arith, BitNames, cases_eq, Covers, get_or}
use Rattle.serial_set.proofs.Common.{get_or-reverse, inl, inr, IsInStep, IsInterval, IsRuns}
use Rattle.serial_set.proofs.Common.{IsRunsOf, length, length-reverse, List, None, Option}
use Rattle.serial_set.proofs.Common.{option_to_list, reverse, reverse-append, RunsFrom, Some, Span}
use Rattle.serial_set.proofs.Common.{SpanCovers, subst, sym, ℕ}
use Rattle.serial_set.proofs.RisingLists.{RunsFrom-weaker, runs_at, names_at}
use Rattle.serial_set.proofs.Bits.{bit_below}

-- the pending run begins at n and the others rise after it; with none pending they rise from past n
abbrev pub OnFrom : ℕ → Option Span → List Span → Type 0
OnFrom n None rest = RunsFrom (n + 1) rest
OnFrom n (Some run) rest = (run.lo ≡ n) × (0 < run.lo) × RunsFrom n (run ∷ rest)

-- the bits from `bit` on are read
pub record SoFar (base byte : ℕ) (old : Option Span) (bit : ℕ) (pending : Option Span) (finished : List Span) (count : ℕ) : Type 0 where
  pub on : OnFrom (base + bit) pending (reverse finished)
  pub only : (s : ℕ) → Covers (option_to_list pending ++ reverse finished) s → Covers (option_to_list old) s ⊎ BitNames base byte s
  pub found : (s : ℕ) → Covers (option_to_list old) s ⊎ (BitNames base byte s × (base + bit ≤ s)) → Covers (option_to_list pending ++ reverse finished) s
  pub few : 2 * count + length (option_to_list pending) + bit ≤ 8 + length (option_to_list old)

pub one_at_most : (o : Option Span) → length (option_to_list o) ≤ 1
one_at_most None = omega arith
one_at_most (Some x) = omega arith

-- a run that is closed keeps its place in the list
pub closed-list : (p : Option Span) (f : List Span) → reverse (f ++ option_to_list p) ≡ option_to_list p ++ reverse f
closed-list None f = ap reverse (append-nil f)
closed-list (Some run) f = reverse-append f (run ∷ [])

OnFrom-start : (n : ℕ) (p : Option Span) → IsInStep n p → OnFrom n p []
OnFrom-start n None h = tt
OnFrom-start n (Some run) h = (h.0, h.1.0, (omega arith, h.1.1, tt))

OnFrom-closed : (n m : ℕ) (p : Option Span) (f : List Span) → n ≡ m + 1 → OnFrom n p (reverse f) → RunsFrom (m + 1) (option_to_list p ++ reverse f)
OnFrom-closed n m None f e h = RunsFrom-weaker (n + 1) (m + 1) (reverse f) (omega arith) h
OnFrom-closed n m (Some run) f e h = subst (λ a. RunsFrom a (run ∷ reverse f)) e h.2

pub SoFar-start : (base byte : ℕ) (old : Option Span) → byte < 256 → IsInStep (base + 8) old → SoFar base byte old 8 old [] 0
SoFar-start base byte old h step = record {
  on = OnFrom-start (base + 8) old step;
  only = λ s n. inl (subst (λ l. Covers l s) (append-nil (option_to_list old)) n);
  found = λ s n. subst (λ l. Covers l s) (sym (append-nil (option_to_list old))) (elim n [
    | inl before ↦ before
    | inr here ↦ absurd (omega (arith, bit_below byte 8 (s - base) h here.0.2))
  ]);
  few = omega arith;
}

pub SoFar-unset : (base byte : ℕ) (old : Option Span) (bit next : ℕ) (p : Option Span) (f : List Span) (count : ℕ) → bit ≡ next + 1 → (BitNames base byte (base + next) → ⊥) → SoFar base byte old bit p f count → SoFar base byte old next None (f ++ option_to_list p) (count + length (option_to_list p))
SoFar-unset base byte old bit next p f count e unset so = record {
  on = subst (RunsFrom (base + next + 1)) (sym (closed-list p f)) (OnFrom-closed (base + bit) (base + next) p f (omega arith) so.on);
  only = λ s n. so.only s (subst (λ l. Covers l s) (closed-list p f) n);
  found = λ s n. subst (λ l. Covers l s) (sym (closed-list p f)) (so.found s (elim n [
    | inl before ↦ inl before
    | inr here ↦ elim (cases_eq s (base + next)) [
      | inl same ↦ absurd (unset (subst (λ x. BitNames base byte x) same here.0))
      | inr other ↦ inr (here.0, omega arith)
    ]
  ]));
  few = omega (arith, so.few, one_at_most p);
}

-- ---- the whole byte

pub OnFrom-runs : (n : ℕ) (p : Option Span) (rest : List Span) → OnFrom n p rest → RunsFrom n (option_to_list p ++ rest)
OnFrom-runs n None rest r = RunsFrom-weaker (n + 1) n rest (omega arith) r
OnFrom-runs n (Some run) rest r = r.2

pub OnFrom-past : (n : ℕ) (p : Option Span) (rest : List Span) → OnFrom n p rest → RunsFrom (n + 1) rest
OnFrom-past n None rest r = r
OnFrom-past n (Some run) rest r = RunsFrom-weaker (run.hi + 2) (n + 1) rest (omega arith) r.2.2

pub whole_runs : (base byte : ℕ) (old p : Option Span) (f : List Span) (count : ℕ) → SoFar base byte old 0 p f count → IsRunsOf (option_to_list p ++ reverse f) (λ s. Covers (option_to_list old) s ⊎ BitNames base byte s)
whole_runs base byte old p f count so = (
  RunsFrom-weaker (base + 0) 0 _ (omega arith) (OnFrom-runs (base + 0) p (reverse f) so.on),
  λ s. (so.only s, λ n. so.found s (elim n [ inl before ↦ inl before | inr here ↦ inr (here, omega arith) ])),
)

-- a list read backwards rises from past n, so none of its spans has n in it
pub none_holds : (n : ℕ) (f : List Span) → RunsFrom (n + 1) (reverse f) → All (λ run. SpanCovers run n → ⊥) f
none_holds n f r k d h held =
    let len = length-reverse f in
    let turned : get_or (reverse f) (length f - 1 - k) d ≡ get_or f k d =
    get_or-reverse f (length f - 1 - k) d (omega arith) ∙ ap (λ i. get_or f i d) (omega arith) in
    let at = runs_at (n + 1) (reverse f) (length f - 1 - k) d r (omega arith) in
    let above : n + 1 ≤ (get_or f k d).lo = subst (λ (t : Span). n + 1 ≤ t.lo) turned at.0 in
    omega (arith, above, held.0)

pub step_positive : (n : ℕ) (old : Option Span) (s : ℕ) → IsInStep n old → Covers (option_to_list old) s → 0 < s
step_positive n None s h e = absurd e
step_positive n (Some run) s h e = let whole : 0 < run.lo = h.1.0 in elim e [ inl here ↦ omega arith | inr later ↦ absurd later ]

after_pending : (p : Option Span) (rest : List Span) → IsRuns (option_to_list p ++ rest) → IsRuns rest
after_pending None rest r = r
after_pending (Some run) rest r = RunsFrom-weaker (run.hi + 2) 0 rest (omega arith) r.2

named_after : (p : Option Span) (rest : List Span) (s : ℕ) → Covers rest s → Covers (option_to_list p ++ rest) s
named_after None rest s n = n
named_after (Some run) rest s n = inr n

pub finished_runs : (p : Option Span) (f : List Span) → IsRuns (option_to_list p ++ reverse f) → ((s : ℕ) → Covers (option_to_list p ++ reverse f) s → 0 < s) → All IsInterval f
finished_runs p f r positive k d h =
    let len = length-reverse f in
    let position = length f - 1 - k in
    let within : position < length (reverse f) = omega arith in
    let turned : get_or (reverse f) position d ≡ get_or f k d =
    get_or-reverse f position d (omega arith) ∙ ap (λ i. get_or f i d) (omega arith) in
    let rises = after_pending p (reverse f) r in
    let named = positive (get_or (reverse f) position d).lo (named_after p (reverse f) _ (names_at 0 (reverse f) position d rises within)) in
    subst IsInterval turned (named, (runs_at 0 (reverse f) position d rises within).1)
