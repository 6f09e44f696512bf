-- A span that is put after runs, touching the last of them or past it.
use Rattle.serial_set.proofs.Common.{[], ◌++◌, ◌+◌, ◌<◌, ◌↔◌, ◌∷◌, ◌≡◌, ◌≤◌, ◌⊎◌, AddsSpan, All}
use Rattle.serial_set.proofs.Common.{All-nil, arith, cases_lt, Covers, inl, inr, IsRuns, List}
use Rattle.serial_set.proofs.Common.{RunsFrom, Span, subst, sym, ℕ}
use Rattle.serial_set.proofs.RisingLists.{names_append, names_left, names_right, runs_apart}
use Rattle.serial_set.proofs.RisingLists.{runs_front, runs_join, runs_middle}

-- the end of a list changes by the numbers of a span
pub adds_end : (old new front xs ys : List Span) (a lo hi : ℕ) → old ≡ front ++ xs → new ≡ front ++ ys → IsRuns old → All (λ t. t.hi + 2 ≤ a) front → RunsFrom a ys → ((s : ℕ) → Covers ys s ↔ (Covers xs s ⊎ ((lo ≤ s) × (s ≤ hi)))) → AddsSpan old lo hi new
adds_end old new front xs ys a lo hi was is r below rise same =
    let before = runs_front 0 front xs (subst IsRuns was r) in (
      subst IsRuns (sym is) (runs_join 0 a front ys (omega arith) before below rise),
      λ s. (
        λ n. elim (names_append front ys s (subst (λ l. Covers l s) is n)) [
          | inl early ↦ inl (subst (λ l. Covers l s) (sym was) (names_left front xs s early))
          | inr late ↦ elim ((same s).0 late) [
            | inl old ↦ inl (subst (λ l. Covers l s) (sym was) (names_right front xs s old))
            | inr added ↦ inr added
          ]
        ],
        λ m. subst (λ l. Covers l s) (sym is) (elim m [
          | inl n ↦ elim (names_append front xs s (subst (λ l. Covers l s) was n)) [
            | inl early ↦ names_left front ys s early
            | inr late ↦ names_right front ys s ((same s).1 (inl late))
          ]
          | inr added ↦ names_right front ys s ((same s).1 (inr added))
        ]),
      ),
    )

pub joined_first : (old new : List Span) (lo hi : ℕ) → old ≡ [] → new ≡ record { lo = lo; hi = hi } ∷ [] → lo ≤ hi → AddsSpan old lo hi new
joined_first old new lo hi none is h =
    adds_end old new [] [] (record { lo = lo; hi = hi } ∷ []) 0 lo hi none is (subst IsRuns (sym none) tt) (All-nil (λ t. t.hi + 2 ≤ 0)) (omega arith, h, tt)
    (λ s. (λ n. elim n [ inl here ↦ inr here | inr none ↦ absurd none ], λ m. elim m [ inl none ↦ absurd none | inr here ↦ inl here ]))

-- the last of the runs ends below what is past all of them
pub ends_below : (old front : List Span) (last : Span) (lo : ℕ) → old ≡ front ++ last ∷ [] → IsRuns old → ((s : ℕ) → Covers old s → s < lo) → last.hi < lo
ends_below old front last lo was r past = past last.hi (subst (λ l. Covers l last.hi) (sym was) (names_right front (last ∷ []) last.hi (inl ((runs_middle 0 front last [] (subst IsRuns was r)).0, omega arith))))

pub joined_last : (old new front : List Span) (last : Span) (lo hi : ℕ) → old ≡ front ++ last ∷ [] → new ≡ front ++ record { lo = last.lo; hi = hi } ∷ [] → IsRuns old → last.hi + 1 ≡ lo → lo ≤ hi → AddsSpan old lo hi new
joined_last old new front last lo hi was is r touch h =
    let runs = subst IsRuns was r in
    let whole = (runs_middle 0 front last [] runs).0 in
    adds_end old new front (last ∷ []) (record { lo = last.lo; hi = hi } ∷ []) last.lo lo hi was is r (runs_apart 0 front last [] runs) (omega arith, omega arith, tt)
    (λ s. (
      λ n. elim n [
        | inl here ↦ elim (cases_lt s lo) [ inl low ↦ inl (inl (here.0, omega arith)) | inr high ↦ inr (high, here.1) ]
        | inr none ↦ absurd none
      ],
      λ m. elim m [
        | inl n ↦ elim n [ inl here ↦ inl (here.0, omega (arith, here.1)) | inr none ↦ absurd none ]
        | inr added ↦ inl (omega (arith, added.0), added.1)
      ],
    ))

pub joined_after : (old new front : List Span) (last : Span) (lo hi : ℕ) → old ≡ front ++ last ∷ [] → new ≡ front ++ last ∷ record { lo = lo; hi = hi } ∷ [] → IsRuns old → last.hi < lo → (last.hi + 1 ≡ lo → ⊥) → lo ≤ hi → AddsSpan old lo hi new
joined_after old new front last lo hi was is r past apart h =
    let runs = subst IsRuns was r in
    let whole = (runs_middle 0 front last [] runs).0 in
    adds_end old new front (last ∷ []) (last ∷ record { lo = lo; hi = hi } ∷ []) last.lo lo hi was is r (runs_apart 0 front last [] runs) (omega arith, whole, (omega (arith, apart), h, tt))
    (λ s. (
      λ n. elim n [ inl here ↦ inl (inl here) | inr rest ↦ elim rest [ inl here ↦ inr here | inr none ↦ absurd none ] ],
      λ m. elim m [ inl n ↦ elim n [ inl here ↦ inl here | inr none ↦ absurd none ] | inr added ↦ inr (inl added) ],
    ))
