-- Runs that are taken one after another.
use Rattle.span_sets.proofs.Common.{[], ◌++◌, ◌+◌, ◌<◌, ◌∙◌, ◌∷◌, ◌≡◌, ◌≤◌, ◌⊎◌, AddsSpan, All}
use Rattle.span_sets.proofs.Common.{All-append, All-cons, All-head, All-nil, All-tail, All-weaker}
use Rattle.span_sets.proofs.Common.{append_assoc, arith, cases_lt, Chunk, ChunksFrom, Covers}
use Rattle.span_sets.proofs.Common.{get_or, GoesOn, hi_of, in_stretch, inl, inr, IsChunkFrom}
use Rattle.span_sets.proofs.Common.{IsFirst, IsPiece, IsRuns, length, List, lo_of, max, members_in}
use Rattle.span_sets.proofs.Common.{members_of, names_append, names_at, names_left, names_right}
use Rattle.span_sets.proofs.Common.{None, Reads, refl, runs_first, runs_front, runs_middle, runs_of}
use Rattle.span_sets.proofs.Common.{runs_of_chunks, runs_reach, RunsFrom, since, since_from}
use Rattle.span_sets.proofs.Common.{since_runs, since_to, Some, Span, stretch, subst, sym, take}
use Rattle.span_sets.proofs.Common.{Taken, ℕ}
use Rattle.span_sets.proofs.ChunkQueries.{asked}
use Rattle.span_sets.proofs.OrderedChunks.{chunks_back, chunks_front}

-- ---- a span after others

-- ---- runs that are taken up to a number

pub taken_past : (spans runs : List Span) (n at lo s : ℕ) → Taken spans n at runs → at ≤ lo → Covers runs s → s < lo
taken_past spans runs n at lo s t h m = let k = (t.are.1 s).0 m in omega (arith, k.1)

pub taken_more : (spans old new : List Span) (n at lo hi : ℕ) → Taken spans n at old → IsFirst spans at (Some lo) → GoesOn spans lo hi → AddsSpan old lo hi new → Taken spans n (hi + 1) new
taken_more spans old new n at lo hi t f g adds = record {
  from = omega (arith, t.from, f.0, g.order);
  are = (
    adds.0,
    λ s. (
      λ m. elim ((adds.1 s).0 m) [
        | inl was ↦ (let k = (t.are.1 s).0 was in (k.0, omega (arith, k.1, f.0, g.order), k.2))
        | inr here ↦ (omega (arith, t.from, f.0, here.0), omega (arith, here.1), g.all s here.0 here.1)
      ],
      λ k. (adds.1 s).1 (elim (cases_lt s at) [
        | inl early ↦ inl ((t.are.1 s).1 (k.0, early, k.2))
        | inr late ↦ elim (cases_lt s lo) [
          | inl between ↦ absurd (f.2 s late between k.2)
          | inr from ↦ inr (from, omega (arith, k.1))
        ]
      ]),
    ),
  );
}

pub taken_on : (spans runs : List Span) (n at to : ℕ) → Taken spans n at runs → at ≤ to → ((s : ℕ) → at ≤ s → s < to → Covers spans s → ⊥) → Taken spans n to runs
taken_on spans runs n at to t h none = record {
  from = omega (arith, t.from);
  are = (
    t.are.0,
    λ s. (
      λ m. let k = (t.are.1 s).0 m in (k.0, omega (arith, k.1), k.2),
      λ k. elim (cases_lt s at) [
        | inl early ↦ (t.are.1 s).1 (k.0, early, k.2)
        | inr late ↦ absurd (none s late k.1 k.2)
      ],
    ),
  );
}

-- ---- the members of one chunk

pub reads_first : (spans : List Span) (e : Chunk) (at n lo : ℕ) → Reads spans at e n → IsFirst (members_in e) n (Some lo) → IsFirst spans at (Some lo)
reads_first spans e at n lo r f =
    let end = (in_stretch e lo f.1).1 in
    let here = (r.same lo end).1 (f.0, f.1) in
    (here.0, here.1, λ s h l m. let k = (r.same s (omega (arith, l, end))).0 (h, m) in f.2 s k.0 l k.1)

pub reads_goes : (spans : List Span) (e : Chunk) (at n lo hi : ℕ) → Reads spans at e n → n ≤ lo → GoesOn (members_in e) lo hi → GoesOn spans lo hi
reads_goes spans e at n lo hi r h g = record {
  order = g.order;
  all = λ s k l. let m = g.all s k l in ((r.same s (in_stretch e s m).1).1 (omega arith, m)).1;
}

pub reads_on : (spans : List Span) (e : Chunk) (at n lo hi : ℕ) → Reads spans at e n → IsFirst (members_in e) n (Some lo) → GoesOn (members_in e) lo hi → hi < hi_of e → Reads spans (hi + 1) e (hi + 1)
reads_on spans e at n lo hi r f g l =
    let from : n ≤ hi + 1 = omega (arith, f.0, g.order) in
    let to : at ≤ hi + 1 = omega (arith, (reads_first spans e at n lo r f).0, g.order) in
    record {
      from = omega arith;
      to = omega arith;
      same = λ s q. (λ m. (m.0, ((r.same s q).0 (omega (arith, to, m.0), m.1)).1), λ m. (m.0, ((r.same s q).1 (omega (arith, from, m.0), m.1)).1));
    }

pub reads_none : (spans : List Span) (e : Chunk) (at n s : ℕ) → Reads spans at e n → IsFirst (members_in e) n None → at ≤ s → s < hi_of e + 1 → Covers spans s → ⊥
reads_none spans e at n s r f h l m = let k = (r.same s (omega arith)).0 (h, m) in f s k.0 k.1

pub taken_run : (spans old new : List Span) (e : Chunk) (n at from lo hi : ℕ) → Taken spans n at old → Reads spans at e from → IsFirst (members_in e) from (Some lo) → GoesOn (members_in e) lo hi → AddsSpan old lo hi new → Taken spans n (hi + 1) new
taken_run spans old new e n at from lo hi t r f g adds = taken_more spans old new n at lo hi t (reads_first spans e at from lo r f) (reads_goes spans e at from lo hi r f.0 g) adds

pub goes_within : (e : Chunk) (lo hi : ℕ) → GoesOn (members_in e) lo hi → hi ≤ hi_of e
goes_within e lo hi g = (in_stretch e hi (g.all hi g.order (omega arith))).1

-- ---- one chunk after another

-- the chunks that are left in a slice, if the ones before end below a number
pub record Rest (es : List Chunk) (number at : ℕ) (rest : List Chunk) : Type 0 where
  pub front : List Chunk
  pub back : List Chunk
  pub parts : es ≡ front ++ (rest ++ back)
  pub below : All (λ e. hi_of e < at) front
  pub order : (at ≡ number) ⊎ ChunksFrom at rest
  pub from : number ≤ at
  pub reach : All (λ e. number ≤ hi_of e) rest

pub rest_first : (es : List Chunk) (n at : ℕ) (e : Chunk) (rest : List Chunk) → ChunksFrom 0 es → Rest es n at (e ∷ rest) → Reads (members_of es) at e n
rest_first es n at e rest order k =
    let whole = stretch e in
    let reach : n ≤ hi_of e = All-head (λ t. n ≤ hi_of t) e rest k.reach in
    let own : (s : ℕ) → n ≤ s → lo_of e ≤ s → at ≤ s = λ s h l. elim k.order [ inl same ↦ omega arith | inr up ↦ omega (arith, up.0) ] in
    let here : (s : ℕ) → at ≤ s → s ≤ hi_of e → IsChunkFrom es s (Some e) =
    λ s h l. (k.front, (rest ++ k.back, (k.parts, All-weaker (λ t. hi_of t < at) (λ t. hi_of t < s) (λ t q. omega arith) k.front k.below, l))) in
    record {
      from = reach;
      to = own (hi_of e) reach whole;
      same = λ s l. (
        λ q. (omega (arith, k.from, q.0), (asked es e s order (here s q.0 l)).1 q.1),
        λ q. let h = own s q.0 (in_stretch e s q.1).0 in (h, (asked es e s order (here s h l)).0 q.1),
      );
    }

pub rest_on : (es : List Chunk) (n at : ℕ) (e : Chunk) (rest : List Chunk) → ChunksFrom 0 es → Rest es n at (e ∷ rest) → Rest es n (hi_of e + 1) rest
rest_on es n at e rest order k =
    let r = rest_first es n at e rest order k in
    let to = r.to in
    let from = r.from in
    let tail = chunks_back 0 k.front (e ∷ (rest ++ k.back)) (subst (ChunksFrom 0) k.parts order) in
    let P : Chunk → Type 0 = λ t. hi_of t < hi_of e + 1 in
    record {
      front = k.front ++ e ∷ [];
      back = k.back;
      parts = k.parts ∙ sym (append_assoc k.front (e ∷ []) (rest ++ k.back));
      below = All-append P k.front (e ∷ []) (All-weaker (λ t. hi_of t < at) P (λ t q. omega arith) k.front k.below)
          (All-cons P e [] (omega arith) (All-nil P));
      order = inr (chunks_front (hi_of e + 1) rest k.back tail.1);
      from = omega arith;
      reach = All-tail (λ t. n ≤ hi_of t) e rest k.reach;
    }

-- ---- which of the runs taken are complete

before_last : (a : ℕ) (front : List Span) (last : Span) (s : ℕ) → RunsFrom a (front ++ last ∷ []) → Covers front s → s + 2 ≤ last.lo
before_last a [] last s r m = absurd m
before_last a (x ∷ front) last s r m =
    elim m [
      | inl here ↦ omega (arith, here.1, runs_reach (x.hi + 2) front last [] r.2)
      | inr later ↦ before_last (x.hi + 2) front last s r.2 later
    ]

first_of_runs : (es : List Chunk) (n : ℕ) (runs : List Span) → ChunksFrom 0 es → IsRuns runs → ((s : ℕ) → Covers runs s → (n ≤ s) × Covers (members_of es) s) → ((s t : ℕ) → Covers runs t → s ≤ t + 1 → n ≤ s → Covers (members_of es) s → Covers runs s) → runs ≡ take (length runs) (since n (runs_of es))
first_of_runs es n runs order r to from =
    let xs = runs_of es in
    let is = runs_of_chunks es order in
    runs_first 0 (max 0 n) runs (since n xs) r (since_runs 0 n xs is.0)
    (λ s m. let k = to s m in since_from 0 n xs s is.0 ((is.1 s).1 k.1) k.0)
    (λ s t m h k. let there = since_to 0 n xs s is.0 k in from s t m h there.1 ((is.1 s).0 there.0))

-- all, if the last of them does not continue
pub all_whole : (es : List Chunk) (n at : ℕ) (runs front : List Span) (last : Span) → ChunksFrom 0 es → Taken (members_of es) n at runs → runs ≡ front ++ last ∷ [] → (Covers (members_of es) (last.hi + 1) → ⊥) → runs ≡ take (length runs) (since n (runs_of es))
all_whole es n at runs front last order t is stops =
    let rise = subst IsRuns is t.are.0 in
    let whole = (runs_middle 0 front last [] rise).0 in
    let end : (s : ℕ) → Covers runs s → s ≤ last.hi = λ s m. elim (names_append front (last ∷ []) s (subst (λ l. Covers l s) is m)) [
      | inl early ↦ omega (arith, before_last 0 front last s rise early)
      | inr late ↦ elim late [ inl here ↦ here.1 | inr none ↦ absurd none ]
    ] in
    let below = taken_past (members_of es) runs n at at last.hi t (omega arith) (subst (λ l. Covers l last.hi) (sym is) (names_right front (last ∷ []) last.hi (inl (whole, omega arith)))) in
    first_of_runs es n runs order t.are.0
    (λ s m. let k = (t.are.1 s).0 m in (k.0, k.2))
    (λ s u m h k l. elim (cases_lt last.hi s) [
      | inl past ↦ (let same : s ≡ last.hi + 1 = omega (arith, end u m) in absurd (stops (subst (Covers (members_of es)) same l)))
      | inr upto ↦ (t.are.1 s).1 (k, omega arith, l)
    ])

-- otherwise all but that one
pub all_but_last : (es : List Chunk) (n at : ℕ) (runs front : List Span) (last : Span) → ChunksFrom 0 es → Taken (members_of es) n at runs → runs ≡ front ++ last ∷ [] → front ≡ take (length front) (since n (runs_of es))
all_but_last es n at runs front last order t is =
    let rise = subst IsRuns is t.are.0 in
    let whole = (runs_middle 0 front last [] rise).0 in
    let below = taken_past (members_of es) runs n at at last.hi t (omega arith) (subst (λ l. Covers l last.hi) (sym is) (names_right front (last ∷ []) last.hi (inl (whole, omega arith)))) in
    first_of_runs es n front order (runs_front 0 front (last ∷ []) rise)
    (λ s m. let k = (t.are.1 s).0 (subst (λ l. Covers l s) (sym is) (names_left front (last ∷ []) s m)) in (k.0, k.2))
    (λ s u m h k l.
    let early = before_last 0 front last u rise m in
    elim (names_append front (last ∷ []) s (subst (λ l. Covers l s) is ((t.are.1 s).1 (k, omega arith, l)))) [
      | inl there ↦ there
      | inr late ↦ elim late [ inl here ↦ absurd (omega (arith, here.0)) | inr none ↦ absurd none ]
    ])

-- ---- the first run alone

pub first_alone : (es : List Chunk) (n lo hi : ℕ) → ChunksFrom 0 es → IsFirst (members_of es) n (Some lo) → GoesOn (members_of es) lo hi → (Covers (members_of es) (hi + 1) → ⊥) → IsPiece (runs_of es) n (record { lo = lo; hi = hi } ∷ [])
first_alone es n lo hi order f g stops = record {
  some = λ h. omega arith;
  front = first_of_runs es n (record { lo = lo; hi = hi } ∷ []) order (omega arith, g.order, tt)
      (λ s m. elim m [ inl here ↦ (omega (arith, f.0, here.0), g.all s here.0 here.1) | inr none ↦ absurd none ])
      (λ s t m h k l. elim m [
        | inl here ↦ inl (
          elim (cases_lt s lo) [ inl below ↦ absurd (f.2 s k below l) | inr from ↦ from ],
          elim (cases_lt hi s) [
            | inl past ↦ (let same : s ≡ hi + 1 = omega (arith, here.1) in absurd (stops (subst (Covers (members_of es)) same l)))
            | inr upto ↦ upto
          ],
        )
        | inr none ↦ absurd none
      ]);
}

pub none_left : (es : List Chunk) (n : ℕ) → ChunksFrom 0 es → IsFirst (members_of es) n None → IsPiece (runs_of es) n []
none_left es n order f =
    let xs = runs_of es in
    let is = runs_of_chunks es order in
    let d : Span = record { lo = 0; hi = 0 } in
    record {
      some = λ h. let there = since_to 0 n xs (get_or (since n xs) 0 d).lo is.0 (names_at (max 0 n) (since n xs) 0 d (since_runs 0 n xs is.0) h) in
          absurd (f (get_or (since n xs) 0 d).lo there.1 ((is.1 (get_or (since n xs) 0 d).lo).0 there.0));
      front = refl;
    }
