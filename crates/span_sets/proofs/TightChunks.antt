-- Tight chunks: at most three for each of their runs.
use Rattle.span_sets.proofs.Common.{[], ◌*◌, ◌++◌, ◌+◌, ◌-◌, ◌<◌, ◌∙◌, ◌∷◌, ◌≡◌, ◌≤◌, ◌⊎◌, All}
use Rattle.span_sets.proofs.Common.{All-append, All-cons, All-head, All-tail, All-weaker, Apart}
use Rattle.span_sets.proofs.Common.{AreTight, arith, Bool, cases_lt, Chunk, chunks_rise, ChunksFrom}
use Rattle.span_sets.proofs.Common.{Covers, eqb_tells, false≢true, get_or, hi_of, in_stretch, inl}
use Rattle.span_sets.proofs.Common.{inr, is_span, IsFull, IsRuns, IsTight, KeepsTight, leb_tells}
use Rattle.span_sets.proofs.Common.{length, List, lo_of, members_in, members_of, names_append}
use Rattle.span_sets.proofs.Common.{Replaces, runs_of, Span, stretch, subst, suc, sym, true}
use Rattle.span_sets.proofs.Common.{BlockWidened, zero, ℕ}
use Rattle.serial_set.specs.Joined.{Rises, glued, glued_by, joined}
use Rattle.serial_set.proofs.JoinedRuns.{joined_of, Rises-weaker}
use Rattle.span_sets.proofs.ListsOfLists.{all_left, all_right}
use Rattle.span_sets.proofs.ChunkOrder.{chunks_each}
use Rattle.span_sets.proofs.OrderedChunks.{has_from}

-- ---- spans

glued_more : (x : Span) (ys : List Span) → length ys ≤ length (glued x ys)
glued_more x [] = omega arith
glued_more x (y ∷ ys) =
    let P : Bool → Type 0 = λ v. length (y ∷ ys) ≤ length (glued_by v x y ys) in
    elim (eqb_tells (x.hi + 1) y.lo) [
      | inl same ↦ subst P (sym same.0) (omega arith)
      | inr other ↦ subst P (sym other.0) (omega arith)
    ]

-- putting spans before others does not reduce the number of runs
joined_more : (xs ys : List Span) → length (joined ys) ≤ length (joined (xs ++ ys))
joined_more [] ys = omega arith
joined_more (x ∷ xs) ys = omega (arith, joined_more xs ys, glued_more x (joined (xs ++ ys)))

-- putting a span before runs adds one run, or the number after it is covered by them
glued_or_next : (x : Span) (ys : List Span) → IsRuns ys → (length ys + 1 ≤ length (glued x ys)) ⊎ Covers ys (x.hi + 1)
glued_or_next x [] r = inl (omega arith)
glued_or_next x (y ∷ ys) r =
    let P : Bool → Type 0 = λ v. length (y ∷ ys) + 1 ≤ length (glued_by v x y ys) in
    elim (eqb_tells (x.hi + 1) y.lo) [
      | inl same ↦ inr (inl (let e = same.1 in omega arith, let e = same.1 in omega (arith, r.1)))
      | inr other ↦ inl (subst P (sym other.0) (omega arith))
    ]

-- putting spans before others adds one run, or the number after each of theirs is covered
joined_or_next : (a : ℕ) (xs ys : List Span) → Rises a (xs ++ ys)
    → (length (joined ys) + 1 ≤ length (joined (xs ++ ys))) ⊎ ((s : ℕ) → Covers xs s → Covers (xs ++ ys) (s + 1))
joined_or_next a [] ys r = inr (λ s n. absurd n)
joined_or_next a (x ∷ xs) ys r =
    let zs = xs ++ ys in
    let are = joined_of zs (Rises-weaker (x.hi + 1) 0 zs (omega arith) r.2) in
    elim (joined_or_next (x.hi + 1) xs ys r.2) [
      | inl more ↦ inl (omega (arith, more, glued_more x (joined zs)))
      | inr next ↦ elim (glued_or_next x (joined zs) are.0) [
        | inl one ↦ inl (omega (arith, one, joined_more xs ys))
        | inr touches ↦ inr (λ s n. elim n [
          | inl here ↦ elim (cases_lt s x.hi) [
            | inl inside ↦ inl (omega (arith, here.0), omega arith)
            | inr end ↦ (
                let same : x.hi + 1 ≡ s + 1 = omega (arith, here.1) in
                inr (subst (Covers zs) same ((are.1 (x.hi + 1)).0 touches)))
          ]
          | inr later ↦ inr (next s later)
        ])
      ]
    ]

-- ---- chunks that end no run

-- after each member there is another
abbrev EndsNoRun : Chunk → List Chunk → Type 0
EndsNoRun e es = (s : ℕ) → Covers (members_in e) s → Covers (members_of (e ∷ es)) (s + 1)

more_or_on : (a : ℕ) (e : Chunk) (es : List Chunk) → ChunksFrom a (e ∷ es)
    → (length (runs_of es) + 1 ≤ length (runs_of (e ∷ es))) ⊎ EndsNoRun e es
more_or_on a e es r = joined_or_next a (members_in e) (members_of es) (chunks_rise a (e ∷ es) r)

no_fewer : (e : Chunk) (es : List Chunk) → length (runs_of es) ≤ length (runs_of (e ∷ es))
no_fewer e es = joined_more (members_in e) (members_of es)

-- from a member on all numbers are members, up to the end
climbs : (a : ℕ) (e : Chunk) (es : List Chunk) (s k : ℕ) → ChunksFrom a (e ∷ es) → EndsNoRun e es
    → Covers (members_in e) s → s + k ≤ hi_of e → Covers (members_in e) (s + k)
climbs a e es s zero r on m h = let same : s ≡ s + zero = omega arith in subst (Covers (members_in e)) same m
climbs a e es s (suc k) r on m h =
    let below = climbs a e es s k r on m (omega arith) in
    let same : s + k + 1 ≡ s + suc k = omega arith in
    elim (names_append (members_in e) (members_of es) (s + k + 1) (on (s + k) below)) [
      | inl here ↦ subst (Covers (members_in e)) same here
      | inr later ↦ (let far = has_from (hi_of e + 1) es (s + k + 1) r.1 later in absurd (omega arith))
    ]

goes_to : (a : ℕ) (e : Chunk) (es : List Chunk) (s t : ℕ) → ChunksFrom a (e ∷ es) → EndsNoRun e es
    → Covers (members_in e) s → s ≤ t → t ≤ hi_of e → Covers (members_in e) t
goes_to a e es s t r on m h k =
    let same : s + (t - s) ≡ t = omega arith in
    subst (Covers (members_in e)) same (climbs a e es s (t - s) r on m (omega arith))

-- so the number after the end is a member, covered by the chunks that follow
after_end : (a : ℕ) (e : Chunk) (es : List Chunk) (s : ℕ) → ChunksFrom a (e ∷ es) → EndsNoRun e es
    → Covers (members_in e) s → Covers (members_of es) (hi_of e + 1)
after_end a e es s r on m =
    let at = in_stretch e s m in
    let last = goes_to a e es s (hi_of e) r on m at.1 (omega arith) in
    elim (names_append (members_in e) (members_of es) (hi_of e + 1) (on (hi_of e) last)) [
      | inl here ↦ (let out = in_stretch e (hi_of e + 1) here in absurd (omega (arith, out.1)))
      | inr later ↦ later
    ]

-- and the next chunk begins there
next_begins : (a : ℕ) (e f : Chunk) (es : List Chunk) (s : ℕ) → ChunksFrom a (e ∷ (f ∷ es)) → EndsNoRun e (f ∷ es)
    → Covers (members_in e) s → (hi_of e + 1 ≡ lo_of f) × Covers (members_in f) (lo_of f)
next_begins a e f es s r on m =
    let next = after_end a e (f ∷ es) s r on m in
    let begins : hi_of e + 1 ≤ lo_of f = r.1.0 in
    let whole = stretch f in
    elim (names_append (members_in f) (members_of es) (hi_of e + 1) next) [
      | inl here ↦ (
          let at = in_stretch f (hi_of e + 1) here in
          let same : hi_of e + 1 ≡ lo_of f = omega (arith, at.0) in
          (same, subst (Covers (members_in f)) same here))
      | inr later ↦ (let far = has_from (hi_of f + 1) es (hi_of e + 1) r.1.1 later in absurd (omega arith))
    ]

-- a tight chunk that is full is a span
is_span_where_full : (e : Chunk) → IsTight e → IsFull e → is_span e ≡ true
is_span_where_full e tight full =
    elim (leb_tells e.a e.b) [ inl span ↦ span.0 | inr block ↦ absurd (tight.1 block.0 full) ]

spans_on : (a : ℕ) (e : Chunk) (es : List Chunk) → ChunksFrom a (e ∷ es) → IsTight e → EndsNoRun e es
    → Covers (members_in e) (lo_of e) → is_span e ≡ true
spans_on a e es r tight on m = is_span_where_full e tight (λ s from to. goes_to a e es (lo_of e) s r on m from to)

-- ---- how many there are

tail_tight : (e : Chunk) (es : List Chunk) → AreTight (e ∷ es) → AreTight es
tail_tight e es t = (
  All-tail IsTight e es t.0,
  λ k d h. All-tail (Apart (get_or es k d)) e es (All-tail (λ x. All (Apart x) (e ∷ es)) e es t.1 k d h),
)

-- of three consecutive chunks one ends a run
one_ends : (a : ℕ) (e f g : Chunk) (es : List Chunk) → ChunksFrom a (e ∷ (f ∷ (g ∷ es))) → AreTight (e ∷ (f ∷ (g ∷ es)))
    → EndsNoRun e (f ∷ (g ∷ es)) → EndsNoRun f (g ∷ es) → EndsNoRun g es → ⊥
one_ends a e f g es r t on_e on_f on_g =
    let rest = tail_tight e (f ∷ (g ∷ es)) t in
    let last = tail_tight f (g ∷ es) rest in
    let tight_e : IsTight e = All-head IsTight e (f ∷ (g ∷ es)) t.0 in
    let tight_f : IsTight f = All-head IsTight f (g ∷ es) rest.0 in
    let tight_g : IsTight g = All-head IsTight g es last.0 in
    let from_f : All (Apart f) (f ∷ (g ∷ es)) = All-head (λ x. All (Apart x) (f ∷ (g ∷ es))) f (g ∷ es) rest.1 in
    let apart : Apart f g = All-head (Apart f) g es (All-tail (Apart f) f (g ∷ es) from_f) in
    tight_e.0 (λ s m.
    let at_f = next_begins a e f (g ∷ es) s r on_e m in
    let at_g = next_begins (hi_of e + 1) f g es (lo_of f) r.1 on_f at_f.1 in
    apart (spans_on (hi_of e + 1) f (g ∷ es) r.1 tight_f on_f at_f.1)
    (spans_on (hi_of f + 1) g es r.1.1 tight_g on_g at_g.1) at_g.0)

some_run : (a : ℕ) (e : Chunk) (es : List Chunk) → ChunksFrom a (e ∷ es) → AreTight (e ∷ es) → 1 ≤ length (runs_of (e ∷ es))
some_run a e [] r t =
    elim (more_or_on a e [] r) [
      | inl more ↦ omega (arith, more)
      | inr on ↦ absurd ((All-head IsTight e [] t.0).0 (λ s m. after_end a e [] s r on m))
    ]
some_run a e (f ∷ es) r t = omega (arith, no_fewer e (f ∷ es), some_run (hi_of e + 1) f es r.1 (tail_tight e (f ∷ es) t))

pub three_a_run : (a : ℕ) (es : List Chunk) → ChunksFrom a es → AreTight es → length es ≤ 3 * length (runs_of es)
three_a_run a [] r t = omega arith
three_a_run a (e ∷ []) r t = omega (arith, some_run a e [] r t)
three_a_run a (e ∷ (f ∷ [])) r t = omega (arith, some_run a e (f ∷ []) r t)
three_a_run a (e ∷ (f ∷ (g ∷ es))) r t =
    let rest = tail_tight e (f ∷ (g ∷ es)) t in
    let last = tail_tight f (g ∷ es) rest in
    elim (more_or_on a e (f ∷ (g ∷ es)) r) [
      | inl more ↦ omega (arith, more, three_a_run (hi_of e + 1) (f ∷ (g ∷ es)) r.1 rest)
      | inr on_e ↦ elim (more_or_on (hi_of e + 1) f (g ∷ es) r.1) [
        | inl more ↦
            omega (arith, more, no_fewer e (f ∷ (g ∷ es)), three_a_run (hi_of f + 1) (g ∷ es) r.1.1 last)
        | inr on_f ↦ elim (more_or_on (hi_of f + 1) g es r.1.1) [
          | inl more ↦ omega (
            arith,
            more,
            no_fewer e (f ∷ (g ∷ es)),
            no_fewer f (g ∷ es),
            three_a_run (hi_of g + 1) es r.1.1.1 (tail_tight g es last),
          )
          | inr on_g ↦ absurd (one_ends a e f g es r t on_e on_f on_g)
        ]
      ]
    ]

-- ---- chunks stay tight

-- a list of three parts, each two of which are related in a known way
all_pairs : (P : Chunk → Chunk → Type 0) (xs ys zs : List Chunk)
    → All (λ e. All (P e) xs) xs → All (λ e. All (P e) ys) xs → All (λ e. All (P e) zs) xs
    → All (λ e. All (P e) xs) ys → All (λ e. All (P e) ys) ys → All (λ e. All (P e) zs) ys
    → All (λ e. All (P e) xs) zs → All (λ e. All (P e) ys) zs → All (λ e. All (P e) zs) zs
    → All (λ e. All (P e) (xs ++ (ys ++ zs))) (xs ++ (ys ++ zs))
all_pairs P xs ys zs xx xy xz yx yy yz zx zy zz =
    let row : (ws : List Chunk) → All (λ e. All (P e) xs) ws → All (λ e. All (P e) ys) ws → All (λ e. All (P e) zs) ws
    → All (λ e. All (P e) (xs ++ (ys ++ zs))) ws =
    λ ws a b c k d h. All-append (P (get_or ws k d)) xs (ys ++ zs) (a k d h) (All-append (P (get_or ws k d)) ys zs (b k d h) (c k d h)) in
    let Q : Chunk → Type 0 = λ e. All (P e) (xs ++ (ys ++ zs)) in
    All-append Q xs (ys ++ zs) (row xs xx xy xz) (All-append Q ys zs (row ys yx yy yz) (row zs zx zy zz))

pub replaced_tight : (old few new : List Chunk) (lo hi : ℕ) → Replaces old lo hi few new → ChunksFrom lo few → All (λ e. hi_of e ≤ hi) few
    → AreTight old → KeepsTight old lo hi few → AreTight new
replaced_tight old few new lo hi r order ends t k =
    let front = r.front in
    let back = r.back in
    let tail = r.middle ++ r.back in
    let in_front : (P : Chunk → Type 0) → All P old → All P front = λ P h. all_left P front tail (subst (All P) r.were h) in
    let in_back : (P : Chunk → Type 0) → All P old → All P back = λ P h. all_right P r.middle back (all_right P front tail (subst (All P) r.were h)) in
    let of_front : All (λ e. All (Apart e) old) front = in_front (λ e. All (Apart e) old) t.1 in
    let of_back : All (λ e. All (Apart e) old) back = in_back (λ e. All (Apart e) old) t.1 in
    let low : All (λ e. hi_of e < lo → All (Apart e) few) front = in_front (λ e. hi_of e < lo → All (Apart e) few) k.low in
    let high : All (λ e. hi < lo_of e → All (λ f. Apart f e) few) back = in_back (λ e. hi < lo_of e → All (λ f. Apart f e) few) k.high in
    let begins = chunks_each lo few order in
    let pairs = all_pairs Apart front few back
    (λ i d h. in_front (Apart (get_or front i d)) (of_front i d h))
    (λ i d h. low i d h (r.below i d h))
    (λ i d h. in_back (Apart (get_or front i d)) (of_front i d h))
    (λ i d h j c q x y same. let n = begins i d h in let b = r.below j c q in let m = stretch (get_or few i d) in let l = stretch (get_or front j c) in omega arith)
    k.tight.1
    (λ i d h j c q. high j c q (r.above j c q) i d h)
    (λ i d h. in_front (Apart (get_or back i d)) (of_back i d h))
    (λ i d h j c q x y same. let n = ends j c q in let b = r.above i d h in let m = stretch (get_or few j c) in let l = stretch (get_or back i d) in omega arith)
    (λ i d h. in_back (Apart (get_or back i d)) (of_back i d h)) in
    let each = All-append IsTight front (few ++ back) (in_front IsTight t.0) (All-append IsTight few back k.tight.0 (in_back IsTight t.0)) in
    subst AreTight (sym r.are) (each, pairs)

-- ---- a block with more bits

swapped_all : (P : Chunk → Type 0) (front back : List Chunk) (was is : Chunk) → P is → All P (front ++ was ∷ back) → All P (front ++ is ∷ back)
swapped_all P front back was is p h =
    All-append P front (is ∷ back) (all_left P front (was ∷ back) h) (All-cons P is back p (All-tail P was back (all_right P front (was ∷ back) h)))

pub widened_tight : (old new : List Chunk) (window bits : ℕ) → BlockWidened old window bits new → AreTight old → AreTight new
widened_tight old new window bits k tight =
    let was = k.was in
    let is = k.is in
    let is_block = k.block.block in
    let swapped : (P : Chunk → Type 0) → P is → All P old → All P new =
    λ P p h. subst (All P) (sym k.are) (swapped_all P k.front k.back was is p (subst (All P) k.were h)) in
    let here : IsTight was = All-head IsTight was k.back (all_right IsTight k.front (was ∷ k.back) (subst (All IsTight) k.were tight.0)) in (
      swapped IsTight (λ empty. here.0 (λ s m. empty s ((k.block.more s).1 (inl m))), λ block. k.block.gap) tight.0,
      swapped (λ e. All (Apart e) new) (λ i d h span. absurd (false≢true (sym is_block ∙ span)))
          (All-weaker (λ e. All (Apart e) old) (λ e. All (Apart e) new) (λ e. swapped (Apart e) (λ first span. absurd (false≢true (sym is_block ∙ span)))) old tight.1),
    )
