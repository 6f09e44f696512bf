-- Chunks in order: how they are split and joined, and which members they have.
use Rattle.span_sets.proofs.Common.{[], ◌++◌, ◌+◌, ◌<◌, ◌∷◌, ◌≤◌, ◌⊎◌, All, All-head, All-tail}
use Rattle.span_sets.proofs.Common.{arith, Chunk, ChunksFrom, Covers, hi_of, in_stretch, inl, inr}
use Rattle.span_sets.proofs.Common.{List, lo_of, members_in, members_of, names_append, names_left}
use Rattle.span_sets.proofs.Common.{names_right, stretch, subst, sym, ℕ}
use Rattle.std.proofs.lemmas.Grind.{flat_map-append}

-- ---- split and joined

pub chunks_weaker : (a b : ℕ) (es : List Chunk) → b ≤ a → ChunksFrom a es → ChunksFrom b es
chunks_weaker a b [] h r = tt
chunks_weaker a b (e ∷ es) h r = (omega arith, r.1)

pub chunks_raise : (a b : ℕ) (es : List Chunk) → ChunksFrom a es → All (λ e. b ≤ lo_of e) es
    → ChunksFrom b es
chunks_raise a b [] r above = tt
chunks_raise a b (e ∷ es) r above = (All-head (λ t. b ≤ lo_of t) e es above, r.1)

pub chunks_front : (a : ℕ) (xs ys : List Chunk) → ChunksFrom a (xs ++ ys) → ChunksFrom a xs
chunks_front a [] ys r = tt
chunks_front a (x ∷ xs) ys r = (r.0, chunks_front (hi_of x + 1) xs ys r.1)

-- chunks after others begin past them
pub chunks_back : (a : ℕ) (xs ys : List Chunk) → ChunksFrom a (xs ++ ys) → ChunksFrom a ys
chunks_back a [] ys r = r
chunks_back a (x ∷ xs) ys r =
    let whole = stretch x in
    chunks_weaker (hi_of x + 1) a ys (omega arith) (chunks_back (hi_of x + 1) xs ys r.1)

pub chunks_join : (a b : ℕ) (xs ys : List Chunk) → a ≤ b → ChunksFrom a xs
    → All (λ e. hi_of e < b) xs → ChunksFrom b ys → ChunksFrom a (xs ++ ys)
chunks_join a b [] ys h r below t = chunks_weaker b a ys h t
chunks_join a b (x ∷ xs) ys h r below t =
    let end : hi_of x < b = All-head (λ e. hi_of e < b) x xs below in (
      r.0,
      chunks_join (hi_of x + 1) b xs ys (omega arith) r.1
          (All-tail (λ e. hi_of e < b) x xs below) t,
    )

-- ---- members

pub has_append : (xs ys : List Chunk) (s : ℕ) → Covers (members_of (xs ++ ys)) s
    → Covers (members_of xs) s ⊎ Covers (members_of ys) s
has_append xs ys s n =
    names_append (members_of xs) (members_of ys) s
    (subst (λ l. Covers l s) (flat_map-append members_in xs ys) n)

pub has_left : (xs ys : List Chunk) (s : ℕ) → Covers (members_of xs) s
    → Covers (members_of (xs ++ ys)) s
has_left xs ys s n =
    subst (λ l. Covers l s) (sym (flat_map-append members_in xs ys))
    (names_left (members_of xs) (members_of ys) s n)

pub has_right : (xs ys : List Chunk) (s : ℕ) → Covers (members_of ys) s
    → Covers (members_of (xs ++ ys)) s
has_right xs ys s n =
    subst (λ l. Covers l s) (sym (flat_map-append members_in xs ys))
    (names_right (members_of xs) (members_of ys) s n)

-- chunks that end below a number have no member at the number or past it
pub none_below : (es : List Chunk) (s : ℕ) → All (λ e. hi_of e < s) es
    → Covers (members_of es) s → ⊥
none_below [] s below n = n
none_below (e ∷ es) s below n =
    let end : hi_of e < s = All-head (λ t. hi_of t < s) e es below in
    elim (names_append (members_in e) (members_of es) s n) [
      | inl here ↦ let at = in_stretch e s here in omega arith
      | inr later ↦ none_below es s (All-tail (λ t. hi_of t < s) e es below) later
    ]

-- chunks from a number on have no member below it
pub has_from : (a : ℕ) (es : List Chunk) (s : ℕ) → ChunksFrom a es → Covers (members_of es) s
    → a ≤ s
has_from a [] s r n = absurd n
has_from a (e ∷ es) s r n =
    let whole = stretch e in
    elim (names_append (members_in e) (members_of es) s n) [
      | inl here ↦ let at = in_stretch e s here in omega arith
      | inr later ↦ let past = has_from (hi_of e + 1) es s r.1 later in omega arith
    ]
