-- The runs of chunks in order rise, and are serials if the members are. `SpanPages` proves its law
-- by this in the code, which cannot cite proofs/.
use Rattle.std.proofs.Common.{◌≡◌, ℕ, zero, suc, ◌+◌, ◌-◌, ◌*◌, ◌/◌, ◌%◌, ◌≤◌, List, []}
use Rattle.std.proofs.Common.{◌∷◌, sym, subst, ap, ◌∙◌, inl, inr, arith}
use Rattle.std.specs.Prelude.{Bool}
use Rattle.std.specs.Int.{bit_at}
use Rattle.std.proofs.lemmas.Bool.Decides.{eqb_tells, leb_tells}
use Rattle.std.proofs.lemmas.Nat.Bits.{bit_at-suc, bit_at_lowest}
use Rattle.span_sets.specs.declared.chunk.Chunk.{Chunk}
use Rattle.serial_set.specs.Span.{Covers, IsRunsOf, AreSerials}
use Rattle.serial_set.specs.Joined.{Rises}
use Rattle.span_sets.specs.Chunk.{window_of, bits_of, members_in, members_by, lo_of, lo_by, hi_of}
use Rattle.span_sets.specs.Chunk.{hi_by, ChunksFrom, members_of, runs_of}
use Rattle.span_sets.specs.Blocks.{single_by, singles, BitCovers}
use Rattle.serial_set.proofs.JoinedRuns.{joined_of, Rises-weaker, Rises-join}

-- ---- spans that rise, and their runs

-- ---- the bits of a number, and their single serials

pub singles_rise : (count base bits : ℕ) → Rises base (singles count base bits)
unfolding singles
singles_rise zero base bits = tt
singles_rise (suc count) base bits =
    let rest = singles_rise count (base + 1) (bits / 2) in
    let P : Bool → Type 0 =
    λ v. Rises base (single_by v base (singles count (base + 1) (bits / 2))) in
    elim (eqb_tells (bits % 2) 1) [
      | inl set ↦ subst P (sym set.0) (omega arith, omega arith, rest)
      | inr not ↦ subst P (sym not.0) (Rises-weaker (base + 1) base _ (omega arith) rest)
    ]

pub next_bit : (base bits s : ℕ) → base + 1 ≤ s
    → bit_at bits (s - base) ≡ bit_at (bits / 2) (s - (base + 1))
next_bit base bits s h =
    let e : s - base ≡ suc (s - (base + 1)) = omega arith in
    ap (λ i. bit_at bits i) e ∙ bit_at-suc bits (s - (base + 1))

pub this_bit : (base bits s : ℕ) → s ≡ base → bit_at bits (s - base) ≡ bits % 2
this_bit base bits s h =
    let e : s - base ≡ 0 = omega arith in ap (λ i. bit_at bits i) e ∙ bit_at_lowest bits

pub singles_to : (count base bits s : ℕ) → Covers (singles count base bits) s
    → BitCovers count base bits s
unfolding singles
singles_to zero base bits s n = absurd n
singles_to (suc count) base bits s n =
    let later : Covers (singles count (base + 1) (bits / 2)) s → BitCovers (suc count) base bits s =
    λ m. let to = singles_to count (base + 1) (bits / 2) s m in
    (omega arith, omega arith, next_bit base bits s to.0 ∙ to.2) in
    let P : Bool → Type 0 =
    λ v. Covers (single_by v base (singles count (base + 1) (bits / 2))) s
    → BitCovers (suc count) base bits s in
    elim (eqb_tells (bits % 2) 1) [
      | inl set ↦ subst P (sym set.0) (λ m. elim m [
        | inl here ↦
            let same : s ≡ base = omega arith in
            (omega arith, omega arith, this_bit base bits s same ∙ set.1)
        | inr rest ↦ later rest
      ]) n
      | inr not ↦ subst P (sym not.0) later n
    ]

-- ---- chunks in order

pub in_stretch : (e : Chunk) (s : ℕ) → Covers (members_in e) s → (lo_of e ≤ s) × (s ≤ hi_of e)
in_stretch e s n =
    let P : Bool → Type 0 = λ v. Covers (members_by v e) s → (lo_by v e ≤ s) × (s ≤ hi_by v e) in
    elim (leb_tells e.a e.b) [
      | inl span ↦ subst P (sym span.0) (λ m. elim m [ inl here ↦ here | inr none ↦ absurd none ]) n
      | inr block ↦ subst P (sym block.0) (λ m.
          let at = singles_to 64 (64 * window_of e) (bits_of e) s m in (at.0, omega arith)) n
    ]

pub stretch : (e : Chunk) → lo_of e ≤ hi_of e
stretch e =
    let P : Bool → Type 0 = λ v. lo_by v e ≤ hi_by v e in
    elim (leb_tells e.a e.b) [
      | inl span ↦ subst P (sym span.0) span.1
      | inr block ↦ subst P (sym block.0) (omega arith)
    ]

pub members_rise : (e : Chunk) → Rises (lo_of e) (members_in e)
members_rise e =
    let P : Bool → Type 0 = λ v. Rises (lo_by v e) (members_by v e) in
    elim (leb_tells e.a e.b) [
      | inl span ↦ subst P (sym span.0) (omega arith, span.1, tt)
      | inr block ↦ subst P (sym block.0) (singles_rise 64 (64 * window_of e) (bits_of e))
    ]

pub chunks_rise : (a : ℕ) (es : List Chunk) → ChunksFrom a es → Rises a (members_of es)
chunks_rise a [] r = tt
chunks_rise a (e ∷ es) r =
    let whole = stretch e in
    Rises-join a (hi_of e + 1) (members_in e) (members_of es) (omega arith)
    (Rises-weaker (lo_of e) a (members_in e) r.0 (members_rise e))
    (λ s n. let at = in_stretch e s n in omega arith)
    (chunks_rise (hi_of e + 1) es r.1)

-- the runs of chunks have exactly the members of the chunks
pub runs_of_chunks : (es : List Chunk) → ChunksFrom 0 es
    → IsRunsOf (runs_of es) (λ s. Covers (members_of es) s)
runs_of_chunks es r = joined_of (members_of es) (chunks_rise 0 es r)

-- if the members are serials, so are those of the runs
pub serials_of_runs : (es : List Chunk) → ChunksFrom 0 es → AreSerials (members_of es)
    → AreSerials (runs_of es)
serials_of_runs es r fits s n = let runs = runs_of_chunks es r in fits s ((runs.1 s).0 n)
