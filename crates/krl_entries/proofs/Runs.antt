-- The entries of runs of serials.
use Rattle.krl_entries.proofs.Common.{[], ◌++◌, ◌<◌, ◌↔◌, ◌∷◌, ◌≡◌, ◌≤◌, ap, Covers, Entry}
use Rattle.krl_entries.proofs.Common.{EntryNames, List, RangeEntry, refl, run_entries, SerialOf}
use Rattle.krl_entries.proofs.Common.{SomeNames, Span, ℕ}
use Rattle.krl_types.proofs.Equivalences.{iff_both, iff_or}
use Rattle.krl_types.proofs.SameNames.{AreSerials}
use Rattle.std.proofs.Math.Logic.Iff as Iff

-- the entries of runs name the numbers in them
pub run_entries-name : (a : List ℕ) (runs : List Span) (b : List ℕ) (s : ℕ)
    → SomeNames (run_entries a runs) (SerialOf b s) ↔ (((a ≡ b) × (0 < s)) × Covers runs s)
run_entries-name a [] b s = (λ h. absurd h, λ h. absurd h.1)
run_entries-name a (run ∷ runs) b s =
    let here : EntryNames (RangeEntry a run.lo run.hi) (SerialOf b s) ↔ (((a ≡ b) × (0 < s)) × ((run.lo ≤ s) × (s ≤ run.hi))) = (λ h. ((h.0, h.1.0), h.1.1), λ h. (h.0.0, (h.0.1, h.1))) in
    Iff.trans (iff_or here (run_entries-name a runs b s)) iff_both

pub run_entries-serials : (a : List ℕ) (runs : List Span) → AreSerials (run_entries a runs)
run_entries-serials a [] = tt
run_entries-serials a (run ∷ runs) = (tt, run_entries-serials a runs)

pub run_entries-append : (a : List ℕ) (xs ys : List Span) → run_entries a (xs ++ ys) ≡ run_entries a xs ++ run_entries a ys
run_entries-append a [] ys = refl
run_entries-append a (x ∷ xs) ys = ap (λ (es : List Entry). RangeEntry a x.lo x.hi ∷ es) (run_entries-append a xs ys)
