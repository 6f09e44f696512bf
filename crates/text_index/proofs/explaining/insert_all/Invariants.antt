-- The other numbers are left.
use Rattle.std.proofs.Common.{◌≡◌, ◌||◌, ℕ, drop, nat_eq}
use Rattle.std.specs.List.{list_any}
use Rattle.text_index.proofs.explaining.insert_all.Given as goal

abbrev pub invariant-lines : goal.invariant-lines
invariant-lines l =
    (i : ℕ) → (list_any (nat_eq i) l.found.keys || list_any (nat_eq i) (drop l.line-index l.lines))
    ≡ (list_any (nat_eq i) l.initial.found.keys || list_any (nat_eq i) l.lines)
