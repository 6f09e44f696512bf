use Rattle.std.proofs.Common.{ℕ, ◌+◌, ◌*◌, [], ◌∷◌, inr, arith}
use Rattle.std.proofs.lemmas.List.Elements.{All-nil, All-cons}
use Rattle.serial_set.specs.declared.span.Span.{Span}
use Rattle.serial_set.specs.Near.{LiesIn}
use Rattle.out_of_memory_tests.proofs.tests.sets.near_in.Goals as goal

pub returns-clause-near : goal.returns-clause-near
returns-clause-near c =
    let P = LiesIn c.args.window in
    let first : ℕ = 64 * c.args.window + 1 in
    let a : Span = record { lo = first; hi = first + 1 } in
    let b : Span = record { lo = first + 9; hi = first + 60 } in
    inr (c.args.window, All-cons P a (b ∷ []) (omega arith, omega arith) (All-cons P b [] (omega arith, omega arith) (All-nil P)))
