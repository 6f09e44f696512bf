use Rattle.serial_set.proofs.Common.{[], ◌++◌, ◌∙◌, ◌∷◌, ap, append_assoc, arith, piece_of}
use Rattle.serial_set.proofs.JoinedSpans.{ends_below, joined_after, joined_first, joined_last}
use Rattle.serial_set.proofs.piece.Piece.join.Goals as goal

pub returns-in_default : goal.returns-in_default
returns-in_default c =
    let none = c.in_default.ensures in
    joined_first (piece_of c.args.self.now) (piece_of c.push.new.self) c.args.lo c.args.hi none.0
    (c.push.ensures ∙ ap (λ l. l ++ record { lo = c.args.lo; hi = c.args.hi } ∷ []) none.1) c.requires.ordered

pub overflow_add-last : goal.overflow_add-last
overflow_add-last c = omega (arith, ends_below (piece_of c.args.self.now) (piece_of c.pop.new.self) c.in-Some.last c.args.lo c.in-Some.ensures c.requires.runs c.requires.past)

pub returns-then-last-lo : goal.returns-then-last-lo
returns-then-last-lo c =
    let new = c.push-then-last-lo.new.self in
    joined_last (piece_of c.args.self.now) (piece_of new) (piece_of c.pop.new.self) c.in-Some.last c.args.lo c.args.hi
    c.in-Some.ensures c.push-then-last-lo.ensures c.requires.runs c.if-last-lo.true c.requires.ordered

pub returns : goal.returns
returns c =
    let front = piece_of c.pop.new.self in
    let last = c.in-Some.last in
    let was = c.in-Some.ensures in
    joined_after (piece_of c.args.self.now) (piece_of c.push-3.new.self) front last c.args.lo c.args.hi was
    (c.push-3.ensures ∙ ap (λ l. l ++ record { lo = c.args.lo; hi = c.args.hi } ∷ []) c.push-2.ensures
    ∙ append_assoc front (last ∷ []) (record { lo = c.args.lo; hi = c.args.hi } ∷ []))
    c.requires.runs (ends_below (piece_of c.args.self.now) front last c.args.lo was c.requires.runs c.requires.past) c.if-last-lo.false c.requires.ordered
