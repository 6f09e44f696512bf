-- The string is at the front, and the elements left are bytes.
use Rattle.std.proofs.Common.{sym, subst, ◌∙◌}
use Rattle.ssh_wire.specs.Wire.{IsBytes}
use Rattle.ssh_wire.proofs.Digits.{IsBytes-after, IsBytes-drop}
use Rattle.ssh_wire.proofs.Fields.{string_front}
use Rattle.ssh_wire.proofs.cursor.Cursor.string.Goals as goal

pub invariant_of-self : goal.invariant_of-self
invariant_of-self c = subst IsBytes (sym c.split_at.ensures.back) (IsBytes-drop c.read_u32-size.result _ (IsBytes-after 4 c.self.inside.left.now c.self.invariant))

pub returns-clause-found : goal.returns-clause-found
returns-clause-found c =
    sym c.self.view_is
    ∙ string_front c.read_u32-size.result c.self.inside.left.now _ _ c.self.invariant c.if-self-lt4.false c.read_u32-size.ensures c.if-after-size.false c.split_at.ensures.front c.split_at.ensures.back
