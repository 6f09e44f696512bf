-- The number is at the front, and the elements left are bytes.
use Rattle.std.proofs.Common.{sym, ◌∙◌}
use Rattle.ssh_wire.proofs.Digits.{IsBytes-after}
use Rattle.ssh_wire.proofs.Fields.{number_front}
use Rattle.ssh_wire.proofs.cursor.Cursor.u32.Goals as goal

pub invariant_of-self : goal.invariant_of-self
invariant_of-self c = IsBytes-after 4 _ c.self.invariant

pub returns-clause-found : goal.returns-clause-found
returns-clause-found c = sym c.self.view_is ∙ number_front 4 c.self.inside.left.now _ c.self.invariant c.if-self-lt4.false c.read_u32-n.ensures
