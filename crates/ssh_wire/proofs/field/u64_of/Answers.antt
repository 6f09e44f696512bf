use Rattle.std.proofs.Common.{ℕ, ap, sym, ◌∙◌}
use Rattle.byteorder.specs.Endian.{big_number}
use Rattle.ssh_wire.specs.Wire.{number_of}
use Rattle.ssh_wire.proofs.field.u64_of.Goals as goal

pub returns : goal.returns
unfolding number_of
returns c = c.read_u64.ensures ∙ ap (λ (n : ℕ). big_number n c.args.field.now) (sym c.requires)
