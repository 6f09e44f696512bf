-- The bytes after the name of the format were read.
use Rattle.std.proofs.Common.{ℕ, List, Result, subst, sym, ◌∙◌}
use Rattle.ssh_wire.specs.Reading.{Lends}
use Rattle.key_text.specs.Container.{magic}
use Rattle.key_text.specs.declared.private_fault.PrivateFault.{PrivateFault}
use Rattle.key_text.proofs.PublicHalves.{bytes_after}
use Rattle.key_text.proofs.container.half.half_of.Goals as goal

pub returns : goal.returns
unfolding magic
returns c =
    subst (λ (read : Result (List ℕ) PrivateFault). Lends c.half_inside.result read) (bytes_after c.args.bytes.now (sym c.starts_with.ensures.value ∙ c.if-not-starts_with.false)) c.half_inside.ensures
