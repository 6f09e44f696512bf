-- The bytes after the name of the format were read.
use Rattle.std.proofs.Common.{sym, ◌∙◌}
use Rattle.key_text.specs.Container.{magic}
use Rattle.key_text.proofs.ContainerReads.{bytes_inside}
use Rattle.key_text.proofs.container.parts.read_bytes.Goals as goal

pub returns : goal.returns
unfolding magic
returns c = c.read_inside.ensures ∙ bytes_inside c.args.bytes.now (sym c.starts_with.ensures.value ∙ c.if-not-starts_with.false)
