-- The bytes begin with the first part and the second follows or does not follow, or they do not begin with it.
use Rattle.std.proofs.Common.{◌∙◌}
use Rattle.std.proofs.lemmas.Bool.Decides.{Decides-eqb}
use Rattle.std.proofs.lemmas.Slice.Eq.{strip_prefix_is}
use Rattle.key_text.proofs.ContainerReads.{joined_other, joined_same}
use Rattle.key_text.proofs.container.secrets.is_joined.Goals as goal

pub returns-in-Some : goal.returns-in-Some
returns-in-Some c =
    let front = rw c.in-Some.is at (strip_prefix_is Decides-eqb c.args.bytes.now c.args.first.now c.strip_prefix.result c.strip_prefix.ensures.cases) in
    c.eq.ensures ∙ joined_same c.args.first.now c.args.second.now c.args.bytes.now c.in-Some.rest.now front

pub returns-in-None : goal.returns-in-None
returns-in-None c =
    let other = rw c.in-None.is at (strip_prefix_is Decides-eqb c.args.bytes.now c.args.first.now c.strip_prefix.result c.strip_prefix.ensures.cases) in
    joined_other c.args.first.now c.args.second.now c.args.bytes.now other
