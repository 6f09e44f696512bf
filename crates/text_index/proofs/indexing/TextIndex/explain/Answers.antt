-- The lines and the reasons are those that are found.
use Rattle.std.proofs.Common.{List, ℕ, subst}
use Rattle.text_index.specs.Found.{FindsAll}
use Rattle.text_index.proofs.Explained.{explained}
use Rattle.text_index.proofs.indexing.TextIndex.explain.Goals as goal

pub returns : goal.returns
returns c =
    let finds = subst (λ (old : List ℕ). FindsAll c.args.self.now.names c.args.subject.now c.args.reasons c.in_ok-unnamed.unnamed old c.look_up.new.found.keys) c.new-found.ensures.empty c.in_ok-unnamed.ensures in
    explained c.args.self.now c.args.subject.now c.args.reasons (record { lines = c.in_ok-lines.lines; unnamed = c.in_ok-unnamed.unnamed; authority = c.in_ok-authority.authority }) c.look_up.new.found.keys finds c.in_ok-lines.ensures.ordered c.in_ok-lines.ensures.lines c.in_ok-authority.ensures
