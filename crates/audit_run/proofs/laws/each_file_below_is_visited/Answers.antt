-- The walk has gone to each name of each directory that it entered.
use Rattle.audit_run.proofs.FilesBelow.{file_visited}
use Rattle.audit_run.proofs.laws.each_file_below_is_visited.Goals as goal

pub returns : goal.returns
returns g c = λ steady search top path visits walk file.
    file_visited (g.T.Tree.states c.args._tree.now) search top path visits steady walk file
