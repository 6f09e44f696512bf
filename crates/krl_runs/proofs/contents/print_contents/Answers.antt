-- The header and the stored entries are printed.
use Rattle.std.proofs.lemmas.Result.{err_from_is_err_and}
use Rattle.krl_runs.proofs.PrintedContents.{contents_said, contents_stop}
use Rattle.krl_runs.proofs.contents.print_contents.Goals as goal

pub returns-in_err-print_header : goal.returns-in_err-print_header
returns-in_err-print_header g c =
    let p = err_from_is_err_and c.from_residual.result c.from_residual.ensures.1 in
    rw (p.1, p.2) (contents_stop _ _ _ _ _ c.in_err-print_header.ensures)

pub returns : goal.returns
returns g c = contents_said _ _ _ _ _ _ c.in_ok-print_header.ensures c.print_held.ensures
