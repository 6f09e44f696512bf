-- Each line is printed, or ends the run.
use Rattle.krl_runs.proofs.Common.{[], ◌∷◌, comment_lines, date_line, err_from_is_err_and}
use Rattle.krl_runs.proofs.Common.{version_line}
use Rattle.krl_runs.proofs.PrintedContents.{header_started, last_said, more_said, saying_stops}
use Rattle.krl_runs.proofs.contents.print_header.Goals as goal

pub returns-in_err-say_line : goal.returns-in_err-say_line
returns-in_err-say_line g c =
    let p = err_from_is_err_and c.from_residual.result c.from_residual.ensures.1 in
    let version = version_line c.args.header.now.version in
    let one = c.in_err-say_line.ensures version c.write_version-made.ensures in
    rw (p.1, p.2) (saying_stops _ _ (version ∷ []) _ _ _ _ _ (header_started _ c.args.header.now _) one)

pub returns-in_err-say_line-2 : goal.returns-in_err-say_line-2
returns-in_err-say_line-2 g c =
    let p = err_from_is_err_and c.from_residual-in_err-say_line-2.result c.from_residual-in_err-say_line-2.ensures.1 in
    let version = version_line c.args.header.now.version in
    let one = c.in_ok-say_line.ensures version c.write_version-made.ensures in
    let two = c.in_err-say_line-2.ensures (date_line c.args.header.now.date) c.write_date-made.ensures in
    let is = more_said _ _ (version ∷ []) _ _ _ _ (header_started _ c.args.header.now _) one in
    rw (p.1, p.2) (saying_stops _ _ (date_line c.args.header.now.date ∷ []) _ _ _ _ _ is two)

pub returns : goal.returns
returns g c =
    let version = version_line c.args.header.now.version in
    let one = c.in_ok-say_line.ensures version c.write_version-made.ensures in
    let two = c.in_ok-say_line-2.ensures (date_line c.args.header.now.date) c.write_date-made.ensures in
    let is = more_said _ _ (version ∷ []) _ _ _ _ (header_started _ c.args.header.now _) one in
    let rest = more_said _ _ (date_line c.args.header.now.date ∷ []) _ _ _ _ is two in
    last_said _ _ (comment_lines c.args.header.now.comment) _ _ _ _ rest (rw c.as_slice.ensures at c.print_comment.ensures)
