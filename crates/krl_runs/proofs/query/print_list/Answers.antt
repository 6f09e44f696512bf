-- The contents and then the files are answered for.
use Rattle.krl_runs.proofs.Common.{err_from_is_err_and, get_or, keys_of, known_of, refl, revokes}
use Rattle.krl_runs.proofs.QueryRuns.{dump_stops, entries_answer, read_run}
use Rattle.run_output.proofs.AnswerableKeys.{all_expected}
use Rattle.krl_runs.proofs.query.print_list.Goals as goal

pub returns : goal.returns
returns g c =
    read_run c.args.krl_name.now c.args.files.now (known_of c.args.header.now c.args.list.now) _ _ _ _ c.in_ok-print_contents.ensures (c.print_files.ensures _ (entries_answer (λ _. Unit {0}) c.args.list.now (revokes c.args.list.now) (λ _ _. refl)))

pub returns-in_err-print_contents : goal.returns-in_err-print_contents
returns-in_err-print_contents g c =
    let p = err_from_is_err_and c.from_residual.result c.from_residual.ensures.1 in
    rw (p.1, p.2) (dump_stops c.args.krl_name.now c.args.files.now (known_of c.args.header.now c.args.list.now) _ _ _ c.in_err-print_contents.ensures)

pub print_files-requires : goal.print_files-requires
print_files-requires g c = λ k d lt. all_expected (λ _. Unit {0}) (λ _. tt) (keys_of (get_or c.args.files.now k d))
