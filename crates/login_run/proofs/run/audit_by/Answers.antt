-- The waiting text is sent, and the end of the search is reported.
use Rattle.std.proofs.Common.{None, rules}
use Rattle.run_output.proofs.RunParts.{begun}
use Rattle.audit_run.proofs.Running.{stop_is_kept}
use Rattle.krl_audit.specs.Audit.{answers_but}
use Rattle.krl_audit.proofs.Canaries.{answers_as_meant}
use Rattle.login_run.proofs.Running.{came_to, ends_there}
use Rattle.login_run.proofs.run.audit_by.Goals as goal

pub returns : goal.returns
returns g c =
    let after = c.audit_all-stop.new.auditor in
    let stop = c.audit_all-stop.result.stop in
    let taken = g.W.Sink.taken c.args.out.now in
    record {
      files = c.audit_all-stop.result.files;
      counts = after.counts;
      summary_is = search rules;
      status_is = search rules;
      ends = λ entries means texts indexed.
          let answers = answers_but None entries texts in
          let judges = answers_as_meant None c.args.queried.now.prints.now c.args.order.now.texts None entries texts tt means indexed in
          let was = c.audit_all-stop.ensures.came answers (rw c.new-auditor.ensures.judge judges) c.new-auditor.ensures.counts taken
          (rw (c.new-auditor.ensures.printer, c.new-printer.ensures, c.requires.working) (begun taken _)) in
          record {
            stop = stop;
            came = came_to _ _ _ _ _ answers _ after.counts stop _ _ was
                (ends_there was.run taken _ _ _ _ c.finish.result.fault (c.finish.ensures.ends taken was.run was.end).0 (search rules) (search rules));
            kept = stop_is_kept stop was.run taken _ _ _ _ _ was.end c.finish.ensures.ends;
          };
    }
