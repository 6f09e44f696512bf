-- The waiting text is sent, and the end of the audit is reported.
use Rattle.std.proofs.Common.{refl, rules, sym}
use Rattle.run_output.proofs.RunParts.{begun}
use Rattle.audit_run.proofs.Running.{ends_as_meant, ends_there, stop_is_kept}
use Rattle.audit_run.proofs.run.audit_by.Goals as goal

pub returns : goal.returns
returns g c =
    let inside = c.round.inside in
    ends_as_meant _ _ _ _ _ _ _ _ _ _ (record { counts = inside.auditor.counts; files = inside.files }) (search rules)
    (λ answers judges.
    let taken = g.W.Sink.taken c.args.out.now in
    let audits = rw c.new-round.ensures at c.audit_all-stop.ensures.all in
    let was = audits answers taken judges refl (rw (c.new-printer.ensures, c.requires.working) (begun taken _)) in
    let all = rw (sym c.round.view_is) at was in
    (c.audit_all-stop.result, all.0, (all.1.0, (ends_there all.0 inside.auditor.counts taken _ _ _ _ _ _ (record { ends = (c.finish.ensures.ends taken all.0 all.1.1.0).0; status_is = search rules }) (search rules) (search rules), stop_is_kept c.audit_all-stop.result all.0 taken _ _ _ _ _ all.1.1.0 c.finish.ensures.ends))))
