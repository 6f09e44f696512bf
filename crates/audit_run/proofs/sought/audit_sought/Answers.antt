-- Each file continues the audit, or stops it.
use Rattle.std.proofs.Common.{[], ◌++◌, Some, None, true, false, subst}
use Rattle.std.proofs.lemmas.List.{take_all}
use Rattle.std.proofs.lemmas.Result.{err_from_is_err_and}
use Rattle.sshd_files.specs.declared.files.SshdFile.{SshdFile}
use Rattle.audit_run.specs.Named.{none}
use Rattle.audit_run.specs.Sought.{IsSought}
use Rattle.audit_run.proofs.Auditing.{by_then, nothing_met}
use Rattle.audit_run.proofs.Rows.{each_more, each_stops}
use Rattle.audit_run.proofs.sought.audit_sought.Goals as goal

pub loop-file-init : goal.loop-file-init
loop-file-init g c = record { audited = ([], (none, (nothing_met _).audits)) }

pub returns-in_err-audit_path : goal.returns-in_err-audit_path
returns-in_err-audit_path g c =
    let p = err_from_is_err_and c.from_residual.result c.from_residual.ensures.1 in
    let walked = c.loop-file.invariant.audited in
    let one = rw c.as_slice.ensures.value at c.in_err-audit_path.ensures in
    rw (p.1, p.2) (record {
      visits = walked.0 ++ one.visits;
      is = each_stops (IsSought (g.T.Tree.states c.args.tree.now)) c.args.files.now c.loop-file.file-index c.file-item.result
          walked.0 one.visits c.loop-file-test.true walked.1.0
          (subst (λ (file : SshdFile). IsSought (g.T.Tree.states c.args.tree.now) false file one.visits) c.file-item.is one.is);
      audits = by_then walked.0 one.visits (Some c.in_err-audit_path.field-0.0) _ _ _ walked.1.1 one.audits;
    })

pub loop-file-preserved : goal.loop-file-preserved
loop-file-preserved g c =
    let walked = c.loop-file.invariant.audited in
    let one = rw c.as_slice.ensures.value at c.in_ok-audit_path.ensures in
    record {
      audited = (
        walked.0 ++ one.visits,
        (
          each_more (IsSought (g.T.Tree.states c.args.tree.now)) c.args.files.now c.loop-file.file-index c.file-item.result
              walked.0 one.visits c.loop-file-test.true walked.1.0
              (subst (λ (file : SshdFile). IsSought (g.T.Tree.states c.args.tree.now) true file one.visits) c.file-item.is one.is),
          by_then walked.0 one.visits None _ _ _ walked.1.1 one.audits,
        ),
      );
    }

pub returns : goal.returns
returns g c =
    let walked = c.loop-file.invariant.audited in
    let all = rw (take_all c.loop-file.file-index c.args.files.now c.loop-file-test.false) at walked.1.0 in
    record { visits = walked.0; is = all; audits = walked.1.1 }
