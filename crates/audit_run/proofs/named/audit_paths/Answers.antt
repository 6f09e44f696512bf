-- Each path continues the audit, or stops it.
use Rattle.std.proofs.Common.{[], ◌++◌, ◌∙◌, ap, get_or, refl, Some, None, List, ℕ, Option}
use Rattle.std.specs.Borrow.{Bor}
use Rattle.std.proofs.lemmas.List.{get_or_default, take_all}
use Rattle.std.proofs.lemmas.Result.{err_from_is_err_and}
use Rattle.audit_run.specs.Named.{input_after, none}
use Rattle.audit_run.proofs.Auditing.{by_then, nothing_met}
use Rattle.audit_run.proofs.NamedPaths.{named_more, named_stops, past_more}
use Rattle.audit_run.proofs.named.audit_paths.Goals as goal

pub loop-path-init : goal.loop-path-init
loop-path-init g c = record { audited = ([], (none, (nothing_met _).audits)); input = refl; working = c.requires }

pub returns-in_err-audit_named : goal.returns-in_err-audit_named
returns-in_err-audit_named g c =
    let p = err_from_is_err_and c.from_residual.result c.from_residual.ensures.1 in
    let walked = c.loop-path.invariant.audited in
    let named = rw c.loop-path.invariant.input at c.in_err-audit_named.ensures.named in
    let nothing : Bor (List ℕ) = record { ref_ptr = (0, 0); now = [] } in
    let path = get_or c.args.paths.now c.loop-path.path-index nothing in
    let is = get_or_default c.args.paths.now c.loop-path.path-index nothing path c.loop-path-test.true in
    rw (p.1, p.2) (record {
      visits = walked.0 ++ named.visits;
      is = named_stops _ _ c.args.paths.now c.loop-path.path-index path walked.0 named.visits c.loop-path-test.true is walked.1.0 named.is;
      audits = by_then walked.0 named.visits (Some c.in_err-audit_named.field-0.0) _ _ _ walked.1.1 named.audits;
    })

pub loop-path-preserved : goal.loop-path-preserved
loop-path-preserved g c =
    let walked = c.loop-path.invariant.audited in
    let named = rw c.loop-path.invariant.input at c.in_ok-audit_named.ensures.named in
    let nothing : Bor (List ℕ) = record { ref_ptr = (0, 0); now = [] } in
    let path = get_or c.args.paths.now c.loop-path.path-index nothing in
    let is = get_or_default c.args.paths.now c.loop-path.path-index nothing path c.loop-path-test.true in
    record {
      audited = (
        walked.0 ++ named.visits,
        (
          named_more _ _ c.args.paths.now c.loop-path.path-index path walked.0 named.visits c.loop-path-test.true is walked.1.0 named.is,
          by_then walked.0 named.visits None _ _ _ walked.1.1 named.audits,
        ),
      );
      input = past_more _ _ c.args.paths.now c.loop-path.path-index path c.loop-path-test.true is
          (c.in_ok-audit_named.ensures.input
          ∙ ap (λ (input : Option (Option (List ℕ))). input_after path.now input) c.loop-path.invariant.input);
      working = c.in_ok-audit_named.ensures.working;
    }

pub returns : goal.returns
returns g c =
    let walked = c.loop-path.invariant.audited in
    let all = rw (take_all c.loop-path.path-index c.args.paths.now c.loop-path-test.false) at walked.1.0 in
    record { visits = walked.0; is = all; audits = walked.1.1 }
