-- Each turn writes a reason, if it holds.
use Rattle.std.proofs.Common.{◌∙◌, append-nil, refl, sym}
use Rattle.json_lines.specs.Field.{values_tokens}
use Rattle.json_lines.proofs.Objects.{values_append}
use Rattle.krl_entries.specs.Reasons.{every_reason, has_reason}
use Rattle.audit_text.specs.Objects.{reason_value}
use Rattle.audit_text.specs.Print.{spelled_of}
use Rattle.audit_text.proofs.EachReason.{one_more, passed_over}
use Rattle.audit_text.proofs.reason_values.ReasonsOfValues.put_values.Goals as goal
use Rattle.audit_text.proofs.reason_values.ReasonsOfValues.put_values.Goals.{then-has+in_ok-put_reason, else-has}

pub loop-reason-init : goal.loop-reason-init
unfolding values_tokens
loop-reason-init c = sym (append-nil c.args.out.now)

pub loop-reason-preserved : goal.loop-reason-preserved
unfolding values_tokens
loop-reason-preserved c =
    let loop = c.loop-reason in
    elim c.if-has.branch [
      | then-has+in_ok-put_reason w ↦
          w.out-is
          ∙ one_more (has_reason c.args.self.now.2) (λ reason. reason_value (spelled_of c.args.self.now.0) reason c.args.self.now.1.now.cert) values_tokens refl values_append
          _ _ _ every_reason loop.reason-index _ c.loop-reason-test.true loop.invariant w.if-has.ensures w.in_ok-put_reason.ensures
      | else-has w ↦
          w.out-is
          ∙ passed_over (has_reason c.args.self.now.2) (λ reason. reason_value (spelled_of c.args.self.now.0) reason c.args.self.now.1.now.cert) values_tokens refl values_append
          _ _ every_reason loop.reason-index _ c.loop-reason-test.true loop.invariant w.if-has.ensures
    ]
