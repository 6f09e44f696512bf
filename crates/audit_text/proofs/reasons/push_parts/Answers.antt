-- Each turn appends a reason, if it holds.
use Rattle.std.proofs.Common.{◌∙◌, ap, refl}
use Rattle.krl_entries.specs.Reasons.{every_reason, has_reason}
use Rattle.audit_text.specs.Print.{spelled_of}
use Rattle.audit_text.specs.Text.{reason_words}
use Rattle.audit_text.proofs.EachReason.{one_more, passed_over}
use Rattle.audit_text.proofs.reasons.push_parts.Goals as goal
use Rattle.audit_text.proofs.reasons.push_parts.Goals.{then-has+in_ok-push_reason, else-has}

pub loop-reason-preserved : goal.loop-reason-preserved
loop-reason-preserved c =
    let loop = c.loop-reason in
    elim c.if-has.branch [
      | then-has+in_ok-push_reason w ↦
          ap (λ text. text.items) w.text-is
          ∙ one_more (has_reason c.args.reasons) (λ reason. reason_words (spelled_of c.args.spelling) reason c.args.subject.now.cert) (λ text. text) refl (λ a b. refl)
          _ _ _ every_reason loop.reason-index _ c.loop-reason-test.true loop.invariant w.if-has.ensures w.in_ok-push_reason.ensures
      | else-has w ↦
          ap (λ text. text.items) w.text-is
          ∙ passed_over (has_reason c.args.reasons) (λ reason. reason_words (spelled_of c.args.spelling) reason c.args.subject.now.cert) (λ text. text) refl (λ a b. refl)
          _ _ every_reason loop.reason-index _ c.loop-reason-test.true loop.invariant w.if-has.ensures
    ]
