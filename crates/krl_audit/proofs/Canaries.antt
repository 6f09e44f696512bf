-- A list that was read answers queries for keys and canaries as its entries do.
use Rattle.std.specs.Borrow.{Bor}
use Rattle.std.proofs.Common.{◌≡◌, List, Option, Some, None, ap, refl, ◌∙◌}
use Rattle.krl_types.specs.Entry.{Entry}
use Rattle.krl_types.specs.Subject.{Subject}
use Rattle.krl_entries.specs.Reasons.{has_reason, held_reasons, reasons_of}
use Rattle.krl_entries.specs.Revocations.{Means, Revocations}
use Rattle.krl_entries.specs.declared.reasons.Reason.TheVariants.{Key as reason_of_key}
use Rattle.krl_entries.specs.declared.reasons.Reasons.{Reasons}
use Rattle.krl_entries.proofs.ReasonTests.{meant_reasons}
use Rattle.audit_text.specs.Answer.{Answer}
use Rattle.krl_audit.specs.Audit.{AnswersAs, AreIndexed, IsUsable, MeanCanaries, answer_by, answers_but, reasons_beside, reasons_but, reasons_unless}
use Rattle.text_index.specs.NamingLines.{Register}
use Rattle.text_index.specs.declared.indexing.TextIndex.{TextIndex}

beside_means : (held : Option (Bor Revocations)) (list : Revocations) (canaries : Option (List Entry)) (entries : List Entry) → MeanCanaries held canaries → Means list entries
    → (asked : Subject) → reasons_beside held list asked ≡ reasons_but canaries entries asked
beside_means None list None entries are means asked = meant_reasons list entries means asked
beside_means None list (Some canaries) entries are means asked = absurd are
beside_means (Some held) list None entries are means asked = absurd are
beside_means (Some held) list (Some canaries) entries are means asked =
    ap (λ (r : Reasons). reasons_unless (has_reason (held_reasons held.now asked) reason_of_key) r) (meant_reasons list entries means asked)
    ∙ ap (λ (r : Reasons). reasons_unless (has_reason r reason_of_key) (reasons_of entries asked)) (meant_reasons held.now canaries are asked)

-- some answers are those of a list and of texts
pub answers_of : (held : Option (Bor Revocations)) (list : Revocations) (index : Option (Bor TextIndex)) → IsUsable index → (answers : Subject → Answer) × AnswersAs held list index answers
answers_of held list None usable = (λ asked. answer_by None asked (reasons_beside held list asked), record { texts = None; indexed = tt; answers_are = λ asked. refl })
answers_of held list (Some index) usable =
    (λ asked. answer_by (Some usable.0) asked (reasons_beside held list asked), record { texts = Some usable.0; indexed = usable.1; answers_are = λ asked. refl })

pub answers_as_meant : (held : Option (Bor Revocations)) (list : Revocations) (index : Option (Bor TextIndex)) (canaries : Option (List Entry)) (entries : List Entry) (texts : Option Register)
    → MeanCanaries held canaries → Means list entries → AreIndexed index texts → AnswersAs held list index (answers_but canaries entries texts)
answers_as_meant held list index canaries entries texts are means indexed = record {
  texts = texts;
  indexed = indexed;
  answers_are = λ asked. ap (answer_by texts asked) (beside_means held list canaries entries are means asked);
}
