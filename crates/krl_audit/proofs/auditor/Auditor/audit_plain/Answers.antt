-- The file has no key, or is audited line by line.
use Rattle.std.proofs.Common.{ap, ◌∙◌}
use Rattle.key_text.specs.Lines.{lines_left}
use Rattle.audit_lines.specs.Front.{fronts_of}
use Rattle.audit_lines.specs.Outcome.{outcomes_of, read_all}
use Rattle.krl_audit.proofs.Files.{told_lines, told_no_memory, told_whole}
use Rattle.krl_audit.proofs.auditor.Auditor.audit_plain.Goals as goal

pub returns-in_default-clause-told : goal.returns-in_default-clause-told
returns-in_default-clause-told g c = λ answers judges. told_no_memory answers _ c.args.shown.now c.args.read_as.now c.args.text.now c.whole.result _ _ _ c.whole.ensures

pub returns-in-Ok-Some-clause-told : goal.returns-in-Ok-Some-clause-told
returns-in-Ok-Some-clause-told g c =
    let kind = c.of-fronts.result in
    let counted = c.in-Ok-Some.ensures (outcomes_of kind c.split_line.result.0.now) (read_all kind (lines_left c.split_line.result.1)) c.in-Ok.ensures (ap (read_all kind) c.split_line.ensures.lines) in
    let several = rw c.in-Ok-Some.field-0-is at counted in
    λ answers judges. told_whole answers _ c.args.shown.now c.args.read_as.now c.args.text.now _ kind _ _ _ _ _ _ _ (c.of-fronts.ensures ∙ ap fronts_of c.as_bytes.ensures.value) c.split_line.ensures.lines several (c.say_whole.ensures.told answers judges)

pub returns-in-Ok-None-clause-told : goal.returns-in-Ok-None-clause-told
returns-in-Ok-None-clause-told g c =
    let kind = c.of-fronts.result in
    let counted = c.in-Ok-None.ensures (outcomes_of kind c.split_line.result.0.now) (read_all kind (lines_left c.split_line.result.1)) c.in-Ok.ensures (ap (read_all kind) c.split_line.ensures.lines) in
    let none = rw c.in-Ok-None.field-0-is at counted in
    λ answers judges. told_lines answers _ c.args.shown.now c.args.read_as.now c.args.text.now _ kind _ _ _ _ _ _ (c.of-fronts.ensures ∙ ap fronts_of c.as_bytes.ensures.value) c.split_line.ensures.lines none (c.audit_from.ensures.told (outcomes_of kind c.split_line.result.0.now) c.in-Ok.ensures answers judges)

pub returns-clause-told : goal.returns-clause-told
returns-clause-told g c = λ answers judges. told_no_memory answers _ c.args.shown.now c.args.read_as.now c.args.text.now c.whole-in-Err.result _ _ _ c.whole-in-Err.ensures
