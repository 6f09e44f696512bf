-- A private key file is none of these files, and any other is surveyed.
use Rattle.std.proofs.Common.{sym, ap, ◌∙◌}
use Rattle.std.proofs.lemmas.Result.{IfOk-weaker}
use Rattle.key_text.specs.Lines.{lines_left}
use Rattle.audit_lines.specs.Front.{fronts_of}
use Rattle.audit_lines.specs.Outcome.{outcomes_of, read_all}
use Rattle.audit_lines.proofs.KeylessFiles.{plain_is, private_is_not}
use Rattle.audit_lines.proofs.survey.keyless_lines.Goals as goal

pub returns-then-is_container : goal.returns-then-is_container
returns-then-is_container c = private_is_not c.args.name.now c.args.text.now (sym c.is_container.ensures ∙ c.if-is_container.true)

pub returns : goal.returns
returns c =
    let kind = c.of-fronts.result in
    let is = plain_is c.args.name.now c.args.text.now _ kind _ (sym c.is_container.ensures ∙ c.if-is_container.false) (c.of-fronts.ensures ∙ ap fronts_of c.as_bytes.ensures.value) c.split_line.ensures.lines in
    IfOk-weaker c.keyless.result _ _ (λ count e. e ∙ is) (c.keyless.ensures (outcomes_of kind c.split_line.result.0.now) (read_all kind (lines_left c.split_line.result.1)) c.in_ok-first.ensures (ap (read_all kind) c.split_line.ensures.lines))
