-- Each turn writes a line.
use Rattle.std.proofs.Common.{◌∙◌, ap, append-nil, map, sym}
use Rattle.std.proofs.lemmas.List.{map-append}
use Rattle.json_lines.specs.Field.{values_tokens}
use Rattle.json_lines.proofs.Objects.{values_append}
use Rattle.text_index.specs.Indexing.{line_of}
use Rattle.audit_text.specs.Objects.{entry_value}
use Rattle.audit_text.proofs.EachLine.{one_more}
use Rattle.audit_text.proofs.explained.LinesOfValues.put_values.Goals as goal

pub loop-line-init : goal.loop-line-init
unfolding values_tokens
loop-line-init c = sym (append-nil c.args.out.now)

pub loop-line-preserved : goal.loop-line-preserved
loop-line-preserved c =
    one_more line_of (λ lines. values_tokens (map entry_value lines)) (λ a b. ap values_tokens (map-append entry_value a b) ∙ values_append (map entry_value a) (map entry_value b))
    _ _ _ c.args.self.now.0.now c.loop-line.line-index _ c.loop-line-test.true c.loop-line.invariant c.in_ok-put_line.ensures
