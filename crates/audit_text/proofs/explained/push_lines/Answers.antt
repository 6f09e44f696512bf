-- Each turn appends a line.
use Rattle.std.proofs.Common.{◌∙◌, ap, append-nil, sym, List, ℕ, ◌++◌, flat_map}
use Rattle.std.proofs.lemmas.Grind.{flat_map-append}
use Rattle.text_index.specs.Indexing.{line_of}
use Rattle.audit_text.specs.Text.{entry_line}
use Rattle.audit_text.proofs.EachLine.{one_more}
use Rattle.audit_text.proofs.explained.push_lines.Goals as goal

pub loop-line-preserved : goal.loop-line-preserved
loop-line-preserved c =
    one_more line_of (flat_map entry_line) (flat_map-append entry_line) _ _ _ c.args.lines.now c.loop-line.line-index _ c.loop-line-test.true c.loop-line.invariant
    (c.in_ok-push_line.ensures ∙ ap (λ (more : List ℕ). c.loop-line.text.items ++ more) (sym (append-nil _)))
