-- The reasons that no line gives follow the lines.
use Rattle.std.proofs.Common.{Some, append_assoc, map}
use Rattle.std.specs.List.{flat_map}
use Rattle.text_index.specs.Explaining.{explained_of}
use Rattle.text_index.specs.Indexing.{line_of}
use Rattle.audit_text.specs.Print.{spelled_by}
use Rattle.audit_text.specs.Text.{entry_line, explained_text, unnamed_line}
use Rattle.audit_text.proofs.explained.push_explained.Goals as goal

pub returns-in_ok-push_unnamed : goal.returns-in_ok-push_unnamed
unfolding explained_text
returns-in_ok-push_unnamed c =
    let explanation = c.args.explanation.now in
    let lines = rw c.as_slice.ensures.value at c.in_ok-push_lines.ensures in
    let unnamed = rw c.name_in-authority.ensures at c.in_ok-push_unnamed.ensures in
    rw (unnamed, lines, ← c.if-any.ensures)
    (append_assoc c.args.text.now.items (flat_map entry_line (map line_of explanation.lines.items))
    (unnamed_line (spelled_by c.args.by (Some (explained_of explanation))) c.args.subject.now explanation.unnamed))
