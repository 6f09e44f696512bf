-- A comment without bytes has no line, and any other has one.
use Rattle.krl_runs.proofs.Common.{◌∙◌, carries_none, comment_line, sym}
use Rattle.krl_runs.proofs.PrintedContents.{no_comment, some_comment}
use Rattle.krl_runs.proofs.contents.print_comment.Goals as goal

pub returns-then-is_empty : goal.returns-then-is_empty
returns-then-is_empty g c =
    rw (no_comment c.args.comment.now (sym c.is_empty.ensures ∙ c.if-is_empty.true)) (carries_none tt _)

pub returns : goal.returns
returns g c =
    let comment = comment_line c.args.comment.now in
    let said = c.say_line.ensures comment c.write_comment-made.ensures in
    rw (some_comment c.args.comment.now (sym c.is_empty.ensures ∙ c.if-is_empty.false)) said
