-- The fields were read one after the other, up to a fault or to the end.
use Rattle.std.proofs.Common.{sym, refl, ◌∙◌}
use Rattle.std.proofs.lemmas.Result.{err_from_is_err_and}
use Rattle.key_text.proofs.ContainerReads.{list_ended, list_no_comment, list_no_head, list_no_secret}
use Rattle.key_text.proofs.container.list.read_list.Goals as goal

pub returns-in_err-_check : goal.returns-in_err-_check
returns-in_err-_check c =
    let p = err_from_is_err_and c.from_residual.result c.from_residual.ensures.1 in
    let begun = rw c.new-cursor.ensures at c.in_err-_check.ensures in
    rw (p.1, p.2) (list_no_head c.args.key.now c.args.list.now _ begun)

pub returns-in_err-same : goal.returns-in_err-same
returns-in_err-same c =
    let p = err_from_is_err_and c.from_residual-in_err-same.result c.from_residual-in_err-same.ensures.1 in
    let begun = rw c.new-cursor.ensures at c.in_ok-_check.ensures in
    rw (p.1, p.2) (list_no_secret c.args.key.now c.args.list.now _ _ begun c.in_err-same.ensures)

pub returns-in_err-comment : goal.returns-in_err-comment
returns-in_err-comment c =
    let p = err_from_is_err_and c.from_residual-in_err-comment.result c.from_residual-in_err-comment.ensures.1 in
    let begun = rw c.new-cursor.ensures at c.in_ok-_check.ensures in
    rw (p.1, p.2) (list_no_comment c.args.key.now c.args.list.now _ _ _ _ begun c.in_ok-same.ensures c.in_err-comment.ensures.exact.0)

pub returns-then-not-same : goal.returns-then-not-same
returns-then-not-same c =
    let begun = rw c.new-cursor.ensures at c.in_ok-_check.ensures in
    list_ended c.args.key.now c.args.list.now _ _ _ _ _ begun c.in_ok-same.ensures c.in_ok-comment.ensures.exact
    ∙ rw c.if-not-same.true refl

pub returns-then-not-is_padding : goal.returns-then-not-is_padding
returns-then-not-is_padding c =
    let begun = rw c.new-cursor.ensures at c.in_ok-_check.ensures in
    let other = rw c.rest.ensures at (sym c.is_padding.ensures ∙ c.if-not-is_padding.true) in
    list_ended c.args.key.now c.args.list.now _ _ _ _ _ begun c.in_ok-same.ensures c.in_ok-comment.ensures.exact
    ∙ rw (c.if-not-same.false, other) refl

pub returns : goal.returns
returns c =
    let begun = rw c.new-cursor.ensures at c.in_ok-_check.ensures in
    let padded = rw c.rest.ensures at (sym c.is_padding.ensures ∙ c.if-not-is_padding.false) in
    list_ended c.args.key.now c.args.list.now _ _ _ _ _ begun c.in_ok-same.ensures c.in_ok-comment.ensures.exact
    ∙ rw (c.if-not-same.false, padded) refl
