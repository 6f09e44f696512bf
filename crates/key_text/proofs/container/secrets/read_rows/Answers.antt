use Rattle.std.proofs.lemmas.Result.{err_from_is_err_and}
use Rattle.key_text.proofs.SecretRows.{rows_first, rows_others, rows_same}
use Rattle.key_text.proofs.container.secrets.read_rows.Goals as goal

pub returns-in_err-among : goal.returns-in_err-among
returns-in_err-among c kind has =
    let p = err_from_is_err_and c.from_residual.result c.from_residual.ensures.1 in
    rw (p.1, p.2) (rows_first kind _ _ c.args.public.now c.args.cursor.now _ has c.in_err-among.ensures)

pub returns-in_err-_private : goal.returns-in_err-_private
returns-in_err-_private c kind has =
    let p = err_from_is_err_and c.from_residual-in_err-_private.result c.from_residual-in_err-_private.ensures.1 in
    rw (p.1, p.2) (rows_others kind _ _ c.args.public.now c.args.cursor.now _ _ _ has c.in_ok-among.ensures c.in_err-_private.ensures)

pub returns : goal.returns
returns c kind has = rw c.eq.ensures (rows_same kind _ _ c.args.public.now c.args.cursor.now _ _ _ _ has c.in_ok-among.ensures c.in_ok-_private.ensures)
