-- Each step skips one more field.
use Rattle.std.proofs.Common.{◌++◌, [], ap, sym, ◌∙◌, append_assoc, arith, subst}
use Rattle.std.proofs.lemmas.Result.{err_from_is_err_and}
use Rattle.ssh_wire.specs.Wire.{IsBytes}
use Rattle.ssh_wire.proofs.RowLaws.{part_takes}
use Rattle.key_text.proofs.SecretRows.{all_passed, none_passed, one_passed, one_refused}
use Rattle.key_text.proofs.container.secrets.pass_over.Goals as goal

pub loop-spelling-init : goal.loop-spelling-init
loop-spelling-init c = ([], c.rest-bytes.ensures, subst IsBytes c.rest-bytes.ensures (λ i. omega (arith, c.type_inv.bytes i)), rw c.rest-bytes.ensures (none_passed _))

pub loop-spelling-preserved : goal.loop-spelling-preserved
loop-spelling-preserved c =
    let (read, spelled, fits, so_far) = c.loop-spelling.invariant in
    let (value, took) = c.in_ok-pass.ensures in
    let taken = part_takes _ _ _ _ fits took in
    (_, spelled ∙ ap (λ rest. read ++ rest) taken.stands.spelled ∙ sym (append_assoc read _ _), taken.rest_fits, so_far ∙ one_passed c.args.row.now c.loop-spelling.spelling-index read c.loop-spelling.cursor value c.pass.new.cursor c.loop-spelling-test.true took)

pub returns-in_err-pass : goal.returns-in_err-pass
returns-in_err-pass c =
    let (read, spelled, fits, so_far) = c.loop-spelling.invariant in
    let p = err_from_is_err_and c.from_residual.result c.from_residual.ensures.1 in
    rw (p.1, p.2, ← c.rest-bytes.ensures) (so_far ∙ one_refused c.args.row.now c.loop-spelling.spelling-index read c.loop-spelling.cursor _ c.loop-spelling-test.true c.in_err-pass.ensures)

pub returns : goal.returns
returns c =
    let (read, spelled, fits, so_far) = c.loop-spelling.invariant in
    rw (← c.rest-bytes.ensures, c.read_part.ensures read (rw c.rest.ensures spelled)) (so_far ∙ all_passed c.args.row.now c.loop-spelling.spelling-index read c.loop-spelling.cursor c.loop-spelling-test.false)
