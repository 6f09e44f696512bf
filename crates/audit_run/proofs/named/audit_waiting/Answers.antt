-- The path is not opened, or a regular file is open there, or something else.
use Rattle.std.proofs.Common.{refl}
use Rattle.std.proofs.lemmas.Result.{err_from_is_err_and}
use Rattle.audit_run.specs.Named.{not_opened, not_regular, regular}
use Rattle.audit_run.proofs.Auditing.{goes, goes_as, goes_nothing}
use Rattle.audit_run.proofs.Contents.{comes_empty}
use Rattle.audit_run.proofs.named.audit_waiting.Goals as goal

pub returns-in_err-opened : goal.returns-in_err-opened
returns-in_err-opened g c =
    let p = err_from_is_err_and c.from_residual.result c.from_residual.ensures.1 in
    rw (p.1, p.2) (goes_nothing _ _)

pub returns-in-Err : goal.returns-in-Err
returns-in-Err g c =
    goes c.audit.result _ _ _ _ (not_opened c.in-Err.refusal (rw c.in-Err.is at c.in_ok-opened.ensures.closed) refl) c.audit.ensures

pub returns-then-is_file : goal.returns-then-is_file
returns-then-is_file g c =
    let left = g.T.File.Source.left c.in-Ok.opened.file in
    let opens = rw c.in-Ok.is at c.in_ok-opened.ensures.opened in
    let went = rw c.take_text-text.ensures.kept
    at (c.audit_opened.ensures left (comes_empty left c.take_text-text.result.items c.take_text-text.ensures.empty)) in
    goes_as c.audit_opened.result _ _ _ _ (λ visits is. regular _ opens c.if-is_file.true is) went

pub returns-else-is_file : goal.returns-else-is_file
returns-else-is_file g c =
    let left = g.T.File.Source.left c.in-Ok.opened.file in
    let opens = rw c.in-Ok.is at c.in_ok-opened.ensures.opened in
    let went = rw c.take_text-text.ensures.kept
    at (c.audit_read.ensures left (comes_empty left c.take_text-text.result.items c.take_text-text.ensures.empty)) in
    goes_as c.audit_read.result _ _ _ _ (λ visits is. not_regular _ opens c.if-is_file.false is) went
