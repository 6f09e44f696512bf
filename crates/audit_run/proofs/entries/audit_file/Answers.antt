-- The file is not opened, is no regular one any more, or is read by its name or its first bytes.
use Rattle.std.proofs.Common.{refl}
use Rattle.std.proofs.lemmas.Result.{err_from_is_err_and}
use Rattle.audit_run.specs.Entries.{not_opened, not_regular, private_only, regular}
use Rattle.audit_run.proofs.Auditing.{goes, goes_as, goes_nothing}
use Rattle.audit_run.proofs.Contents.{comes_empty}
use Rattle.audit_run.proofs.entries.audit_file.Goals as goal

pub returns-in_err-opened : goal.returns-in_err-opened
returns-in_err-opened g c =
    let p = err_from_is_err_and c.from_residual.result c.from_residual.ensures.1 in
    rw (p.1, p.2) (goes_nothing _ _)

pub returns-in-Err : goal.returns-in-Err
returns-in-Err g c =
    goes c.audit.result _ _ _ _
    (not_opened c.args.found c.in-Err.refusal refl c.requires (rw c.in-Err.is at c.in_ok-opened.ensures.closed) refl) c.audit.ensures

pub returns-then-not-opened : goal.returns-then-not-opened
returns-then-not-opened g c =
    goes c.audit-then-not-opened.result _ _ _ _
    (not_regular c.args.found _ refl c.requires (rw c.in-Ok.is at c.in_ok-opened.ensures.opened) c.if-not-opened.true refl)
    c.audit-then-not-opened.ensures

pub returns-then-entry : goal.returns-then-entry
returns-then-entry g c =
    let left = g.T.File.Source.left c.in-Ok.opened.file in
    let opens = rw c.in-Ok.is at c.in_ok-opened.ensures.opened in
    let went = rw c.take_text-text.ensures.kept
    at (c.audit_opened.ensures left (comes_empty left c.take_text-text.result.items c.take_text-text.ensures.empty)) in
    goes_as c.audit_opened.result _ _ _ _
    (λ visits is. regular c.args.found _ refl c.requires opens c.if-not-opened.false c.if-entry.true is) went

pub returns-else-entry : goal.returns-else-entry
returns-else-entry g c =
    let opens = rw c.in-Ok.is at c.in_ok-opened.ensures.opened in
    let went = rw c.take_text-text.ensures.kept at c.audit_private.ensures in
    goes_as c.audit_private.result _ _ _ _
    (λ visits is. private_only c.args.found _ refl c.requires opens c.if-not-opened.false c.if-entry.false is) went
