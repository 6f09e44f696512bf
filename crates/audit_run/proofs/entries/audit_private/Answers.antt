-- The first bytes begin a private key file, or cannot be read.
use Rattle.std.proofs.Common.{◌∙◌, ap, sym, refl, true, List, ℕ}
use Rattle.std.proofs.lemmas.Result.{err_from_is_err_and}
use Rattle.key_text.specs.Armour.{begins_container}
use Rattle.audit_run.specs.Entries.{private, unread}
use Rattle.audit_run.specs.Reading.{front_of}
use Rattle.audit_run.proofs.Auditing.{goes, goes_as, goes_nothing}
use Rattle.audit_run.proofs.Contents.{front_begins}
use Rattle.audit_run.proofs.entries.audit_private.Goals as goal

pub returns-in_err-read_front : goal.returns-in_err-read_front
returns-in_err-read_front g c =
    let p = err_from_is_err_and c.from_residual.result c.from_residual.ensures.1 in
    rw (p.1, p.2) (goes_nothing _ _)

pub returns-then-not-branch : goal.returns-then-not-branch
returns-then-not-branch g c =
    goes c.audit.result _ _ _ _ (unread c.why_unread-refusal.result c.why_unread-refusal.ensures refl)
    (rw c.round.view_is at c.audit.ensures)

pub returns-then-is_private : goal.returns-then-is_private
returns-then-is_private g c =
    let left = g.T.File.Source.left c.args.reading.file in
    let begun = c.in_ok-read_front.ensures.begun c.if-not-branch.false in
    let begins = ap (λ (text : List ℕ). begins_container (front_of text)) (sym c.as_slice.ensures.value)
    ∙ sym c.is_private.ensures ∙ c.if-is_private.true in
    goes_as c.audit_opened.result _ _ _ _
    (λ visits is. private (front_begins left c.read_front.new.text.items true begins begun.same) is)
    (c.audit_opened.ensures left begun.comes)
