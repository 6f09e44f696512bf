-- One field of the header after another is skipped.
use Rattle.std.proofs.Common.{[], ◌∙◌, subst, sym}
use Rattle.std.proofs.lemmas.Bool.{false≢true}
use Rattle.ssh_wire.specs.Rows.{BeginsWithPart}
use Rattle.krl_openssh.proofs.Spelled.{Leaves, leaves_field, leaves_next}
use Rattle.krl_openssh.proofs.authorities.past_header.Goals as goal

pub loop-at-init : goal.loop-at-init
loop-at-init c = λ header sections spells.
    rw c.new-left.ensures ([], spells.values, spells.fields)

pub returns-then-not-skips_part : goal.returns-then-not-skips_part
returns-then-not-skips_part c = λ header sections spells.
    let leaves = subst (λ at. Leaves at c.loop-at.left spells.body) c.in-Some.is (c.loop-at.invariant header sections spells) in
    let front = leaves_field c.in-Some.field c.loop-at.left spells.body leaves in
    let begins = subst (λ part. BeginsWithPart part c.loop-at.left front.0 front.1) (sym c.row-part.ensures.part) front.2 in
    false≢true (sym c.if-not-skips_part.true ∙ (c.skips_part.ensures front.0 front.1 begins).0)

pub loop-at-preserved : goal.loop-at-preserved
loop-at-preserved c = λ header sections spells.
    let leaves = subst (λ at. Leaves at c.loop-at.left spells.body) c.in-Some.is (c.loop-at.invariant header sections spells) in
    rw c.row-part.ensures.next (leaves_next c.in-Some.field c.loop-at.left c.skips_part.new.left spells.body leaves
    (λ value rest begins. (c.skips_part.ensures value rest (subst (λ part. BeginsWithPart part c.loop-at.left value rest) (sym c.row-part.ensures.part) begins)).1))

pub returns : goal.returns
returns c = λ header sections spells.
    let leaves = subst (λ at. Leaves at c.loop-at.left spells.body) c.in_default.is (c.loop-at.invariant header sections spells) in
    c.rest.ensures ∙ leaves.2.1
