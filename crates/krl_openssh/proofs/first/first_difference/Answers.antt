-- The next field exists, and has a difference or not.
use Rattle.std.proofs.Common.{◌≡◌, ℕ, List, None, Option, refl, sym}
use Rattle.std.proofs.lemmas.Bool.{false≢true}
use Rattle.std.proofs.lemmas.List.{take_rest}
use Rattle.krl_format.specs.Front.{IsFirstKrlFault, start}
use Rattle.krl_openssh.specs.Difference.{first_difference}
use Rattle.krl_openssh.specs.Fields.{HasFields, IsFirstDifference}
use Rattle.krl_openssh.specs.declared.difference.Difference.{Difference}
use Rattle.krl_openssh.proofs.Rows.{begins, comes_nearer, ends, found, goes_on, has_fields, missing}
use Rattle.krl_openssh.proofs.first.first_difference.Goals as goal

-- a list without a fault has fields
by_fields : (list : List ℕ) (difference : Option Difference) → IsFirstKrlFault list None → ((fields : List (List ℕ)) → HasFields list fields → difference ≡ first_difference start.place fields) → IsFirstDifference list difference
by_fields list difference none is =
    let some = has_fields list none in
    record { fields = some.0; has = some.1; difference_is = is some.0 some.1 }

pub fields-init : goal.fields-init
fields-init c = rw c.start-place.ensures (begins c.args.list.now)

pub returns-in_default : goal.returns-in_default
returns-in_default c = by_fields c.args.list.now None c.requires (λ fields is.
    absurd (missing fields c.fields.place c.fields.rest.now (λ end. false≢true (c.fields-test.ensures.1 end)) (c.fields.invariant fields is)
    (λ field after next passes parts. c.in_default.ensures.found field after next passes parts refl)))

pub returns-in-Some-difference_at : goal.returns-in-Some-difference_at
returns-in-Some-difference_at c = by_fields c.args.list.now _ c.requires (λ fields is.
    found fields c.fields.place c.in-Some.next c.fields.rest.now c.in-Some.size (λ end. false≢true (c.fields-test.ensures.1 end)) (c.fields.invariant fields is) c.in-Some.ensures.passes
    c.in-Some-difference_at.difference (sym c.in-Some-difference_at.ensures))

pub fields-preserved : goal.fields-preserved
fields-preserved c = λ fields is.
    goes_on fields c.fields.place c.in-Some.next c.fields.rest.now c.in-Some.size (λ end. false≢true (c.fields-test.ensures.1 end)) (c.fields.invariant fields is) c.in-Some.ensures.passes
    _ (take_rest c.fields.rest.now c.in-Some.size) (sym c.in_default-difference_at.ensures)

pub fields-smaller : goal.fields-smaller
fields-smaller c = comes_nearer c.fields.place c.in-Some.next c.fields.rest.now c.in-Some.size c.in-Some.ensures.within c.in-Some.ensures.passes

pub returns : goal.returns
returns c = by_fields c.args.list.now None c.requires (λ fields is. ends fields c.fields.place c.fields.rest.now (c.fields-test.ensures.0 refl) (c.fields.invariant fields is))
