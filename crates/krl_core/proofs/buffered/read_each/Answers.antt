use Rattle.krl_core.proofs.Common.{◌-◌, AllocError, arith, drop, length, nat_lt, Place, ReadsWhole}
use Rattle.krl_core.proofs.Common.{Result, subst, take}
use Rattle.krl_core.proofs.BufferedFields.{buffered_nearer, field_buffered, field_refused}
use Rattle.krl_core.proofs.BufferedFields.{some_none}
use Rattle.krl_core.proofs.buffered.read_each.Goals as goal

pub fields-init : goal.fields-init
fields-init g c = some_none _ _ _ c.requires

pub returns-in-Err : goal.returns-in-Err
returns-in-Err g c = field_refused c.args.bytes.now c.fields.at c.in-Some.size c.in-Err.error _ _ _ _ _ c.fields.invariant
    (subst (λ (r : Result Place AllocError). ReadsWhole (take (length c.args.bytes.now - c.fields.at) (drop c.fields.at c.args.bytes.now)) (nat_lt 0 c.fields.at) c.in-Some.size r c.fields.place c.fields.stored c.read_next.new.stored) c.in-Err.is c.in-Some.ensures)

pub fields-preserved : goal.fields-preserved
fields-preserved g c = field_buffered c.args.bytes.now c.fields.at c.in-Some.size _ _ c.in-Ok.next _ _ _ (λ i. omega (arith, c.type_inv.bytes i)) c.fields.invariant
    (subst (λ (r : Result Place AllocError). ReadsWhole (take (length c.args.bytes.now - c.fields.at) (drop c.fields.at c.args.bytes.now)) (nat_lt 0 c.fields.at) c.in-Some.size r c.fields.place c.fields.stored c.read_next.new.stored) c.in-Ok.is c.in-Some.ensures)

pub returns-then-is_one_of_many : goal.returns-then-is_one_of_many
returns-then-is_one_of_many g c = field_buffered c.args.bytes.now c.fields.at c.in-Some.size _ _ c.in-Ok.next _ _ _ (λ i. omega (arith, c.type_inv.bytes i)) c.fields.invariant
    (subst (λ (r : Result Place AllocError). ReadsWhole (take (length c.args.bytes.now - c.fields.at) (drop c.fields.at c.args.bytes.now)) (nat_lt 0 c.fields.at) c.in-Some.size r c.fields.place c.fields.stored c.read_next.new.stored) c.in-Ok.is c.in-Some.ensures)

pub fields-smaller : goal.fields-smaller
fields-smaller g c =
    let field = subst (λ (r : Result Place AllocError). ReadsWhole (take (length c.args.bytes.now - c.fields.at) (drop c.fields.at c.args.bytes.now)) (nat_lt 0 c.fields.at) c.in-Some.size r c.fields.place c.fields.stored c.read_next.new.stored) c.in-Ok.is c.in-Some.ensures in
    let more = field_buffered c.args.bytes.now c.fields.at c.in-Some.size _ _ c.in-Ok.next _ _ _ (λ i. omega (arith, c.type_inv.bytes i)) c.fields.invariant field in
    buffered_nearer c.args.bytes.now c.fields.at c.in-Some.size c.fields.place c.in-Ok.next _ _ more.within field
