use Rattle.krl_core.proofs.Common.{arith, FieldStore, InStep, Place, ReadsSome, subst, sym}
use Rattle.krl_core.proofs.buffered.read_front.Goals as goal

pub read_each-requires : goal.read_each-requires
read_each-requires g c =
    let same = c.skip_out_of_scope-count.ensures.none (omega arith) in
    subst (λ (k : FieldStore). InStep c.skip_out_of_scope-count.new.place k.bitmap) (sym same.1) (subst (λ (p : Place). InStep p c.args.stored.now.bitmap) (sym same.0) c.requires.in_step)

pub returns : goal.returns
returns g c =
    let same = c.skip_out_of_scope-count.ensures.none (omega arith) in
    subst (λ (k : FieldStore). ReadsSome c.args.bytes.now c.read_each.result.0 c.read_each.result.1 c.args.place.now k c.read_each.new.place c.read_each.new.stored) same.1
    (subst (λ (p : Place). ReadsSome c.args.bytes.now c.read_each.result.0 c.read_each.result.1 p c.skip_out_of_scope-count.new.stored c.read_each.new.place c.read_each.new.stored) same.0 c.read_each.ensures)
