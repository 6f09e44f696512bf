-- The first piece comes before the bytes that the rest writes.
use Rattle.std.proofs.Common.{◌≡◌, ◌++◌, ◌<◌, length, drop, ap, ◌∙◌, arith, length-take-le}
use Rattle.std.proofs.lemmas.Grind.{common_steps}
use Rattle.krl_c.specs.Written.{written}
use Rattle.krl_c.proofs.WrittenTexts.{begun, put, rest}
use Rattle.krl_c.proofs.written.write.Goals as goal

pub returns-clause-written : goal.returns-clause-written
returns-clause-written c =
    let n = c.min-count.result in
    let old = c.args.buffer.now in
    let some : 0 < length old = grind (arith, common_steps) in
    let count : length c.copy_from_slice.new.self ≡ n = cc (c.copy_from_slice.ensures.after, length-take-le n c.args.head.now (omega arith)) in
    put n c.copy_from_slice.new.self (drop n old) c.end_with.new.buffer count
    ∙ ap (λ bs. c.copy_from_slice.new.self ++ bs) (c.end_with.ensures ∙ ap (λ bs. written c.args.tail.now bs) (rest n c.copy_from_slice.new.self (drop n old) count))
    ∙ ap (λ bs. bs ++ written c.args.tail.now (drop n old)) c.copy_from_slice.ensures.after
    ∙ begun c.args.head.now c.args.tail.now old n some c.min-count.ensures
