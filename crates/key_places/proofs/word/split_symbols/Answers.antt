use Rattle.std.proofs.Common.{sym, ◌∙◌, arith}
use Rattle.std.proofs.lemmas.List.{take_all, drop_all}
use Rattle.std.proofs.lemmas.List.Sums.{prefix_len_is}
use Rattle.key_places.specs.Word.{is_symbol}
use Rattle.key_places.proofs.word.split_symbols.Goals as goal

pub returns-then-not-is_symbol-clause-front : goal.returns-then-not-is_symbol-clause-front
returns-then-not-is_symbol-clause-front c =
    let size =
    prefix_len_is is_symbol c.args.text.now c.loop-i.i 0 (omega arith) c.loop-i.invariant
    (λ h. sym c.is_symbol.ensures ∙ c.if-not-is_symbol.true) in
    rw size c.split_at.ensures.front

pub returns-then-not-is_symbol-clause-rest : goal.returns-then-not-is_symbol-clause-rest
returns-then-not-is_symbol-clause-rest c =
    let size =
    prefix_len_is is_symbol c.args.text.now c.loop-i.i 0 (omega arith) c.loop-i.invariant
    (λ h. sym c.is_symbol.ensures ∙ c.if-not-is_symbol.true) in
    rw size c.split_at.ensures.back

pub returns-clause-front : goal.returns-clause-front
returns-clause-front c =
    let size =
    prefix_len_is is_symbol c.args.text.now c.loop-i.i 0 (omega arith) c.loop-i.invariant (λ h. absurd (omega arith)) in
    rw size (sym (take_all c.loop-i.i c.args.text.now (omega arith)))

pub returns-clause-rest : goal.returns-clause-rest
returns-clause-rest c =
    let size =
    prefix_len_is is_symbol c.args.text.now c.loop-i.i 0 (omega arith) c.loop-i.invariant (λ h. absurd (omega arith)) in
    rw size (sym (drop_all c.loop-i.i c.args.text.now (omega arith)))
