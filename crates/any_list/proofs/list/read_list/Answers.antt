-- The bytes begin as a key revocation list, or they are a plain list.
use Rattle.std.proofs.Common.{◌≡◌, ◌∙◌, arith, sym, true, false}
use Rattle.std.proofs.lemmas.Result.{IfOk-weaker}
use Rattle.plain_list.specs.Any.{begins_list}
use Rattle.any_list.proofs.Fronts.{file_read}
use Rattle.any_list.proofs.Forms.{read_if}
use Rattle.any_list.proofs.list.read_list.Goals as goal

pub returns-then-begins_list-clause-fits : goal.returns-then-begins_list-clause-fits
returns-then-begins_list-clause-fits c = λ i. omega (arith, c.type_inv.bytes i)

pub returns-then-begins_list-clause-found : goal.returns-then-begins_list-clause-found
returns-then-begins_list-clause-found c =
    let is : begins_list c.args.bytes.now ≡ true = sym c.begins_list.ensures ∙ c.if-begins_list.true in
    IfOk-weaker c.read_whole.result _ _ (λ list read. read_if true c.args.name.now c.args.bytes.now list is read) c.read_whole.ensures.found

pub returns-then-begins_list-clause-fault : goal.returns-then-begins_list-clause-fault
returns-then-begins_list-clause-fault c =
    let is : begins_list c.args.bytes.now ≡ true = sym c.begins_list.ensures ∙ c.if-begins_list.true in
    rw is c.read_whole.ensures.fault

pub returns-else-begins_list-clause-fits : goal.returns-else-begins_list-clause-fits
returns-else-begins_list-clause-fits c = λ i. omega (arith, c.type_inv.bytes i)

pub returns-else-begins_list-clause-found : goal.returns-else-begins_list-clause-found
returns-else-begins_list-clause-found c =
    let is : begins_list c.args.bytes.now ≡ false = sym c.begins_list.ensures ∙ c.if-begins_list.false in
    IfOk-weaker c.read_lines.result _ _ (λ list read. read_if false c.args.name.now c.args.bytes.now list is read) c.read_lines.ensures.found

pub returns-else-begins_list-clause-fault : goal.returns-else-begins_list-clause-fault
returns-else-begins_list-clause-fault c =
    let is : begins_list c.args.bytes.now ≡ false = sym c.begins_list.ensures ∙ c.if-begins_list.false in
    rw is c.read_lines.ensures.fault

pub returns-then-begins_list-clause-front : goal.returns-then-begins_list-clause-front
returns-then-begins_list-clause-front c = λ file is.
    file_read c.args.name.now c.args.bytes.now file c.read_whole.result is (returns-then-begins_list-clause-found c) (returns-then-begins_list-clause-fault c)

pub returns-else-begins_list-clause-front : goal.returns-else-begins_list-clause-front
returns-else-begins_list-clause-front c = λ file is.
    file_read c.args.name.now c.args.bytes.now file c.read_lines.result is (returns-else-begins_list-clause-found c) (returns-else-begins_list-clause-fault c)
