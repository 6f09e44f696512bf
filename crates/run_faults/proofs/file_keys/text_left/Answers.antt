-- The keys of a text take at most its bytes.
use Rattle.std.proofs.Common.{arith}
use Rattle.run_faults.proofs.Sizes.{text_key_room, text_lines_room}
use Rattle.run_faults.proofs.file_keys.text_left.Goals as goal

pub returns-then-is_container-clause-size : goal.returns-then-is_container-clause-size
returns-then-is_container-clause-size c = λ name. text_key_room name c.args.text.now (λ i. omega (arith, c.type_inv.text i))

pub returns-else-is_container-clause-size : goal.returns-else-is_container-clause-size
returns-else-is_container-clause-size c = λ name. text_lines_room name c.args.text.now (λ i. omega (arith, c.type_inv.text i))
