-- Call by call.
use Rattle.std.specs.Prelude.{nat_eq}
use Rattle.std.specs.List.{starts_with}
use Rattle.krl_format.specs.Krl.{magic}
use Rattle.krl_c.proofs.AnswerNumbers.{for_blob, for_line, of_any, of_ask, of_check, of_check_line, of_load, of_why}
use Rattle.krl_c.proofs.laws.numbers.some_numbers_are_never_answered.Goals as goal

pub returns : goal.returns
returns c = record {
  check = of_check;
  any = λ list blob answer is. of_any (starts_with nat_eq list magic) list blob answer is;
  line = of_check_line;
  why = of_why;
  load = of_load;
  ask = λ stored blob answer ready is. of_ask stored answer (λ entries. for_blob entries blob answer) ready is;
  ask_line = λ stored text answer ready is. of_ask stored answer (λ entries. for_line entries text answer) ready is;
}
