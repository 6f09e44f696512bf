use Rattle.krl_writer.proofs.Common.{◌++◌, ◌≡◌, ◌≤◌, length, limit, strings}
use Rattle.krl_writer.proofs.strings.add_strings.Given as goal

abbrev pub invariant-loop-text : goal.invariant-loop-text
invariant-loop-text l = record {
  bytes : l.out.items ++ strings l.text-iterator ≡ l.initial.out.items ++ strings l.fn.texts;
  within : length l.out.items ≤ limit;
}
