-- If all keys that are left are in the queries, all keys of the file are. The file has room for the queries and for the
-- keys that are left.
use Rattle.krl_runs.proofs.Common.{◌≡◌, AreExpected, Asks, AsksMore, file_size, IsOrderly}
use Rattle.krl_runs.proofs.Common.{keys_of, Revocations}
use Rattle.krl_runs.proofs.Bounds.{LeavesRoom}
use Rattle.krl_runs.proofs.questions.ask_file.Given as goal

abbrev pub invariant-loop-next : goal.invariant-loop-next
invariant-loop-next l = record {
  found : l.questions.found ≡ l.initial.questions.found;
  orderly : IsOrderly l.questions.topics;
  more : AsksMore l.initial.questions.topics l.questions.topics;
  asked : (later : Revocations) → AsksMore l.questions.topics later → AreExpected (Asks later) l.next-iterator → AreExpected (Asks later) (keys_of l.file);
  within : LeavesRoom (file_size l.file) l.next-iterator l.initial.questions.topics l.questions.topics;
}
