-- The keys of the files so far are in the queries, and no more than these files have room for.
use Rattle.krl_runs.proofs.Common.{◌*◌, ◌<◌, ◌≡◌, AreExpected, Asks, files_size, IsOrderly}
use Rattle.krl_runs.proofs.Common.{keys_of, Named, slice_index_or, take, ℕ}
use Rattle.krl_runs.specs.Questions.{AsksAtMost}
use Rattle.krl_runs.proofs.questions.ask_about.Given as goal

abbrev pub invariant-loop-file : goal.invariant-loop-file
invariant-loop-file l = record {
  found : l.questions.found ≡ l.initial.questions.found;
  orderly : IsOrderly l.questions.topics;
  asked : (k : ℕ) (d : Named) → k < l.file-index → AreExpected (Asks l.questions.topics) (keys_of (slice_index_or l.files k d));
  within : AsksAtMost (3 * files_size (take l.file-index l.files)) l.initial.questions.topics l.questions.topics;
}
