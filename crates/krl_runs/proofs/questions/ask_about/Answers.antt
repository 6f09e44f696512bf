-- The keys of the files so far are still in the queries, and those of one more file are too.
use Rattle.krl_runs.proofs.Common.{◌*◌, ◌+◌, ◌∙◌, ap, arith, file_size, files_size, take}
use Rattle.std.proofs.lemmas.List.Sums.{sum_by_more}
use Rattle.krl_runs.proofs.Bounds.{asks_then}
use Rattle.krl_runs.proofs.ExpectedKeys.{files_more}
use Rattle.krl_runs.proofs.questions.ask_about.Goals as goal

pub loop-file-preserved : goal.loop-file-preserved
loop-file-preserved c =
    let asked = c.in_ok-ask_file.ensures in
    let now = c.ask_file.new.questions.topics in
    let files = c.args.files.now in
    let i = c.loop-file.file-index in
    let more = sum_by_more file_size files i c.file-item.result c.loop-file-test.true in
    record {
      found = asked.found ∙ c.loop-file.invariant.found;
      orderly = asked.orderly;
      asked = files_more c.loop-file.questions.topics now files i c.file-item.result asked.more c.loop-file.invariant.asked c.loop-file-test.true c.file-item.is asked.asked;
      within = asks_then (3 * files_size (take i files)) (3 * file_size c.file-item.result) (3 * files_size (take (i + 1) files)) _ _ now
          (omega (arith, more, ap file_size c.file-item.is)) c.loop-file.invariant.within asked.within;
    }
