-- The keys so far were answered, and the others are left, and are expected too.
use Rattle.run_output.specs.Expected.{AreExpected}
use Rattle.run_output.specs.Run.{Answering}
use Rattle.run_output.proofs.AnsweredFiles.{IsReached, key_items}
use Rattle.run_output.proofs.iteration.print_file.Given as goal

abbrev pub invariant-loop-next : goal.invariant-loop-next
invariant-loop-next g l =
    ((answering : Answering) → g.A.Answers.answers_as l.answers answering → IsReached answering (key_items answering l.file) l.next-iterator l.said l.initial.run.printer l.run.printer)
    × AreExpected (g.A.Answers.expects l.answers) l.next-iterator
