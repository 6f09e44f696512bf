-- The files so far were answered.
use Rattle.std.proofs.Common.{Ok, take}
use Rattle.run_output.specs.Carries.{Carries}
use Rattle.run_output.specs.Run.{Answering, files_items}
use Rattle.run_output.proofs.iteration.print_files.Given as goal

abbrev pub invariant-loop-file : goal.invariant-loop-file
invariant-loop-file g l = (answering : Answering) → g.A.Answers.answers_as l.answers answering → Carries (files_items answering (take l.file-index l.files)) (Ok (tt {0})) l.initial.run.printer l.run.printer
