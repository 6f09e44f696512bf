-- The effect of a part of a run: it prints all of its items, or ends the run.
use Rattle.std.specs.Prelude.{◌≡◌, ℕ, List, ◌∷◌, ◌++◌, Option, None, Some, Result}
use Rattle.std.specs.Result.{result_err}
use Rattle.run_output.specs.Done.{IsCutOff, RunsOutAfter}
use Rattle.run_output.specs.Printer.{Printer, HasSaid}
use Rattle.run_output.specs.Run.{Item, Stopped, outcome_of}
use Rattle.run_faults.specs.RunFault.{RunFault, EndedBy, ByOutput, ByMemory, ByInput, ended_by}

-- The next item ends the run: all before it was printed.
pub record IsStopped (before : Option (List ℕ)) (items : List Item) (stop : RunFault)
    (now : Printer) : Type 0 where
  pub said : List Item
  pub later : List Item
  pub parts : items ≡ said ++ Stopped stop ∷ later
  pub has_said : HasSaid before said now

-- An allocation failed at the next item: all before it was printed.
pub record IsOutOfMemory (before : Option (List ℕ)) (items : List Item) (stop : RunFault)
    (now : Printer) : Type 0 where
  pub said : List Item
  pub runs_out : RunsOutAfter said items stop
  pub has_said : HasSaid before said now

-- The output failed within the text of the first items.
pub record IsLost (before : Option (List ℕ)) (items : List Item) (count : ℕ) (stop : RunFault)
    (now : Printer) : Type 0 where
  pub said : List Item
  pub later : List Item
  pub parts : items ≡ said ++ later
  pub unstopped : (outcome_of said).stop ≡ None
  pub cut_off : IsCutOff said before now.taken now.failed stop count

abbrev pub IsEnded : EndedBy → Option (List ℕ) → List Item → RunFault → Printer → Type 0
IsEnded (ByOutput count) before items stop now = IsLost before items count stop now
IsEnded ByMemory before items stop now = IsOutOfMemory before items stop now
IsEnded ByInput before items stop now = IsStopped before items stop now

-- How far a run came: it has printed all of these items, or stopped within them.
abbrev pub Reaches : Option (List ℕ) → List Item → Option RunFault → Printer → Type 0
Reaches before items None now = HasSaid before items now
Reaches before items (Some stop) now = IsEnded (ended_by stop.cause) before items stop now

-- A part of a run prints its items after whatever was printed before, or stops within them.
pub record Carries {A : Type 0} (items : List Item) (result : Result A RunFault)
    (old new : Printer) : Type 0 where
  pub says : (before : Option (List ℕ)) (said : List Item) → HasSaid before said old
      → Reaches before (said ++ items) (result_err result) new
  pub writer : new.writer ≡ old.writer
