-- The end of a run: the text that its writer has taken, its status and its fault.
use Rattle.std.specs.Prelude.{◌≡◌, ℕ, Bool, true, false, List, ◌∷◌, ◌++◌, Option, Some, None}
use Rattle.std.specs.Prelude.{is_some}
use Rattle.std.specs.Io.KnownBytes.{Appends}
use Rattle.run_faults.specs.declared.cause.Cause.TheVariants.{NoMemory}
use Rattle.run_output.specs.Printer.{IsCut}
use Rattle.run_output.specs.Run.{Item, name_of, outcome_of, status_of}
use Rattle.run_faults.specs.RunFault.{RunFault, EndedBy, ByOutput, ByMemory, ByInput, ended_by}
use Rattle.run_faults.specs.RunFault.{output_run_fault}
use Rattle.run_faults.specs.RunFault.{run_fault_of}

-- All of the run's text was taken, and the run's own end is reported.
pub record IsWhole (run : List Item) (before after : Option (List ℕ)) (failed : Bool)
    (stop : Option RunFault) : Type 0 where
  pub reported : (outcome_of run).stop ≡ stop
  pub taken : Appends before after (outcome_of run).text
  pub working : failed ≡ false

-- The writer failed after this many bytes of the run's text.
pub record IsCutOff (run : List Item) (before after : Option (List ℕ)) (failed : Bool)
    (stop : RunFault) (count : ℕ) : Type 0 where
  pub named : stop ≡ output_run_fault count
  pub cut : IsCut (outcome_of run).text before after count
  pub broken : failed ≡ true

-- An allocation failed at the next item of a run after these. The fault has the name of that item,
-- and no line.
pub record RunsOutAfter (said run : List Item) (stop : RunFault) : Type 0 where
  pub next : Item
  pub later : List Item
  pub parts : run ≡ said ++ next ∷ later
  pub named : stop ≡ run_fault_of (name_of next) NoMemory

-- An allocation failed. The complete lines of the run's first answers were taken.
pub record IsBrokenOff (run : List Item) (before after : Option (List ℕ)) (failed : Bool)
    (stop : RunFault) : Type 0 where
  pub done : List Item
  pub runs_out : RunsOutAfter done run stop
  pub unstopped : (outcome_of done).stop ≡ None
  pub taken : Appends before after (outcome_of done).text
  pub working : failed ≡ false

abbrev pub EndsBy : EndedBy → List Item → Option (List ℕ) → Option (List ℕ) → Bool → RunFault
    → Type 0
EndsBy (ByOutput count) run before after failed stop = IsCutOff run before after failed stop count
EndsBy ByMemory run before after failed stop = IsBrokenOff run before after failed stop
EndsBy ByInput run before after failed stop = IsWhole run before after failed (Some stop)

-- A run ended with this fault or none, whatever its status. Its writer had taken some bytes before,
-- and more afterwards, and failed or not.
abbrev pub EndsWith : List Item → Option (List ℕ) → Option (List ℕ) → Bool → Option RunFault
    → Type 0
EndsWith run before after failed None = IsWhole run before after failed None
EndsWith run before after failed (Some stop) =
    EndsBy (ended_by stop.cause) run before after failed stop

-- A run ended so, with the status of its answers.
abbrev pub Ends : List Item → Option (List ℕ) → Option (List ℕ) → Bool → ℕ → Option RunFault
    → Type 0
Ends run before after failed status fault =
    EndsWith run before after failed fault
    × (status ≡ status_of (is_some fault) (outcome_of run).revoked)
