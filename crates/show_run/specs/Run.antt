-- A whole run that shows lists: what it prints, and how it ends.
use Rattle.std.specs.Borrow.{Bor}
use Rattle.std.specs.Prelude.{◌≡◌, ℕ, Bool, false, List, [], ◌∷◌, ◌++◌, Option, Some}
use Rattle.run_faults.specs.RunFault.{RunFault}
use Rattle.run_output.specs.Done.{Ends}
use Rattle.run_output.specs.Run.{Item, outcome_of}
use Rattle.list_text.specs.Counts.{counted_all, nothing_counted}
use Rattle.list_text.specs.Forms.{last_line}
use Rattle.list_text.specs.declared.form.Form.{Form}
use Rattle.show_run.specs.Lists.{AreGiven, StopsReading}
use Rattle.show_run.specs.Showing.{fact_items, line_item, lists_facts}
use Rattle.any_list.specs.Told.{Reading}
use Rattle.any_list.specs.declared.list.List.{List as ListOf}

-- the lines of lists, and the last line
unfoldable pub run_items : Form → List ListOf → List Item
run_items form lists =
    fact_items form (lists_facts lists)
    ++ line_item (last_line form (counted_all nothing_counted (lists_facts lists))) ∷ []

-- The run printed the lines of these lists, or was stopped within them. The status is 0, or 255 if
-- the run was stopped, since no line reports a revoked key.
pub record EndsShown (form : Form) (lists : List ListOf) (before after : Option (List ℕ))
    (failed : Bool) (status : ℕ) (fault : Option RunFault) : Type 0 where
  pub plain : (outcome_of (run_items form lists)).revoked ≡ false
  pub ends : Ends (run_items form lists) before after failed status fault

-- All lists of these names were read, each once and in this order, and the run came to an end; or
-- one was not read, and nothing was printed.
pub data EndsShowRun (told : List Reading) (names : List (Bor (List ℕ))) (form : Form)
    (before after : Option (List ℕ)) (failed : Bool) (status : ℕ) (fault : Option RunFault)
    : Type 0 where
  shown : (lists : List ListOf) → AreGiven told names lists
      → EndsShown form lists before after failed status fault
      → EndsShowRun told names form before after failed status fault
  refused : (stop : RunFault) → StopsReading told names stop → fault ≡ Some stop
      → status ≡ 255 → after ≡ before → failed ≡ false
      → EndsShowRun told names form before after failed status fault
