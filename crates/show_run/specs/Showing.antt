-- Facts that were shown.
use Rattle.std.specs.Prelude.{◌≡◌, ℕ, List, ◌∷◌, map, OnOk, Result, codes}
use Rattle.std.specs.List.{flat_map}
use Rattle.run_faults.specs.RunFault.{RunFault}
use Rattle.run_output.specs.Carries.{Carries}
use Rattle.run_output.specs.Printer.{Printer}
use Rattle.run_output.specs.Run.{Item, said_of}
use Rattle.list_text.specs.Counts.{counted_all}
use Rattle.list_text.specs.Facts.{Fact, ListFact, facts_of}
use Rattle.list_text.specs.Forms.{form_line}
use Rattle.list_text.specs.declared.counts.Counts.{Counts}
use Rattle.list_text.specs.declared.form.Form.{Form}
use Rattle.any_list.specs.declared.list.List.{List as ListOf}

-- the item of a line; the name is that of its fault if there is no memory for it
abbrev pub line_item : List ℕ → Item
line_item text = said_of (codes "memory") text

abbrev pub fact_item : Form → Fact → Item
fact_item form fact = line_item (form_line form fact)

abbrev pub fact_items : Form → List Fact → List Item
fact_items form facts = map (fact_item form) facts

-- Exactly the lines of these facts were printed, and the facts were counted; or the run was stopped
-- within them.
pub record Shows (form : Form) (facts : List Fact) (result : Result (Unit {0}) RunFault)
    (old new : Printer) (before after : Counts) : Type 0 where
  pub carries : Carries (fact_items form facts) result old new
  pub count : OnOk result (after ≡ counted_all before facts)

-- a list: its name and header, and what it names
unfoldable pub list_facts : ListOf → List Fact
list_facts list = ListFact list.name.now list.header ∷ facts_of list.revocations

unfoldable pub lists_facts : List ListOf → List Fact
lists_facts lists = flat_map list_facts lists
