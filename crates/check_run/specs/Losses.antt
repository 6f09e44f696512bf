-- The names that the checked list lacks.
use Rattle.std.specs.Prelude.{◌↔◌, ℕ, not, Bool, false, List, [], ◌++◌, Option, Some, None}
use Rattle.std.specs.Prelude.{if◌then◌else◌}
use Rattle.std.specs.Borrow.{Bor}
use Rattle.run_output.specs.Run.{Item}
use Rattle.krl_types.specs.Entry.{Entry}
use Rattle.krl_types.specs.Naming.{Name, SomeNames}
use Rattle.krl_entries.specs.Revocations.{HoldsName, IsOrderly, Revocations}
use Rattle.audit_text.specs.declared.format.Format.{Format}
use Rattle.list_conditions.specs.Check.{condition_items, is_json, names_nobody}
use Rattle.list_conditions.specs.declared.condition.Condition.TheVariants.{Lost as LostEntries}
use Rattle.list_conditions.specs.declared.condition.Condition.TheVariants.{NothingLost}
use Rattle.list_text.specs.Counts.{counted_all, nothing_counted}
use Rattle.list_text.specs.Facts.{facts_of}
use Rattle.list_text.specs.declared.form.Form.{Form as TextForm}
use Rattle.list_text.specs.declared.form.Form.TheVariants.{Change, JsonChange}
use Rattle.list_text.specs.declared.side.Side.TheVariants.{Removed}
use Rattle.show_run.specs.Showing.{fact_items}
use Rattle.text_entries.specs.AuthorityNames.{NamedKeys}
use Rattle.check_run.specs.declared.lists.Lost.{Lost}

-- Exactly the names of some entries that others do not name are held, in order.
pub record AreLost (own others : List Entry) (lost : Revocations) : Type 0 where
  pub orderly : IsOrderly lost
  pub names : (name : Name)
      → HoldsName lost name ↔ (SomeNames others name × (SomeNames own name → ⊥))

-- the lines of what is lost, and how many entries they are
abbrev pub lost_form : Format → Option (Bor NamedKeys) → TextForm
lost_form form names = if is_json form then JsonChange Removed names else Change Removed names

abbrev pub lost_items : Format → List ℕ → Lost → List Item
lost_items form name lost =
    fact_items (lost_form form lost.names) (facts_of lost.held)
    ++ condition_items form name
    (LostEntries lost.name (counted_all nothing_counted (facts_of lost.held)).entries)

abbrev pub losses_items : Format → List ℕ → Option Lost → List Item
losses_items form name None = []
losses_items form name (Some lost) =
    if names_nobody lost.held then condition_items form name (NothingLost lost.name)
    else lost_items form name lost

abbrev pub losses_fail : Option Lost → Bool
losses_fail None = false
losses_fail (Some lost) = not (names_nobody lost.held)
