-- The lines of changes (krl(1), KRL DIFF).
use Rattle.std.specs.Prelude.{Bool, true, false, if◌then◌else◌, List, [], ◌∷◌, ◌++◌}
use Rattle.run_output.specs.Run.{Item}
use Rattle.krl_entries.specs.Revocations.{Revocations}
use Rattle.list_text.specs.Counts.{counted_all, nothing_counted}
use Rattle.list_text.specs.Facts.{facts_of}
use Rattle.list_text.specs.Objects.{changes_line}
use Rattle.list_text.specs.declared.counts.Counts.{Counts}
use Rattle.list_text.specs.declared.form.Form.{Form}
use Rattle.list_text.specs.declared.form.Form.TheVariants.{Change, JsonChange}
use Rattle.list_text.specs.declared.side.Side.{Side}
use Rattle.list_text.specs.declared.side.Side.TheVariants.{Added, Removed}
use Rattle.show_run.specs.Showing.{fact_items, line_item}
use Rattle.show_run.specs.declared.changes.Changes.{Changes}
use Rattle.show_run.specs.declared.comparison.Comparison.{Comparison}

-- the form of the lines of a side
abbrev pub side_form : Comparison → Side → Form
side_form comparison side =
    if comparison.json then JsonChange side comparison.names
    else Change side comparison.names

-- the lines of a side: everything that only one of the lists names
abbrev pub side_items : Comparison → Side → Revocations → List Item
side_items comparison side held = fact_items (side_form comparison side) (facts_of held)

-- how many facts a side has
abbrev pub side_counts : Revocations → Counts
side_counts held = counted_all nothing_counted (facts_of held)

-- the last line, which only JSON has
abbrev pub last_items : (json : Bool) → (added removed : Counts) → List Item
last_items false added removed = []
last_items true added removed = line_item (changes_line added removed) ∷ []

-- what was added, what was removed, and the last line
unfoldable pub change_items : Comparison → Changes → List Item
change_items comparison changes =
    side_items comparison Added changes.added
    ++ (side_items comparison Removed changes.removed
    ++ last_items comparison.json (side_counts changes.added) (side_counts changes.removed))
