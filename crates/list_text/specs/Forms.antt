-- The lines of lists in each form.
use Rattle.std.specs.Prelude.{ℕ, List, [], Option, Some, None}
use Rattle.std.specs.Borrow.{Bor}
use Rattle.list_text.specs.declared.counts.Counts.{Counts}
use Rattle.list_text.specs.declared.form.Form.{Form}
use Rattle.list_text.specs.declared.form.Form.TheVariants.{Text, Json, Unnamed, JsonUnnamed}
use Rattle.list_text.specs.declared.form.Form.TheVariants.{Change, JsonChange}
use Rattle.list_text.specs.Changes.{change_line}
use Rattle.list_text.specs.Facts.{Fact}
use Rattle.list_text.specs.Objects.{done_line, object_line, unnamed_object}
use Rattle.list_text.specs.Text.{fact_line, no_names, unnamed_line}
use Rattle.text_entries.specs.AuthorityNames.{NameOfKey, NamedKeys, key_named}

-- the names of authorities, if some are given
abbrev pub names_in : Option (Bor NamedKeys) → NameOfKey
names_in None = no_names
names_in (Some names) = key_named names.now

-- the line of a fact
abbrev pub form_line : Form → Fact → List ℕ
form_line (Text names) fact = fact_line (names_in names) fact
form_line (Json names) fact = object_line (names_in names) None fact
form_line (Unnamed names) fact = unnamed_line (names_in names) fact
form_line (JsonUnnamed names) fact = unnamed_object (names_in names) fact
form_line (Change side names) fact = change_line (names_in names) side fact
form_line (JsonChange side names) fact = object_line (names_in names) (Some side) fact

-- The line after all facts. The two sides of a comparison share one, which is not this one.
abbrev pub last_line : Form → Counts → List ℕ
last_line (Text names) counts = []
last_line (Json names) counts = done_line counts
last_line (Unnamed names) counts = []
last_line (JsonUnnamed names) counts = done_line counts
last_line (Change side names) counts = []
last_line (JsonChange side names) counts = []
