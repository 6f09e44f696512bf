-- The changes from one list to another (krl(1), KRL DIFF).
use Rattle.std.specs.Prelude.{ℕ, List, ◌++◌, codes}
use Rattle.list_text.specs.declared.side.Side.{Side}
use Rattle.list_text.specs.declared.side.Side.TheVariants.{Added, Removed}
use Rattle.krl_entries.specs.Facts.{AuthorityFact}
use Rattle.list_text.specs.Facts.{Fact, HeldFact}
use Rattle.list_text.specs.Text.{fact_line}
use Rattle.text_entries.specs.AuthorityNames.{NameOfKey}

-- the name of a side in JSON objects
abbrev pub side_word : Side → List ℕ
side_word Added = codes "added"
side_word Removed = codes "removed"

abbrev pub side_mark : Side → List ℕ
side_mark Added = codes "+ "
side_mark Removed = codes "- "

-- The mark before the line of a fact. An authority is not changed itself: its line says whose the
-- serial numbers and key IDs below it are.
abbrev pub mark_of : Side → Fact → List ℕ
mark_of side (HeldFact (AuthorityFact authority)) = codes "  "
mark_of side fact = side_mark side

-- the line of a change
abbrev pub change_line : NameOfKey → Side → Fact → List ℕ
change_line names side fact = mark_of side fact ++ fact_line names fact
