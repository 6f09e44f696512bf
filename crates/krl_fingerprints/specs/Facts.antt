-- The entries of facts about stored entries.
use Rattle.std.specs.Prelude.{List, [], ◌∷◌}
use Rattle.serial_set.specs.BitRuns.{IsInterval}
use Rattle.krl_types.specs.Entry.{Entry, RangeEntry}
use Rattle.krl_types.specs.Item.{item_entry}
use Rattle.krl_entries.specs.Facts.{AuthorityFact, Fact, ItemFact, SerialsFact}

-- what a fact names
abbrev pub fact_entries : Fact → List Entry
fact_entries (AuthorityFact authority) = []
fact_entries (SerialsFact authority span) = RangeEntry authority span.lo span.hi ∷ []
fact_entries (ItemFact kind authority item) = item_entry kind authority item ∷ []

-- Serial numbers are those of an interval.
abbrev pub IsFine : Fact → Type 0
IsFine (AuthorityFact authority) = Unit {0}
IsFine (SerialsFact authority span) = IsInterval span
IsFine (ItemFact kind authority item) = Unit {0}
