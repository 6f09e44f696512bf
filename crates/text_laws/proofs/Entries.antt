-- Lines that have entries and no fault.
use Rattle.std.proofs.Common.{◌≡◌, List, [], ◌∷◌, ◌++◌, Option, Some, None, ap}
use Rattle.krl_types.specs.Entry.{Entry}
use Rattle.text_entries.specs.Lines.{LineEntries, with_entry}

abbrev pub listed : Option Entry → List Entry
listed None = []
listed (Some entry) = entry ∷ []

-- the lines have these entries and no fault
pub record HasEntries (lines : LineEntries) (entries : List Entry) : Type 0 where
  pub are : lines.entries ≡ entries
  pub faultless : lines.fault ≡ None

-- the entry of a line before those of later lines
pub entry_first : (entry : Option Entry) (later : LineEntries) (entries : List Entry) → HasEntries later entries → HasEntries (with_entry entry later) (listed entry ++ entries)
entry_first None later entries has = has
entry_first (Some entry) later entries has = record { are = ap (λ (es : List Entry). entry ∷ es) has.are; faultless = has.faultless }
