-- The subjects of lines, as they are kept.
use Rattle.std.specs.Prelude.{ℕ, List}
use Rattle.krl_types.specs.Entry.{Entry, RangeEntry}
use Rattle.krl_types.specs.Item.{item_entry}
use Rattle.krl_types.specs.Naming.{Name, SerialOf}
use Rattle.krl_entries.specs.Named.{item_name}
use Rattle.text_index.specs.declared.posting.Posting.{Posting}
use Rattle.text_index.specs.declared.posting.Sought.{Sought}
use Rattle.text_index.specs.declared.posting.Sought.TheVariants as sought
use Rattle.text_index.specs.declared.posting.What.{What}
use Rattle.text_index.specs.declared.posting.What.TheVariants as whats

abbrev pub posting_with : (line : ℕ) → (authority : List ℕ) → What → Posting
posting_with line authority what = record { line = line; authority = authority; what = what }

abbrev pub what_entry : What → (authority : List ℕ) → Entry
what_entry (whats.Serials span) authority = RangeEntry authority span.lo span.hi
what_entry (whats.Item kind item) authority = item_entry kind authority item

-- what a posting names, as an entry
abbrev pub entry_of : Posting → Entry
entry_of posting = what_entry posting.what posting.authority

abbrev pub sought_name : Sought → Name
sought_name (sought.Serial authority serial) = SerialOf authority.now serial
sought_name (sought.Item kind authority item) = item_name kind authority.now item.now
