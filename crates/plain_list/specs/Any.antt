-- The meaning of the bytes of a list, whether they are a key revocation list or a plain list.
use Rattle.std.specs.Prelude.{◌≡◌, ◌≤◌, ℕ, nat_eq, Bool, true, false, List, length, Option, Some}
use Rattle.std.specs.Prelude.{None}
use Rattle.std.specs.List.{starts_with}
use Rattle.krl_types.specs.Entry.{Entry}
use Rattle.krl_format.specs.Entries.{entries_of}
use Rattle.krl_format.specs.Front.{IsFirstKrlFault, limit}
use Rattle.krl_format.specs.Krl.{SpelledSection, Spells, magic}
use Rattle.krl_format.specs.declared.header.Header.{Header}
use Rattle.plain_list.specs.List.{AreRead, entries_of as entries_of_lines, lines_of}

-- A list that does not begin with the magic of a key revocation list is a plain list.
abbrev pub begins_list : List ℕ → Bool
begins_list bytes = starts_with nat_eq bytes magic

-- A header and sections spell the list, within the limit.
pub record IsListOf (list : List ℕ) (entries : List Entry) : Type 0 where
  pub header : Header
  pub sections : List SpelledSection
  pub spelled : Spells list header sections
  pub within : length list ≤ limit
  pub entries_are : entries ≡ entries_of sections

-- The bytes spell a key revocation list without a fault, with this header and these entries.
pub record NamesWhole (bytes : List ℕ) (header : Option Header) (entries : List Entry)
    : Type 0 where
  pub is : IsListOf bytes entries
  pub no_fault : IsFirstKrlFault bytes None
  pub header_is : header ≡ Some is.header

-- Each line of a plain list is read, and the keys on the lines are the entries.
pub record IsPlainOf (list : List ℕ) (entries : List Entry) : Type 0 where
  pub within : length list ≤ limit
  pub are_read : AreRead (lines_of list)
  pub entries_are : entries ≡ entries_of_lines (lines_of list)

-- The bytes are a plain list with these entries, which has no header.
pub record NamesLines (bytes : List ℕ) (header : Option Header) (entries : List Entry)
    : Type 0 where
  pub is : IsPlainOf bytes entries
  pub header_is : header ≡ None

abbrev pub NamesIf : Bool → List ℕ → Option Header → List Entry → Type 0
NamesIf true bytes header entries = NamesWhole bytes header entries
NamesIf false bytes header entries = NamesLines bytes header entries

-- These bytes are a list without a fault, with this header and these entries.
abbrev pub Names : List ℕ → Option Header → List Entry → Type 0
Names bytes header entries = NamesIf (begins_list bytes) bytes header entries
