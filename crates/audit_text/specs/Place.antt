-- The places of findings: files, their lines, and columns of these.
use Rattle.std.specs.Prelude.{ℕ, ◌<◌, ◌^◌, List, Option, None, option_map}
use Rattle.std.specs.Borrow.{Bor}
use Rattle.audit_text.specs.declared.place.Location.{Location}

-- the text of the user before the name, if there is one; the name of a file; the number of a line
-- of it, and a column of this line, both from 1 on; 0 represents the whole file, or the whole line
pub record Place : Type 0 where
  pub label : Option (List ℕ)
  pub name : List ℕ
  pub number : ℕ
  pub column : ℕ

abbrev pub label_now : Option (Bor (List ℕ)) → Option (List ℕ)
label_now label = option_map (λ text. text.now) label

abbrev pub place_of : Location → Place
place_of location = record {
  label = label_now location.label;
  name = location.name.now;
  number = location.number;
  column = location.column;
}

-- the whole file
abbrev pub file_place : (label : Option (List ℕ)) → (name : List ℕ) → Place
file_place label name = record { label = label; name = name; number = 0; column = 0 }

-- a whole line, without a label
abbrev pub line_place : (name : List ℕ) → (number : ℕ) → Place
line_place name number = record { label = None; name = name; number = number; column = 0 }

-- the numbers fit in eight bytes
pub record HasNumbers (place : Place) : Type 0 where
  pub number : place.number < 2 ^ 64
  pub column : place.column < 2 ^ 64
