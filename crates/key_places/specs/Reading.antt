-- Reading the places of a line from left to right.
use Rattle.std.specs.Prelude.{◌≡◌, ℕ, ◌+◌, ◌-◌, ◌<◌, ◌≤◌, false, List, [], ◌∷◌, length, drop}
use Rattle.std.specs.Prelude.{Option, Some, None, if◌then◌else◌}
use Rattle.std.specs.List.{filter_map, range_with_len}
use Rattle.key_text.specs.Blanks.{after_blanks}
use Rattle.key_places.specs.declared.place.Place.{Place}
use Rattle.key_places.specs.Blob.{blob_of, starts_blob}
use Rattle.key_places.specs.Name.{may_begin, name_at}
use Rattle.key_places.specs.Place.{KeyPlace}
use Rattle.key_places.specs.Word.{word_at}

abbrev pub key_place : ℕ → List ℕ → Option (List ℕ) → KeyPlace
key_place column name blob = record { column = column; name = name; blob = blob }

abbrev pub content_of : Place → KeyPlace
content_of place = key_place place.column place.name.now place.blob

-- the place of a name and a base64 word, if the word begins as a blob
unfoldable pub place_of : ℕ → List ℕ → List ℕ → Option KeyPlace
place_of column name word =
    if starts_blob name word then Some (key_place column name (blob_of word)) else None

abbrev pub named_place : ℕ → Option (List ℕ × List ℕ) → Option KeyPlace
named_place column None = None
named_place column (Some (name, rest)) = place_of column name (word_at false (after_blanks rest))

-- the place that begins at a position, if one does
unfoldable pub place_at : List ℕ → ℕ → Option KeyPlace
place_at line at =
    if may_begin line at then named_place (at + 1) (name_at (drop at line)) else None

-- the places that begin at a position or after it
unfoldable pub places_from : List ℕ → ℕ → List KeyPlace
places_from line at = filter_map (place_at line) (range_with_len at (length line - at))

-- all of them
abbrev pub places_of : List ℕ → List KeyPlace
places_of line = places_from line 0

-- no place begins from one position up to another
abbrev pub NoneWithin : List ℕ → ℕ → ℕ → Type 0
NoneWithin line from to = (at : ℕ) → from ≤ at → at < to → place_at line at ≡ None

pub record IsFirst (line : List ℕ) (from : ℕ) (place : KeyPlace) : Type 0 where
  pub first : places_from line from ≡ place ∷ places_from line place.column
  pub within : place.column ≤ length line

-- The place is the first from a position on, or none is left.
abbrev pub IsFirstPlace : List ℕ → ℕ → Option KeyPlace → Type 0
IsFirstPlace line from None = places_from line from ≡ []
IsFirstPlace line from (Some place) = IsFirst line from place
