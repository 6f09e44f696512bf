-- The value that a reader reads from the line of a value.
use Rattle.std.specs.Prelude.{◌≡◌, ℕ, ◌<◌, ◌^◌, ◌==◌, [], ◌∷◌, Some, decimal}
use Rattle.std.specs.List.{slice_split}
use Rattle.json.specs.Ascii.{line_feed}
use Rattle.json.specs.Json.{Json, array, boolean, document, null, number, object, string, Items}
use Rattle.json.specs.Json.{item, no_items, Members, member, no_members}
use Rattle.json_lines.specs.Field.{json_line, json_text}

-- Each number in a value is a count.
abbrev mutual
  pub HasCounts : Json → Type 0
  HasCounts null = Unit {0}
  HasCounts (boolean b) = Unit {0}
  HasCounts (number text) = (count : ℕ) × ((count < 2 ^ 64) × (text ≡ decimal count))
  HasCounts (string text) = Unit {0}
  HasCounts (array items) = ItemsHaveCounts items
  HasCounts (object members) = MembersHaveCounts members

  pub ItemsHaveCounts : Items → Type 0
  ItemsHaveCounts no_items = Unit {0}
  ItemsHaveCounts (item one more) = HasCounts one × ItemsHaveCounts more

  pub MembersHaveCounts : Members → Type 0
  MembersHaveCounts no_members = Unit {0}
  MembersHaveCounts (member name one more) = HasCounts one × MembersHaveCounts more

-- The text of a value has no line feed but the one at its end, and is read as exactly this value.
pub record IsReadBack (value : Json) : Type 0 where
  pub one_line : slice_split (λ byte. byte == line_feed) (json_line value)
      ≡ json_text value ∷ [] ∷ []
  pub read : document (json_text value) ≡ Some value
