-- JSON objects (RFC 8259) as lists of fields, and the line of one.
use Rattle.std.specs.Prelude.{ℕ, List, [], ◌∷◌, ◌++◌, codes, decimal, if◌then◌else◌}
use Rattle.std.specs.List.{flat_map}
use Rattle.std.specs.Str.{is_utf8}
use Rattle.base64.specs.Engines.{standard}
use Rattle.base64.specs.GeneralPurpose.{encode_of}
use Rattle.json.specs.Json.{Json, array, number, object, string, Items, item, no_items, Members}
use Rattle.json.specs.Json.{member, no_members}
use Rattle.json.specs.Print.{print}
use Rattle.json.specs.Token.{Token, key}
use Rattle.json.specs.Tree.{json_tokens}
use Rattle.json_lines.specs.Controls.{escaped_controls}

-- a field of an object
pub record Field : Type 0 where
  pub name : List ℕ
  pub value : Json

abbrev pub field : List ℕ → Json → Field
field name value = record { name = name; value = value }

abbrev pub members_of : List Field → Members
members_of [] = no_members
members_of (one ∷ more) = member one.name one.value (members_of more)

-- the object with these fields, in this order
abbrev pub object_of : List Field → Json
object_of fields = object (members_of fields)

abbrev pub items_of : List Json → Items
items_of [] = no_items
items_of (one ∷ more) = item one (items_of more)

abbrev pub array_of : List Json → Json
array_of values = array (items_of values)

-- ---- fields

abbrev pub word_field : List ℕ → List ℕ → Field
word_field name word = field name (string word)

abbrev pub number_field : List ℕ → ℕ → Field
number_field name count = field name (number (decimal count))

-- a number as a string, because it may be too large for a reader's numbers
abbrev pub digits_field : List ℕ → ℕ → Field
digits_field name count = word_field name (decimal count)

-- bytes in base64 (RFC 4648 section 4), with padding, as the name of the field shows
abbrev pub base64_field : List ℕ → List ℕ → Field
base64_field name bytes = word_field (name ++ codes "_base64") (encode_of standard bytes)

-- bytes as text if they are UTF-8
unfoldable pub text_field : List ℕ → List ℕ → Field
text_field name bytes =
    if is_utf8 bytes then word_field name bytes else base64_field name bytes

-- ---- the written text

abbrev pub field_tokens : Field → List Token
field_tokens one = key one.name ∷ json_tokens one.value

unfoldable pub fields_tokens : List Field → List Token
fields_tokens fields = flat_map field_tokens fields

unfoldable pub values_tokens : List Json → List Token
values_tokens values = flat_map json_tokens values

-- the text of a value, without a blank, and without a control character
unfoldable pub json_text : Json → List ℕ
json_text value = escaped_controls (print (json_tokens value))

-- its line
abbrev pub json_line : Json → List ℕ
json_line value = json_text value ++ 10 ∷ []
