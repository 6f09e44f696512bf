-- Names that lead to a file that was audited before.
use Rattle.std.specs.Prelude.{ℕ, List, [], ◌∷◌, ◌++◌, codes}
use Rattle.json.specs.Json.{Json}
use Rattle.json_lines.specs.Field.{Field, json_line, object_of, word_field}
use Rattle.audit_text.specs.Objects.{location_fields}
use Rattle.audit_text.specs.Place.{Place}
use Rattle.audit_text.specs.Text.{location_text}
use Rattle.audit_text.specs.declared.format.Format.{Format}
use Rattle.audit_text.specs.declared.format.Format.TheVariants as formats

abbrev pub same_line : Place → List ℕ
same_line place = location_text place ++ codes ": same: it was audited before\n"

abbrev pub same_fields : Place → List Field
same_fields place =
    location_fields place ++ word_field (codes "status") (codes "same") ∷ []

abbrev pub same_object : Place → Json
same_object place = object_of (same_fields place)

-- the line for people, or the JSON object
abbrev pub same_said : Format → Place → List ℕ
same_said formats.Text place = same_line place
same_said formats.Colour place = same_line place
same_said formats.Json place = json_line (same_object place)
