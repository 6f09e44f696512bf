-- The lines of a file that are only counted.
use Rattle.std.specs.Prelude.{ℕ, ◌==◌, Bool, true, false, List, [], ◌∷◌, ◌++◌, codes, decimal}
use Rattle.json.specs.Json.{Json}
use Rattle.json_lines.specs.Field.{Field, json_line, number_field, object_of, text_field}
use Rattle.json_lines.specs.Field.{word_field}
use Rattle.audit_text.specs.Colour.{unread_word, verdict_word}
use Rattle.audit_text.specs.Objects.{location_fields}
use Rattle.audit_text.specs.Place.{Place}
use Rattle.audit_text.specs.Text.{location_text}
use Rattle.audit_text.specs.declared.line_kind.LineKind.{LineKind}
use Rattle.audit_text.specs.declared.line_kind.LineKind.TheVariants as kinds
use Rattle.audit_text.specs.declared.format.Format.{Format}
use Rattle.audit_text.specs.declared.format.Format.TheVariants as formats

-- the word of a kind; lines of the other two kinds are not printed
abbrev pub kind_word : LineKind → List ℕ
kind_word kinds.Empty = codes "unread"
kind_word kinds.Distrusted = codes "unread"
kind_word kinds.Fine = codes "ok"
kind_word kinds.Revoked = codes "revoked"
kind_word kinds.Unread = codes "unread"

abbrev pub kind_mark : Bool → LineKind → List ℕ
kind_mark coloured kinds.Empty = unread_word coloured
kind_mark coloured kinds.Distrusted = unread_word coloured
kind_mark coloured kinds.Fine = verdict_word coloured false
kind_mark coloured kinds.Revoked = verdict_word coloured true
kind_mark coloured kinds.Unread = unread_word coloured

abbrev pub are_more : Bool → List ℕ
are_more true = codes " more line is "
are_more false = codes " more lines are "

abbrev pub more_words : LineKind → ℕ → List ℕ
more_words kind lines =
    codes "and " ++ (decimal lines ++ (are_more (lines == 1) ++ kind_word kind))

abbrev pub more_line : Bool → Place → LineKind → ℕ → List ℕ
more_line coloured place kind lines =
    location_text place ++ (kind_mark coloured kind ++ (more_words kind lines ++ 10 ∷ []))

-- the words for lines that are not read
abbrev pub why_more : LineKind → ℕ → List Field
why_more kinds.Unread lines = text_field (codes "why") (more_words kinds.Unread lines) ∷ []
why_more _ lines = []

abbrev pub more_fields : Place → LineKind → ℕ → List Field
more_fields place kind lines =
    location_fields place
    ++ word_field (codes "status") (kind_word kind)
    ∷ number_field (codes "count") lines ∷ why_more kind lines

abbrev pub more_object : Place → LineKind → ℕ → Json
more_object place kind lines = object_of (more_fields place kind lines)

-- the line for people, or the JSON object
abbrev pub more_said : Format → Place → LineKind → ℕ → List ℕ
more_said formats.Text place kind lines = more_line false place kind lines
more_said formats.Colour place kind lines = more_line true place kind lines
more_said formats.Json place kind lines = json_line (more_object place kind lines)
