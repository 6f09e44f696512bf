-- The lines of findings, for people or as JSON objects.
use Rattle.std.specs.Prelude.{ℕ, true, false, List}
use Rattle.json_lines.specs.Field.{json_line}
use Rattle.audit_text.specs.Answer.{Answer}
use Rattle.audit_text.specs.Objects.{key_object, unread_object}
use Rattle.audit_lines.specs.Outcome.{Found}
use Rattle.audit_text.specs.Place.{Place}
use Rattle.audit_text.specs.Text.{key_text, unread_line}
use Rattle.audit_text.specs.declared.format.Format.{Format}
use Rattle.audit_text.specs.declared.format.Format.TheVariants as formats
use Rattle.audit_lines.specs.declared.why.Why.{Why}

-- the line of a key, for people or as a JSON object
abbrev pub key_said : Format → Place → Found → Answer → List ℕ
key_said formats.Text place found answer =
    key_text false place found.blob found.comment found.asked answer
key_said formats.Colour place found answer =
    key_text true place found.blob found.comment found.asked answer
key_said formats.Json place found answer = json_line (key_object place found answer)

-- the line for a line or file that is not read
abbrev pub unread_said : Format → Place → Why → List ℕ
unread_said formats.Text place why = unread_line false place why
unread_said formats.Colour place why = unread_line true place why
unread_said formats.Json place why = json_line (unread_object place why)
