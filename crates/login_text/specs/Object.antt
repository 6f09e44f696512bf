-- Findings about logins, for people or as JSON objects.
use Rattle.std.specs.Prelude.{ℕ, true, false, List, [], ◌∷◌, ◌++◌, codes}
use Rattle.json.specs.Json.{Json}
use Rattle.json_lines.specs.Field.{Field, json_line, object_of, text_field, word_field}
use Rattle.krl_types.specs.Subject.{Subject}
use Rattle.krl_entries.specs.Reasons.{any_reason}
use Rattle.krl_entries.specs.declared.reasons.Reasons.{Reasons}
use Rattle.krl_fingerprints.specs.declared.keys_by.KeysBy.TheVariants.{Fingerprint}
use Rattle.login_lines.specs.Logins.{Reported}
use Rattle.login_lines.specs.declared.opening.Step.{Step}
use Rattle.login_lines.specs.declared.opening.Step.TheVariants.{Accepted, Partial}
use Rattle.audit_text.specs.Answer.{Answer}
use Rattle.audit_text.specs.Objects.{list_fields, location_fields, status_word}
use Rattle.audit_text.specs.Place.{Place}
use Rattle.audit_text.specs.Print.{print_by}
use Rattle.audit_text.specs.declared.format.Format.{Format}
use Rattle.audit_text.specs.declared.format.Format.TheVariants as formats
use Rattle.login_text.specs.Text.{login_text, unread_login_line}
use Rattle.login_text.specs.Why.{login_fault_text, login_why_text}
use Rattle.login_text.specs.declared.why.LoginWhy.{LoginWhy}

abbrev pub prefix_fields : List ℕ → List Field
prefix_fields [] = []
prefix_fields (byte ∷ bytes) = text_field (codes "time") (byte ∷ bytes) ∷ []

abbrev pub step_word : Step → List ℕ
step_word Accepted = codes "accepted"
step_word Partial = codes "partial"

-- the kind of the key, its fingerprint, who logged in, and from where
abbrev pub login_fields : Reported → Subject → Reasons → List Field
login_fields login asked all =
    word_field (codes "status") (status_word (any_reason all))
    ∷ text_field (codes "type") login.key.kind
    ∷ text_field (codes "fingerprint") (print_by Fingerprint asked.plain)
    ∷ text_field (codes "user") login.user
    ∷ text_field (codes "from") login.address ∷ []

-- the object of a login
abbrev pub login_object : Place → Reported → Subject → Answer → Json
login_object place login asked answer =
    object_of (location_fields place
    ++ (login_fields login asked answer.reasons
    ++ (prefix_fields login.prefix
    ++ word_field (codes "step") (step_word login.step) ∷ list_fields Fingerprint asked answer)))

abbrev pub unread_login_fields : LoginWhy → List Field
unread_login_fields why =
    word_field (codes "status") (codes "unread")
    ∷ text_field (codes "fault") (login_fault_text why)
    ∷ text_field (codes "why") (login_why_text why) ∷ []

-- the object of a line or a log that is not read
abbrev pub unread_login_object : Place → LoginWhy → Json
unread_login_object place why =
    object_of (location_fields place ++ unread_login_fields why)

-- ---- in each format

-- the line of a login
abbrev pub login_said : Format → Place → Reported → (id : List ℕ) → Subject → Answer → List ℕ
login_said formats.Text place login id asked answer =
    login_text false place login id asked answer
login_said formats.Colour place login id asked answer =
    login_text true place login id asked answer
login_said formats.Json place login id asked answer =
    json_line (login_object place login asked answer)

-- the line for a line or a log that is not read
abbrev pub unread_login_said : Format → Place → LoginWhy → List ℕ
unread_login_said formats.Text place why = unread_login_line false place why
unread_login_said formats.Colour place why = unread_login_line true place why
unread_login_said formats.Json place why = json_line (unread_login_object place why)
