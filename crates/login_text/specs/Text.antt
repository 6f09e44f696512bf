-- The lines of findings about logins.
use Rattle.std.specs.Prelude.{ℕ, Bool, true, false, is_some, List, [], ◌∷◌, ◌++◌, codes, option_map}
use Rattle.krl_types.specs.Subject.{Subject}
use Rattle.krl_entries.specs.Reasons.{any_reason}
use Rattle.krl_fingerprints.specs.declared.keys_by.KeysBy.TheVariants.{Fingerprint}
use Rattle.line_pieces.specs.Visible.{visible}
use Rattle.login_lines.specs.Logins.{Reported}
use Rattle.text_index.specs.Explaining.{explained_of}
use Rattle.audit_text.specs.Answer.{Answer}
use Rattle.audit_text.specs.Colour.{unread_word, verdict_word}
use Rattle.audit_text.specs.Place.{Place}
use Rattle.audit_text.specs.Print.{print_by, spelled_by}
use Rattle.audit_text.specs.Text.{explained_if, location_text, reasons_text}
use Rattle.login_text.specs.Why.{login_why_text}
use Rattle.login_text.specs.declared.text.LoginVerdict.{LoginVerdict}
use Rattle.login_text.specs.declared.why.LoginWhy.{LoginWhy}

-- the key ID, if there is a certificate
abbrev pub id_words : Bool → List ℕ → List ℕ
id_words true id = codes " (ID " ++ (visible false id ++ codes ")")
id_words false id = []

-- who logged in, and from where
abbrev pub login_words : Reported → (id : List ℕ) → List ℕ
login_words login id =
    codes ": " ++ (visible false login.user
    ++ (codes " from " ++ (visible false login.address ++ id_words (is_some login.certificate) id)))

-- the kind of the key, and its fingerprint
abbrev pub key_words : Reported → Subject → List ℕ
key_words login asked = login.key.kind ++ (codes " " ++ print_by Fingerprint asked.plain)

-- the line of a login by a key or certificate that is revoked or not, in colour or not
abbrev pub login_line : Bool → Place → Reported → (id : List ℕ) → Subject → Answer → List ℕ
login_line coloured place login id asked answer =
    location_text place
    ++ (verdict_word coloured (any_reason answer.reasons)
    ++ (key_words login asked
    ++ (reasons_text (spelled_by Fingerprint answer.explained) asked answer.reasons
    ++ (login_words login id ++ 10 ∷ []))))

-- the line of a login, and the lines of texts that explain it
abbrev pub login_text : Bool → Place → Reported → (id : List ℕ) → Subject → Answer → List ℕ
login_text coloured place login id asked answer =
    login_line coloured place login id asked answer
    ++ explained_if Fingerprint asked answer.explained

-- the line for a line or a log that is not read, in colour or not
abbrev pub unread_login_line : Bool → Place → LoginWhy → List ℕ
unread_login_line coloured place why =
    location_text place ++ (unread_word coloured ++ (login_why_text why ++ 10 ∷ []))

-- the answer about a login
abbrev pub answer_of : LoginVerdict → Answer
answer_of verdict = record {
  reasons = verdict.reasons;
  explained = option_map explained_of verdict.explanation.now;
}
