-- The last line of an audit of logs, its last object, and its status.
use Rattle.std.specs.Prelude.{ℕ, ◌==◌, ◌&&◌, nat_lt, if◌then◌else◌, List, [], ◌∷◌, ◌++◌, codes, decimal}
use Rattle.audit_run.specs.Summary.{list_text}
use Rattle.json.specs.Json.{Json}
use Rattle.json_lines.specs.Field.{number_field, object_of, word_field}
use Rattle.krl_audit.specs.Done.{list_field}
use Rattle.krl_audit.specs.declared.done.ListFacts.{ListFacts}
use Rattle.line_pieces.specs.Amount.{amount_text}
use Rattle.login_run.specs.declared.summary.LoginSummary.{LoginSummary}

abbrev pub counts_text : LoginSummary → List ℕ
counts_text summary =
    codes "krl logins: "
    ++ (amount_text summary.files (codes "file")
    ++ (codes ", " ++ (amount_text summary.counts.keys (codes "login")
    ++ (codes ": " ++ (decimal summary.counts.revoked
    ++ (codes " revoked, " ++ (decimal summary.counts.unread ++ codes " unread")))))))

abbrev pub summary_text : LoginSummary → List ℕ
summary_text summary = counts_text summary ++ list_text summary.stated

-- entries that no log can be compared with
abbrev pub sha1s_text : ℕ → List ℕ
sha1s_text count =
    decimal count
    ++ (if count == 1 then codes " entry is a SHA-1 hash, and no log has these"
    else codes " entries are SHA-1 hashes, and no log has these")

-- the last object of an audit that was not stopped
abbrev pub done_object : LoginSummary → ListFacts → Json
done_object summary list =
    object_of (word_field (codes "status") (codes "done")
    ∷ number_field (codes "files") summary.files
    ∷ number_field (codes "logins") summary.counts.keys
    ∷ number_field (codes "revoked") summary.counts.revoked
    ∷ number_field (codes "unread") summary.counts.unread ∷ list_field list ∷ [])

-- the status, where a list has entries that were not asked
abbrev pub login_status : ℕ → (sha1s : ℕ) → ℕ
login_status status sha1s = if (status == 0) && nat_lt 0 sha1s then 3 else status
