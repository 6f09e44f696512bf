-- The last object of an audit.
use Rattle.std.specs.Prelude.{◌<◌, ◌^◌, ℕ, List, [], ◌∷◌, ◌++◌, codes, Option, Some, None}
use Rattle.hex.specs.Hex.{encode_lower}
use Rattle.json.specs.Json.{Json}
use Rattle.json_lines.specs.Field.{Field, digits_field, field, number_field, object_of, text_field}
use Rattle.json_lines.specs.Field.{word_field}
use Rattle.audit_text.specs.Objects.{label_fields}
use Rattle.cert_listing.specs.Time.{instant_text}
use Rattle.krl_audit.specs.declared.counts.Counts.{Counts}
use Rattle.krl_audit.specs.declared.done.FileCounts.{FileCounts}
use Rattle.krl_audit.specs.declared.done.ListFacts.{ListFacts}
use Rattle.krl_format.specs.declared.header.Stated.{Stated}

abbrev pub version_fields : Stated → List Field
version_fields stated =
    digits_field (codes "version") stated.version
    ∷ text_field (codes "generated") (instant_text stated.generated) ∷ []

-- A plain list has neither a version nor a date.
abbrev pub stated_fields : Option Stated → List Field
stated_fields None = []
stated_fields (Some stated) = version_fields stated

-- the list of the audit: its name, version and date, and the SHA-256 of its bytes
abbrev pub list_facts : ListFacts → List Field
list_facts list =
    word_field (codes "file") list.name.now
    ∷ (stated_fields list.stated ++ word_field (codes "sha256") (encode_lower list.sha256) ∷ [])

abbrev pub list_field : ListFacts → Field
list_field list = field (codes "list") (object_of (list_facts list))

abbrev pub line_count_fields : Counts → List Field
line_count_fields counts =
    number_field (codes "keys") counts.keys
    ∷ number_field (codes "revoked") counts.revoked
    ∷ number_field (codes "unread") counts.unread ∷ []

-- the names that were not audited
abbrev pub name_count_fields : FileCounts → List Field
name_count_fields files =
    number_field (codes "skipped") files.skipped
    ∷ number_field (codes "excluded") files.excluded
    ∷ number_field (codes "elsewhere") files.elsewhere
    ∷ number_field (codes "same") files.same ∷ []

abbrev pub count_fields : FileCounts → Counts → List Field
count_fields files counts =
    number_field (codes "files") files.audited
    ∷ (line_count_fields counts ++ name_count_fields files)

-- Each of them is a number of 64 bits.
pub record AreCounts (files : FileCounts) (counts : Counts) : Type 0 where
  pub audited : files.audited < 2 ^ 64
  pub same : files.same < 2 ^ 64
  pub skipped : files.skipped < 2 ^ 64
  pub excluded : files.excluded < 2 ^ 64
  pub elsewhere : files.elsewhere < 2 ^ 64
  pub keys : counts.keys < 2 ^ 64
  pub revoked : counts.revoked < 2 ^ 64
  pub unread : counts.unread < 2 ^ 64

-- the last object of an audit that was not stopped
abbrev pub done_object : Option (List ℕ) → FileCounts → Counts → ListFacts → Json
done_object label files counts list =
    object_of (label_fields label ++ (word_field (codes "status") (codes "done")
    ∷ (count_fields files counts ++ list_field list ∷ [])))
