-- The last line of an audit.
use Rattle.std.specs.Prelude.{ℕ, ◌==◌, Bool, true, false, List, [], ◌++◌, codes, decimal}
use Rattle.std.specs.Prelude.{if◌then◌else◌, Option, Some, None}
use Rattle.cert_listing.specs.Time.{instant_text}
use Rattle.krl_format.specs.declared.header.Stated.{Stated}
use Rattle.line_pieces.specs.Amount.{amount_text}
use Rattle.audit_run.specs.declared.summary.Summary.{Summary}

-- the version and the date of a list
abbrev pub stated_text : Stated → List ℕ
stated_text stated =
    codes " (list version "
    ++ (decimal stated.version ++ (codes ", " ++ (instant_text stated.generated ++ codes ")\n")))

-- the list that was queried
abbrev pub list_text : Option Stated → List ℕ
list_text None = codes " (plain list)\n"
list_text (Some stated) = stated_text stated

-- the numbers of files and of keys
abbrev pub inputs_text : Summary → List ℕ
inputs_text summary =
    codes "krl audit: "
    ++ (amount_text summary.files.audited (codes "file")
    ++ (codes ", " ++ (amount_text summary.counts.keys (codes "key") ++ codes ": ")))

-- the number of lines and files that were not read
abbrev pub unread_text : Summary → List ℕ
unread_text summary = decimal summary.counts.unread ++ codes " unread"

-- the number of names that were not audited, if there are any, and why
abbrev pub others_text : ℕ → List ℕ → List ℕ
others_text count why =
    if count == 0 then [] else codes ", " ++ (decimal count ++ (codes " " ++ why))

-- why names were skipped
abbrev pub skipped_words : Bool → List ℕ
skipped_words true = codes "skipped by its name"
skipped_words false = codes "skipped by their names"

-- the numbers of names that were not audited
abbrev pub names_text : Summary → List ℕ
names_text summary =
    others_text summary.files.skipped (skipped_words (summary.files.skipped == 1))
    ++ (others_text summary.files.excluded (codes "excluded")
    ++ (others_text summary.files.elsewhere (codes "on other file systems")
    ++ others_text summary.files.same (codes "audited before")))

-- the number of revoked keys, and of lines and files that were not read
abbrev pub findings_text : Summary → List ℕ
findings_text summary =
    decimal summary.counts.revoked
    ++ (codes " revoked in "
    ++ (amount_text summary.revoked_files (codes "file")
    ++ (codes ", " ++ unread_text summary)))

abbrev pub summary_text : Summary → List ℕ
summary_text summary =
    inputs_text summary
    ++ (findings_text summary ++ (names_text summary ++ list_text summary.stated))
