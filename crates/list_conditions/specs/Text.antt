-- The line that is printed for a condition that fails: which one, about what, and why it fails.
use Rattle.std.specs.Prelude.{ℕ, ◌-◌, ◌/◌, false, nat_lt, if◌then◌else◌, ◌==◌, List, [], ◌∷◌, ◌++◌}
use Rattle.std.specs.Prelude.{codes, decimal, Option, Some, None}
use Rattle.cert_listing.specs.Time.{instant_text}
use Rattle.line_pieces.specs.Amount.{amount_text}
use Rattle.line_pieces.specs.Visible.{visible}
use Rattle.krl_audit.specs.declared.counts.Counts.{Counts}
use Rattle.krl_openssh.specs.Difference.{difference_words}
use Rattle.krl_openssh.specs.declared.difference.Difference.{Difference}
use Rattle.plain_list.specs.Dsa.{dsa_words}
use Rattle.plain_list.specs.declared.dsa.DsaLine.{DsaLine}
use Rattle.list_conditions.specs.Condition.{condition_word, use_words}
use Rattle.list_conditions.specs.declared.condition.Condition.{Condition}
use Rattle.list_conditions.specs.declared.condition.Condition.TheVariants as conditions

-- a number of entries, as the subject of a sentence, with its verb
abbrev pub entries_text : ℕ → List ℕ
entries_text count =
    decimal count ++ (if count == 1 then codes " entry is" else codes " entries are")

-- A number of seconds, rounded down to minutes from 2 minutes on, and to hours from 2 hours on.
abbrev pub span_text : ℕ → List ℕ
span_text seconds =
    if nat_lt seconds 120 then decimal seconds ++ codes "s"
    else if nat_lt seconds 7_200 then decimal (seconds / 60) ++ codes "m"
    else decimal (seconds / 3_600) ++ codes "h"

-- how far an instant is from the present one, which are both given in seconds since 1970
abbrev pub distance_text : (instant now : ℕ) → List ℕ
distance_text instant now =
    if nat_lt now instant then span_text (instant - now) ++ codes " from now"
    else span_text (now - instant) ++ codes " ago"

-- a number of things, as the subject of a sentence, with its verb
abbrev pub subject_text : ℕ → List ℕ → List ℕ
subject_text count word =
    amount_text count word ++ (if count == 1 then codes " is" else codes " are")

abbrev pub difference_text : Option Difference → List ℕ
difference_text None = []
difference_text (Some difference) = difference_words difference

-- a line of a plain list that OpenSSH 10 does not read
abbrev pub dsa_text : DsaLine → List ℕ
dsa_text line =
    codes "line "
    ++ (decimal line.number ++ (codes " has "
    ++ (dsa_words line.part ++ codes ", which OpenSSH 10 does not read")))

abbrev pub dsa_if : Option DsaLine → List ℕ
dsa_if None = []
dsa_if (Some line) = dsa_text line

-- how many certificate authorities a list has, and how many it may have
abbrev pub slow_text : (authorities most : ℕ) → List ℕ
slow_text authorities most =
    amount_text authorities (codes "CA")
    ++ (codes ", and " ++ (decimal most ++ codes " at most"))

abbrev pub counts_text : Counts → List ℕ
counts_text counts =
    decimal counts.revoked
    ++ (codes " of " ++ (subject_text counts.keys (codes "key")
    ++ (codes " revoked, " ++ (subject_text counts.unread (codes "line") ++ codes " not read"))))

abbrev pub no_version : List ℕ
no_version = codes "a plain list has no version"

abbrev pub no_date : List ℕ
no_date = codes "a plain list has no date"

-- what was found about the list or the file of this name
abbrev pub finding_text : List ℕ → Condition → List ℕ
finding_text name (conditions.OpenSsh difference) = difference_text difference
finding_text name (conditions.OpenSshLines line) = dsa_if line
finding_text name (conditions.Empty nobody) = codes "it revokes nobody"
finding_text name (conditions.Slow authorities most) = slow_text authorities most
finding_text name (conditions.Version version least) =
    decimal version ++ (codes " is below " ++ decimal least)
finding_text name conditions.NoVersion = no_version
finding_text name (conditions.Age generated now max_age) =
    codes "generated " ++ (instant_text generated ++ (codes ", " ++ distance_text generated now))
finding_text name conditions.NoDate = no_date
finding_text name (conditions.NothingLost other) = []
finding_text name (conditions.Lost other entries) =
    entries_text entries ++ (codes " not in " ++ visible false name)
finding_text name (conditions.Sshd output found) =
    codes "the sshd of " ++ (visible false output.now ++ (codes " " ++ use_words found))
finding_text name (conditions.Keys role counts) = counts_text counts

-- The line is about the list or the file of this name, or about the list whose entries are lost.
abbrev pub named_by : List ℕ → Condition → List ℕ
named_by name (conditions.Lost other entries) = other.now
named_by name condition = name

abbrev pub condition_line : List ℕ → Condition → List ℕ
condition_line name condition =
    condition_word condition ++ (codes ": " ++ (visible false (named_by name condition)
    ++ (codes ": " ++ (finding_text name condition ++ 10 ∷ []))))
