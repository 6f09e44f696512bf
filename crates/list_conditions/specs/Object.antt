-- The object of a condition, whether it holds or fails, and the last object of a check.
use Rattle.std.specs.Prelude.{ℕ, not, Bool, List, [], ◌∷◌, ◌++◌, codes, Option, Some, None}
use Rattle.json.specs.Json.{Json, boolean}
use Rattle.json_lines.specs.Field.{Field, digits_field, field, number_field, object_of}
use Rattle.json_lines.specs.Field.{text_field, word_field}
use Rattle.cert_listing.specs.Time.{instant_text}
use Rattle.krl_audit.specs.Done.{line_count_fields}
use Rattle.krl_openssh.specs.Difference.{difference_words}
use Rattle.krl_openssh.specs.declared.difference.Difference.{Difference}
use Rattle.plain_list.specs.declared.dsa.DsaLine.{DsaLine}
use Rattle.list_conditions.specs.Condition.{condition_word, fails}
use Rattle.list_conditions.specs.Text.{dsa_text, no_date, no_version}
use Rattle.list_conditions.specs.declared.condition.Condition.{Condition}
use Rattle.list_conditions.specs.declared.condition.Condition.TheVariants as conditions
use Rattle.list_conditions.specs.declared.condition.SshdUse.{SshdUse}
use Rattle.list_conditions.specs.declared.condition.SshdUse.TheVariants as uses

abbrev pub why_field : List ℕ → Field
why_field words = word_field (codes "why") words

abbrev pub difference_fields : Option Difference → List Field
difference_fields None = []
difference_fields (Some difference) = why_field (difference_words difference) ∷ []

abbrev pub dsa_fields : Option DsaLine → List Field
dsa_fields None = []
dsa_fields (Some line) = text_field (codes "why") (dsa_text line) ∷ []

abbrev pub slow_fields : (authorities most : ℕ) → List Field
slow_fields authorities most =
    number_field (codes "cas") authorities ∷ number_field (codes "most") most ∷ []

abbrev pub version_fields : (version least : ℕ) → List Field
version_fields version least =
    digits_field (codes "version") version ∷ digits_field (codes "least") least ∷ []

abbrev pub age_fields : (generated now max_age : ℕ) → List Field
age_fields generated now max_age =
    text_field (codes "generated") (instant_text generated)
    ∷ text_field (codes "now") (instant_text now)
    ∷ number_field (codes "max_age") max_age ∷ []

-- the name of the other list, and how many of its entries are lost
abbrev pub lost_fields : (other : List ℕ) → (entries : ℕ) → List Field
lost_fields other entries =
    word_field (codes "other") other ∷ number_field (codes "entries") entries ∷ []

-- the name of the output of sshd -T, and what is wrong with the list that the sshd uses
abbrev pub sshd_fields : (output : List ℕ) → SshdUse → List Field
sshd_fields output uses.This = word_field (codes "sshd") output ∷ []
sshd_fields output uses.Nothing =
    word_field (codes "sshd") output ∷ why_field (codes "it uses no list") ∷ []
sshd_fields output uses.Other =
    word_field (codes "sshd") output ∷ why_field (codes "it uses another list") ∷ []

-- what was found
abbrev pub finding_fields : Condition → List Field
finding_fields (conditions.OpenSsh difference) = difference_fields difference
finding_fields (conditions.OpenSshLines line) = dsa_fields line
finding_fields (conditions.Empty nobody) = []
finding_fields (conditions.Slow authorities most) = slow_fields authorities most
finding_fields (conditions.Version version least) = version_fields version least
finding_fields conditions.NoVersion = why_field no_version ∷ []
finding_fields (conditions.Age generated now max_age) = age_fields generated now max_age
finding_fields conditions.NoDate = why_field no_date ∷ []
finding_fields (conditions.NothingLost other) = lost_fields other.now 0
finding_fields (conditions.Lost other entries) = lost_fields other.now entries
finding_fields (conditions.Sshd output found) = sshd_fields output.now found
finding_fields (conditions.Keys role counts) = line_count_fields counts

-- A condition is about a list, or about a file of keys.
abbrev pub kind_word : Condition → List ℕ
kind_word (conditions.Keys role counts) = codes "file"
kind_word condition = codes "list"

abbrev pub passed_field : (fails : Bool) → Field
passed_field fails = field (codes "passed") (boolean (not fails))

-- which condition, whether it holds, and about which list or file
abbrev pub verdict_fields : List ℕ → Condition → List Field
verdict_fields name condition =
    word_field (codes "condition") (condition_word condition)
    ∷ passed_field (fails condition)
    ∷ word_field (kind_word condition) name ∷ []

abbrev pub condition_object : List ℕ → Condition → Json
condition_object name condition =
    object_of (verdict_fields name condition ++ finding_fields condition)

-- the last object of a check that was not stopped: whether all conditions hold
abbrev pub end_object : (refused : Bool) → Json
end_object refused =
    object_of (word_field (codes "status") (codes "done") ∷ passed_field refused ∷ [])
