-- The lines of texts that have an entry, and the names that texts give to authorities.
use Rattle.std.specs.Prelude.{ℕ, ◌+◌, List, [], ◌∷◌, ◌++◌, Option, Some, None, Result, Ok, Err}
use Rattle.std.specs.List.{slice_split}
use Rattle.key_text.specs.Lines.{is_newline}
use Rattle.krl_types.specs.Entry.{Entry}
use Rattle.krl_fingerprints.specs.KeysBy.{entry_by}
use Rattle.krl_fingerprints.specs.declared.keys_by.KeysBy.{KeysBy}
use Rattle.krl_fingerprints.specs.declared.keys_by.KeysBy.TheVariants.{Blob, Fingerprint}
use Rattle.text_entries.specs.AuthorityNames.{NameOfKey, NamedKeys, name_of, printed_names}
use Rattle.text_entries.specs.Lines.{beginning}
use Rattle.text_entries.specs.Says.{Saying, entry_said, line_says, standing_after}
use Rattle.text_entries.specs.declared.standing.Standing.{Standing}
use Rattle.text_entries.specs.declared.text_cause.TextCause.{TextCause}

-- a line: the name of its text, its number there, and its bytes
pub record Line : Type 0 where
  pub file : List ℕ
  pub number : ℕ
  pub text : List ℕ

-- a line and its entry
pub record NamingLine : Type 0 where
  pub line : Line
  pub entry : Entry

-- A line that has no entry, or is over, is left out.
abbrev pub naming : Line → Option Entry → List NamingLine
naming line None = []
naming line (Some entry) = record { line = line; entry = entry } ∷ []

abbrev pub line_at : (file : List ℕ) (number : ℕ) (text : List ℕ) → Line
line_at file number text = record { file = file; number = number; text = text }

-- a line, followed by later ones under what stands then
abbrev pub naming_before : KeysBy → Line → Standing → Result Saying TextCause
    → (Standing → List NamingLine) → List NamingLine
naming_before by line standing (Ok saying) later =
    naming line (entry_by by (entry_said saying)) ++ later (standing_after saying standing)
naming_before by line standing (Err cause) later = []

-- those of lines, of which the first has this number
abbrev pub naming_from : KeysBy → Standing → (file : List ℕ) → ℕ → List (List ℕ)
    → List NamingLine
naming_from by standing file number [] = []
naming_from by standing file number (text ∷ texts) =
    naming_before by (line_at file number text) standing (line_says standing text)
    (λ after. naming_from by after file (number + 1) texts)

-- the lines of a text that have an entry for queries that give keys so, up to its first fault,
-- behind texts that this stands after
unfoldable pub naming_lines : KeysBy → Standing → (file text : List ℕ) → List NamingLine
naming_lines by standing file text =
    naming_from by (beginning standing) file 1 (slice_split is_newline text)

-- ---- names

-- the name of each authority, for queries that give keys so
abbrev pub names_by : KeysBy → NamedKeys → NameOfKey
names_by Blob names = name_of names
names_by Fingerprint names = name_of (printed_names names)

-- the lines of texts that have an entry, and the names that the texts give to authorities
pub record Register : Type 0 where
  pub lines : List NamingLine
  pub names : NameOfKey
