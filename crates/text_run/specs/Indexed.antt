-- The lines of texts that name something, and the names that texts give to authorities.
use Rattle.std.specs.Prelude.{◌≡◌, ℕ, List, [], ◌∷◌, ◌++◌, map, Result, Ok, Err}
use Rattle.krl_fingerprints.specs.KeysBy.{entries_by}
use Rattle.krl_fingerprints.specs.declared.keys_by.KeysBy.{KeysBy}
use Rattle.run_faults.specs.declared.cause.Cause.{Cause}
use Rattle.text_entries.specs.Lines.{lines_with}
use Rattle.text_entries.specs.Says.{first_standing}
use Rattle.text_entries.specs.declared.standing.Standing.{Standing}
use Rattle.text_index.specs.Indexing.{HasRegister, IndexesMore}
use Rattle.text_index.specs.NamingLines.{NamingLine, Register, naming_lines, names_by}
use Rattle.text_index.specs.declared.indexing.TextIndex.{TextIndex}
use Rattle.text_run.specs.Fault.{MakeFault}
use Rattle.text_run.specs.Making.{IsMakeFault, Text, TextEntries, texts_on}

-- lines that name something, and what stands behind them
pub record TextNamed : Type 0 where
  pub lines : List NamingLine
  pub standing : Standing

-- those of a text with these bytes, behind texts that this stands after, for queries that give keys
-- so
abbrev pub bytes_named : KeysBy → Standing → (name bytes : List ℕ) → TextNamed
bytes_named by standing name bytes = record {
  lines = naming_lines by standing name bytes;
  standing = (lines_with standing bytes).standing;
}

-- A text that is not read has none.
abbrev pub content_named : KeysBy → Standing → (name : List ℕ) → Result (List ℕ) Cause
    → TextNamed
content_named by standing name (Ok bytes) = bytes_named by standing name bytes
content_named by standing name (Err cause) = record { lines = []; standing = standing }

abbrev pub text_named : KeysBy → Standing → Text → TextNamed
text_named by standing text = content_named by standing text.name text.content

-- those of all texts, one text after another
abbrev pub texts_named : KeysBy → Standing → List Text → List NamingLine
texts_named by standing [] = []
texts_named by standing (text ∷ texts) =
    let first = text_named by standing text in first.lines ++ texts_named by first.standing texts

-- the lines of all texts that name something on this day, and the names of authorities, of which
-- this stands behind the texts
abbrev pub register_of : KeysBy → (today : ℕ) → List Text → Standing → Register
register_of by today texts behind = record {
  lines = texts_named by (first_standing today) texts;
  names = names_by by behind.names;
}

-- The texts have no fault on this day, and the index has exactly their lines that name something,
-- and the names of authorities that stand behind the texts. The entries of these lines are those
-- that are read, for queries that give keys so.
pub record IndexesTexts (by : KeysBy) (today : ℕ) (texts : List Text) (index : TextIndex)
    : Type 0 where
  pub given : TextEntries
  pub read : texts_on today texts ≡ Ok given
  pub indexed : HasRegister index (register_of by today texts given.standing)
  pub entries_are : map (λ line. line.entry) (texts_named by (first_standing today) texts)
      ≡ entries_by by given.entries

-- A text of this name that is read so was added, and stands so. Or the fault is its own, or an
-- allocation failed.
abbrev pub IndexesText : {A : Type 0} → (name : List ℕ) → Result TextEntries MakeFault
    → Result A MakeFault → (after : Standing) → TextNamed → (old new : TextIndex) → Type 0
IndexesText name read (Ok done) after named old new =
    (given : TextEntries) × (read ≡ Ok given) × (given.standing ≡ named.standing)
    × (map (λ line. line.entry) named.lines ≡ entries_by old.by given.entries)
    × (after ≡ named.standing)
    × IndexesMore old new named.lines
IndexesText name read (Err fault) after named old new =
    IsMakeFault (λ other. other ≡ name) fault.cause read fault
