-- An index of lines of texts.
use Rattle.std.specs.Prelude.{◌≡◌, ◌≤◌, ◌⊎◌, ℕ, zero, suc, Bool, false, nat_eq, List, [], ◌∷◌}
use Rattle.std.specs.Prelude.{◌++◌, length, Option, Some, None, Result, Ok, Err, IfSome}
use Rattle.std.specs.List.{list_any}
use Rattle.krl_types.specs.Entry.{Entry}
use Rattle.krl_types.specs.Naming.{Name}
use Rattle.krl_entries.specs.Tested.{entry_names}
use Rattle.krl_fingerprints.specs.KeysBy.{entry_by}
use Rattle.text_entries.specs.AuthorityNames.{NamedKeys, key_named}
use Rattle.text_entries.specs.Lines.{lines_with}
use Rattle.text_entries.specs.Says.{Saying, entry_said, standing_after}
use Rattle.text_entries.specs.TextCause.{no_memory}
use Rattle.text_entries.specs.declared.standing.Standing.{Standing}
use Rattle.text_entries.specs.declared.text_cause.TextCause.{TextCause}
use Rattle.text_entries.specs.declared.text_fault.TextFault.{TextFault}
use Rattle.text_index.specs.NameIndex.{numbers}
use Rattle.text_index.specs.NamingLines.{Line, NamingLine, Register, line_at, naming}
use Rattle.text_index.specs.NamingLines.{naming_lines, names_by}
use Rattle.text_index.specs.declared.indexing.TextIndex.{TextIndex}
use Rattle.text_index.specs.declared.text_line.TextLine.{TextLine}

-- ---- the lines

abbrev pub line_of : TextLine → Line
line_of line = line_at line.file.now line.number line.text.now

-- the lines that have an entry, of lines that each may have one
abbrev pub naming_all : List TextLine → List (Option Entry) → List NamingLine
naming_all [] said = []
naming_all (line ∷ lines) [] = []
naming_all (line ∷ lines) (entry ∷ said) = naming (line_of line) entry ++ naming_all lines said

abbrev pub said_names : Option Entry → Name → Bool
said_names None name = false
said_names (Some entry) name = entry_names entry name

-- Line number i has the name.
unfoldable pub names_at : List (Option Entry) → ℕ → Name → Bool
names_at [] i name = false
names_at (entry ∷ said) zero name = said_names entry name
names_at (entry ∷ said) (suc i) name = names_at said i name

-- The index has exactly these lines that have an entry. Each name leads to those whose entry has
-- it.
pub record Indexes (index : TextIndex) (lines : List NamingLine) : Type 0 where
  pub said : List (Option Entry)
  pub one_each : length said ≡ length index.lines.items
  pub lines_are : lines ≡ naming_all index.lines.items said
  pub found : (name : Name) (i : ℕ)
      → list_any (nat_eq i) (numbers index.names name) ≡ names_at said i name

-- The index has exactly these lines, and gives authorities these names.
pub record HasRegister (index : TextIndex) (register : Register) : Type 0 where
  pub lines : Indexes index register.lines
  pub named : (key : List ℕ) → key_named index.authorities key ≡ register.names key

-- ---- changes

-- The index has these lines behind those that it had.
pub record IndexesMore (old new : TextIndex) (more : List NamingLine) : Type 0 where
  pub by : new.by ≡ old.by
  pub adds : (lines : List NamingLine) → Indexes old lines → Indexes new (lines ++ more)

-- Authorities have these names now, and the lines stay.
pub record NamesAuthorities (names : NamedKeys) (old new : TextIndex) : Type 0 where
  pub by : new.by ≡ old.by
  pub lines : (lines : List NamingLine) → Indexes old lines → Indexes new lines
  pub named : (key : List ℕ) → key_named new.authorities key ≡ names_by old.by names key

-- An allocation failed, or the line has this fault.
abbrev pub IsCause : TextCause → Result Saying TextCause → Type 0
IsCause cause says = (cause ≡ no_memory) ⊎ (says ≡ Err cause)

-- A line was added, and what it says counts.
abbrev pub IndexesLine : {A : Type 0} → TextLine → Result Saying TextCause → Result A TextCause
    → (before after : Standing) → (old new : TextIndex) → Type 0
IndexesLine line says (Ok done) before after old new =
    (saying : Saying) × (says ≡ Ok saying) × (after ≡ standing_after saying before)
    × IndexesMore old new (naming (line_of line) (entry_by old.by (entry_said saying)))
IndexesLine line says (Err cause) before after old new = IsCause cause says

-- An allocation failed at a line, and no line before it has a fault; or the fault is the first one.
abbrev pub IsFault : TextFault → Option TextFault → Type 0
IsFault fault first =
    ((fault.cause ≡ no_memory) × IfSome first (λ other. fault.line ≤ other.line))
    ⊎ (first ≡ Some fault)

-- The lines of a text were added, none has a fault, and this stands after them; or the fault is the
-- one that reading the text has.
abbrev pub IndexesText : {A : Type 0} → (file text : List ℕ) → Result A TextFault
    → (first after : Standing) → (old new : TextIndex) → Type 0
IndexesText file text (Ok done) first after old new =
    ((lines_with first text).fault ≡ None)
    × (after ≡ (lines_with first text).standing)
    × IndexesMore old new (naming_lines old.by first file text)
IndexesText file text (Err fault) first after old new = IsFault fault (lines_with first text).fault
