-- The kinds of lines that a text has (krl(1), THE TEXT OF A LIST).
use Rattle.std.specs.Prelude.{◌≡◌, ◌≢◌, ◌⊎◌, ℕ, Bool, true, false, not, if◌then◌else◌, List, []}
use Rattle.std.specs.Prelude.{◌∷◌}
use Rattle.std.specs.Prelude.{◌++◌, Some, Result, Ok, Err}
use Rattle.std.specs.List.{list_any, slice_split}
use Rattle.key_text.specs.Lines.{is_newline}
use Rattle.krl_spec.specs.Blanks.{bare_line, is_hash}
use Rattle.run_faults.specs.declared.cause.Cause.{Cause}
use Rattle.text_entries.specs.Lines.{LineEntries}
use Rattle.text_entries.specs.Mark.{name_given}
use Rattle.text_entries.specs.Named.{named_in}
use Rattle.text_entries.specs.Says.{Current, line_says}
use Rattle.text_entries.specs.declared.named.Named.{Named}
use Rattle.text_entries.specs.declared.named.Named.TheVariants.{Nothing, Authority}
use Rattle.text_entries.specs.declared.standing.Standing.{Standing}
use Rattle.text_run.specs.Making.{Text}
use Rattle.text_run.specs.declared.content.Content.{Content}
use Rattle.text_run.specs.declared.content.Content.TheVariants.{Blank, Notes, Entries}

-- ---- a line

abbrev pub named_content : (has_comment : Bool) → Named → Content
named_content has_comment Nothing = if has_comment then Notes else Blank
named_content has_comment Authority = Notes
named_content has_comment named = Entries

-- The kind of a line: nothing; a comment, or an authority; otherwise an entry, unless it has a
-- fault.
abbrev pub line_content : List ℕ → Content
line_content line = named_content (list_any is_hash line) (named_in (bare_line line))

-- ---- lines

-- what two parts say
abbrev pub more : Content → Content → Content
more Blank later = later
more Notes Entries = Entries
more Notes later = Notes
more Entries later = Entries

abbrev pub lines_content : List (List ℕ) → Content
lines_content [] = Blank
lines_content (line ∷ lines) = more (line_content line) (lines_content lines)

unfoldable pub content_of : List ℕ → Content
content_of text = lines_content (slice_split is_newline text)

-- ---- a text

-- A regular file may have no entry if it has a comment or names an authority.
abbrev pub lacks_entry : (is_file : Bool) → Content → Bool
lacks_entry is_file Blank = true
lacks_entry is_file Notes = not is_file
lacks_entry is_file Entries = false

abbrev pub is_mute_in : (is_file : Bool) → Result (List ℕ) Cause → Bool
is_mute_in is_file (Ok bytes) = lacks_entry is_file (content_of bytes)
is_mute_in is_file (Err cause) = false

-- The text has no entry although it needs one.
abbrev pub is_mute : Text → Bool
is_mute text = is_mute_in text.is_file text.content

-- ---- beside the entries of a text

-- The lines have an entry, or one that is over.
abbrev pub HasSome : LineEntries → Type 0
HasSome lines = (lines.entries ≢ []) ⊎ (lines.standing.over ≢ 0)

-- A line says which authority is current, or gives one a name.
abbrev pub NamesAuthority : List ℕ → Type 0
NamesAuthority line =
    ((authority : List ℕ)
    × ((standing : Standing) → line_says standing line ≡ Ok (Current authority)))
    ⊎ ((name : List ℕ) × (name_given line ≡ Some name))

-- A line has a comment, or it names an authority.
abbrev pub IsNote : List ℕ → Type 0
IsNote line = (list_any is_hash line ≡ true) ⊎ NamesAuthority line

pub record HasNote (lines : List (List ℕ)) : Type 0 where
  pub before : List (List ℕ)
  pub line : List ℕ
  pub after : List (List ℕ)
  pub parts : lines ≡ before ++ line ∷ after
  pub is_note : IsNote line
