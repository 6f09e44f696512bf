-- The line of texts that gives a name to an authority.
use Rattle.std.specs.Prelude.{ℕ, ◌+◌, ◌==◌, ◌&&◌, not, nat_lt, Bool, true, false, List, [], ◌∷◌, length, codes}
use Rattle.std.specs.Prelude.{Option, Some, None, Result, Ok, Err, if◌then◌else◌}
use Rattle.std.specs.List.{slice_split}
use Rattle.std.specs.Str.{bytes_eq}
use Rattle.key_text.specs.Lines.{is_newline}
use Rattle.run_faults.specs.declared.cause.Cause.{Cause}
use Rattle.text_entries.specs.Mark.{name_given}
use Rattle.text_entries.specs.Misspelt.{is_close}
use Rattle.text_run.specs.Making.{Text}

-- a name, and the text and the line that give it to an authority
pub record Naming : Type 0 where
  pub text : List ℕ
  pub line : ℕ
  pub name : List ℕ

abbrev pub naming : (text : List ℕ) → (line : ℕ) → (name : List ℕ) → Naming
naming text line name = record { text = text; line = line; name = name }

-- 1 to 64 bytes, and not the word for all authorities
abbrev pub can_be_meant : (name : List ℕ) → Bool
can_be_meant name =
    not (length name == 0)
    && (not (nat_lt 64 (length name)) && not (bytes_eq name (codes "all")))

-- the same name, or one that is close and can be meant
abbrev pub is_sought : (is_exact : Bool) → (sought name : List ℕ) → Bool
is_sought is_exact sought name =
    if is_exact then bytes_eq sought name else can_be_meant name && is_close sought name

abbrev pub first_of : Option Naming → Option Naming → Option Naming
first_of None later = later
first_of (Some first) later = Some first

module _ (test : List ℕ → Bool) where
  -- a line of this text and with this number, by the name that it gives
  abbrev pub naming_at : (text : List ℕ) → ℕ → (given : Option (List ℕ)) → Option Naming
  naming_at text number None = None
  naming_at text number (Some name) = if test name then Some (naming text number name) else None

  abbrev pub lines_naming : (text : List ℕ) → ℕ → List (List ℕ) → Option Naming
  lines_naming text number [] = None
  lines_naming text number (line ∷ lines) =
      first_of (naming_at text number (name_given line)) (lines_naming text (number + 1) lines)

  -- the first line of a text that gives a name which passes
  abbrev pub bytes_naming : (text bytes : List ℕ) → Option Naming
  bytes_naming text bytes = lines_naming text 1 (slice_split is_newline bytes)

  abbrev pub content_naming : (text : List ℕ) → Result (List ℕ) Cause → Option Naming
  content_naming text (Ok bytes) = bytes_naming text bytes
  content_naming text (Err cause) = None

  abbrev pub text_naming : Text → Option Naming
  text_naming text = content_naming text.name text.content

  -- the first one of texts
  abbrev pub texts_naming : List Text → Option Naming
  texts_naming [] = None
  texts_naming (text ∷ texts) = first_of (text_naming text) (texts_naming texts)

-- the first line of texts that gives this name, or otherwise one that is close to it
abbrev pub naming_meant : List Text → (name : List ℕ) → Option Naming
naming_meant texts name =
    first_of (texts_naming (is_sought true name) texts) (texts_naming (is_sought false name) texts)
