-- Lists that are made of the texts of lists.
use Rattle.std.specs.Prelude.{ℕ, Bool, List, [], ◌∷◌, Ok}
use Rattle.krl_entries.specs.Revocations.{Means, Revocations}
use Rattle.krl_format.specs.declared.header.Header.{Header}
use Rattle.krl_writer.specs.KrlText.{IsKrlText}
use Rattle.text_laws.specs.ReadBack.{Shown, entries_of_lists}
use Rattle.text_run.specs.Making.{Text}

-- a text with this name, as the only one that a list is made of, from a regular file or not
abbrev pub only_text : (is_file : Bool) → (name text : List ℕ) → List Text
only_text is_file name text = record { name = name; is_file = is_file; content = Ok text } ∷ []

-- The bytes are those of a list with this header that names exactly what the lists name.
pub record IsMergedOf (lists : List Shown) (header : Header) (bytes : List ℕ) : Type 0 where
  pub contents : Revocations
  pub means : Means contents (entries_of_lists lists)
  pub written : IsKrlText header contents bytes
