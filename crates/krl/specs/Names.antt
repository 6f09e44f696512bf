-- The names that texts give to certificate authorities (krl(1), OPTIONS).
use Rattle.std.specs.Prelude.{◌≡◌, ℕ, List, [], ◌∷◌, map, Option, None, Some}
use Rattle.std.specs.Borrow.{Bor}
use Rattle.text_entries.specs.AuthorityNames.{NamedKeys}
use Rattle.text_run.specs.Making.{GivesNames, Text, day_at}

abbrev pub name_of : Text → List ℕ
name_of text = text.name

abbrev pub now_of : Bor (List ℕ) → List ℕ
now_of name = name.now

-- Texts with these names were read, and on some date they give these names to authorities. Without
-- a text there are no names.
abbrev pub AreNamesOf : (files : List (Bor (List ℕ))) → Option NamedKeys → Type 0
AreNamesOf [] names = names ≡ None
AreNamesOf (file ∷ files) None = ⊥
AreNamesOf (file ∷ files) (Some names) =
    (date : ℕ) × (texts : List Text) × (map name_of texts ≡ map now_of (file ∷ files))
    × GivesNames (day_at date) texts names
