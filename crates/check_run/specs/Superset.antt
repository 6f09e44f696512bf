-- A list that names all that another list names, and revokes all that it revokes.
use Rattle.std.specs.Prelude.{◌≡◌, ◌++◌, ◌∷◌, ℕ, List, Option, Ok}
use Rattle.krl_format.specs.declared.header.Header.{Header}
use Rattle.krl_types.specs.Entry.{Entry}
use Rattle.krl_types.specs.Subject.{Subject}
use Rattle.krl_entries.specs.Revoked.{Revoked}
use Rattle.plain_list.specs.Any.{Names}
use Rattle.any_list.specs.Told.{ListRead, Reading}

-- The file of this name was read, and its bytes are a list with these entries.
pub record IsListRead (told : List Reading) (name : List ℕ) (entries : List Entry) : Type 0 where
  pub bytes : List ℕ
  pub header : Option Header
  pub names : Names bytes header entries
  pub before : List Reading
  pub after : List Reading
  pub told_is : told ≡ before ++ (ListRead name (Ok bytes) ∷ after)

-- Both files were read, and the one list revokes each key and certificate that the other one
-- revokes.
pub record RevokesAll (told : List Reading) (name other : List ℕ) : Type 0 where
  pub entries : List Entry
  pub is : IsListRead told name entries
  pub others : List Entry
  pub is_other : IsListRead told other others
  pub all : (subject : Subject) → Revoked others subject → Revoked entries subject
