-- The names of one list that another lacks.
use Rattle.std.specs.Prelude.{◌↔◌, List}
use Rattle.krl_types.specs.Entry.{Entry}
use Rattle.krl_types.specs.Naming.{Name, SomeNames}
use Rattle.krl_entries.specs.Revocations.{HoldsName, IsOrderly, Means, Revocations}

-- the entries name exactly what the new ones name and the old ones do not
abbrev pub Without : (old new gone : List Entry) → Type 0
Without old new gone =
    (name : Name) → SomeNames gone name ↔ (SomeNames new name × (SomeNames old name → ⊥))

-- exactly what the new revocations hold and the old ones do not is held, in order
pub record HoldsWithout (old new gone : Revocations) : Type 0 where
  pub orderly : IsOrderly gone
  pub names : (name : Name) → HoldsName gone name ↔ (HoldsName new name × (HoldsName old name → ⊥))

-- the same for the entries that the three mean
abbrev pub MeansWithout : (old new gone : Revocations) → Type 0
MeansWithout old new gone =
    (olds news entries : List Entry) → Means old olds → Means new news → Means gone entries
    → Without olds news entries
