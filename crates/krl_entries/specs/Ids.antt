-- A few key IDs in order in a vector, or more of them in a set.
use Rattle.std.specs.Prelude.{ℕ, ◌≤◌, List, length, take, drop, ⊤}
use Rattle.std.specs.Global.{Vec}
use Rattle.krl_entries.specs.declared.ids.Representation.{Representation}
use Rattle.krl_entries.specs.declared.ids.Representation.TheVariants.{Few, Many}
use Rattle.krl_entries.specs.Rising.{AllBelow, AllAbove, RisesBy}
use Rattle.krl_entries.specs.Texts.{bytes_of, texts_of}

abbrev pub ids_of : Representation → List (List ℕ)
ids_of (Few few) = texts_of few.items
ids_of (Many set) = texts_of set.keys

-- key IDs in a vector are in order
abbrev pub FewRise : Representation → Type 0
FewRise (Few few) = RisesBy bytes_of few.items
FewRise (Many set) = ⊤

-- the byte string belongs at this index: those before it are lower, and those after it are higher
pub record GoesTo (at : ℕ) (bytes : List ℕ) (texts : List (Vec ℕ)) : Type 0 where
  pub within : at ≤ length texts
  pub below : AllBelow bytes_of bytes (take at texts)
  pub above : AllAbove bytes_of bytes (drop at texts)
