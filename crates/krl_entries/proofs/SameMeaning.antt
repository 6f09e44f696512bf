-- Revocations, and lists of entries that name the same.
use Rattle.krl_entries.proofs.Common.{[], ◌++◌, ◌↔◌, ◌∷◌, ◌⊎◌, Entry, EntryNames, HoldsName, IdOf}
use Rattle.krl_entries.proofs.Common.{IsOrderly, KeyOf, List, Means, Name, NamesSame, nothing}
use Rattle.krl_entries.proofs.Common.{Revocations, rules, SerialOf, Sha1Of, Sha256Of, SomeNames}
use Rattle.krl_types.proofs.Equivalences.{iff_none, iff_or}
use Rattle.krl_types.proofs.SameNames.{some_append}
use Rattle.krl_types.proofs.Elements.{contains_none}
use Rattle.std.proofs.Math.Logic.Iff as Iff

pub same_meaning : (r : Revocations) (entries others : List Entry) → Means r entries → NamesSame entries others → Means r others
same_meaning r entries others m same = record { orderly = m.orderly; names = λ name. Iff.trans (m.names name) (same name) }

pub same_naming : (r : Revocations) (entries others : List Entry) → Means r entries → Means r others → NamesSame entries others
same_naming r entries others m n name = Iff.trans (Iff.symm (m.names name)) (n.names name)

-- if revocations gain exactly the names of some entries, they mean these entries too
pub means_all : (old new : Revocations) (entries more : List Entry) → IsOrderly new → ((name : Name) → HoldsName new name ↔ (HoldsName old name ⊎ SomeNames more name)) → Means old entries → Means new (entries ++ more)
means_all old new entries more orderly gains m = record {
  orderly = orderly;
  names = λ name. Iff.trans (gains name) (Iff.trans (iff_or (m.names name) Iff.rfl) (Iff.symm (some_append entries more name)));
}

-- the same for one entry
pub means_more : (old new : Revocations) (entries : List Entry) (entry : Entry) → IsOrderly new → ((name : Name) → HoldsName new name ↔ (HoldsName old name ⊎ EntryNames entry name)) → Means old entries → Means new (entries ++ entry ∷ [])
means_more old new entries entry orderly gains m =
    means_all old new entries (entry ∷ []) orderly (λ name. Iff.trans (gains name) (iff_or Iff.rfl (iff_none (λ none. none)))) m

-- no entries mean no revocations
pub nothing_meant : Means nothing []
nothing_meant = record { orderly = search rules; names = names }
  where
    names : (name : Name) → HoldsName nothing name ↔ SomeNames [] name
    names (SerialOf a s) = Iff.rfl
    names (IdOf a text) = Iff.rfl
    names (KeyOf blob) = (contains_none blob, λ no. absurd no)
    names (Sha1Of hash) = (contains_none hash, λ no. absurd no)
    names (Sha256Of hash) = (contains_none hash, λ no. absurd no)
