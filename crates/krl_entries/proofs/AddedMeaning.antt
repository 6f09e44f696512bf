-- Revocations that mean some entries more, for all names and for those in scope.
use Rattle.krl_entries.proofs.Common.{◌↔◌, ◌⊎◌, entries_in, Entry, HoldsName, InScope, IsOrderly}
use Rattle.krl_entries.proofs.Common.{List, MeansMore, MeansMoreInScope, Name, Revocations, Scope}
use Rattle.krl_entries.proofs.Common.{SomeNames}
use Rattle.krl_types.proofs.Equivalences.{iff_or}
use Rattle.krl_entries.proofs.OwnEntries.{means_itself}
use Rattle.krl_types.proofs.SameNames.{some_append, some_first}
use Rattle.std.proofs.Math.Logic.Iff as Iff

-- the new revocations are in order, and add exactly the names of the entries
pub means_more_names : (old new : Revocations) (more : List Entry) → IsOrderly old → MeansMore old new more
    → IsOrderly new × ((name : Name) → HoldsName new name ↔ (HoldsName old name ⊎ SomeNames more name))
means_more_names old new more orderly means =
    let before = means_itself old orderly in
    let after = means (entries_in old) before in
    (after.orderly, λ name. Iff.trans (after.names name) (Iff.trans (some_append (entries_in old) more name) (iff_or (Iff.symm (before.names name)) Iff.rfl)))

pub means_more_within : (scope : Scope) (old new : Revocations) (more : List Entry) → MeansMore old new more → MeansMoreInScope scope old new more
means_more_within scope old new more means entries m =
    let now = means_more_names old new more m.orderly means in
    record {
      orderly = now.0;
      names = λ name within. Iff.trans (now.1 name) (Iff.trans (iff_or (m.names name within) Iff.rfl) (Iff.symm (some_append entries more name)));
    }

-- entries that name nothing in scope add nothing
pub nothing_more_within : (scope : Scope) (r : Revocations) (more : List Entry) → ((name : Name) → InScope scope name → SomeNames more name → ⊥) → MeansMoreInScope scope r r more
nothing_more_within scope r more none entries m =
    record { orderly = m.orderly; names = λ name within. Iff.trans (m.names name within) (some_first entries more name (none name within)) }
