-- The meaning of revocations within a scope.
use Rattle.krl_entries.proofs.Common.{[], all, Entry, List, Means, MeansInScope, NamesSame, None}
use Rattle.krl_entries.proofs.Common.{nothing, Revocations, Scope, Some}
use Rattle.krl_types.proofs.Elements.{contains_none}
use Rattle.krl_entries.proofs.SameMeaning.{nothing_meant}
use Rattle.krl_entries.specs.Scope.{IsInScope}
use Rattle.std.proofs.Math.Logic.Iff as Iff

-- revocations that mean some entries mean them within any scope
pub means_within : (scope : Scope) (r : Revocations) (entries : List Entry) → Means r entries → MeansInScope scope r entries
means_within scope r entries m = record { orderly = m.orderly; names = λ name _. m.names name }

-- other entries that name the same
pub same_within : (scope : Scope) (r : Revocations) (entries others : List Entry) → MeansInScope scope r entries → NamesSame entries others → MeansInScope scope r others
same_within scope r entries others m same = record { orderly = m.orderly; names = λ name is. Iff.trans (m.names name is) (same name) }

-- revocations that mean some entries within the scope of all names mean them
pub means_all_within : (r : Revocations) (entries : List Entry) → MeansInScope all r entries → Means r entries
means_all_within r entries m = record { orderly = m.orderly; names = λ name. m.names name tt }

-- no entries mean no revocations within any scope
pub nothing_within : (scope : Scope) → MeansInScope scope nothing []
nothing_within scope = means_within scope nothing [] nothing_meant

pub nothing_in_scope : (scope : Scope) → IsInScope scope nothing
nothing_in_scope None = tt
nothing_in_scope (Some topics) = record {
  orderly = nothing_meant.orderly;
  runs = λ a s begins. absurd begins.0;
  ids = λ a text is. absurd is;
  keys = λ blob is. absurd (contains_none blob is);
  sha1s = λ hash is. absurd (contains_none hash is);
  sha256s = λ hash is. absurd (contains_none hash is);
}
