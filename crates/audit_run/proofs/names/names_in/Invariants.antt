-- Some of the names that the reader gave are found.
use Rattle.std.proofs.Common.{◌≡◌, List, ℕ, []}
use Rattle.audit_run.specs.Names.{AreFound}
use Rattle.audit_run.specs.Search.{selects_every}
use Rattle.audit_run.specs.ZeroEnded.{Gives}
use Rattle.audit_run.proofs.names.names_in.Given as goal

abbrev pub invariant-names : goal.invariant-names
invariant-names g l = record {
  found : (names : List (List ℕ)) × (Gives l.initial.reader l.reader names []
      × AreFound (g.T.Tree.states l.tree) (selects_every l.place.search) l.place.path.now names l.listing);
  kept : l.round ≡ l.initial.round;
}

abbrev pub decreases-names : goal.decreases-names
decreases-names g l = l.reader.room
