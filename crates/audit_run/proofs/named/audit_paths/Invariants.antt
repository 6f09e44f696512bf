-- The paths so far lead to what was audited.
use Rattle.std.proofs.Common.{◌≡◌, true, false, List, None, IfSome, take, Bool}
use Rattle.audit_run.specs.Named.{Each, IsNamed, NamedPath, with_input}
use Rattle.audit_run.specs.Reading.{SomeFailed, left_in}
use Rattle.audit_run.specs.Visits.{AuditsBy, Visit}
use Rattle.audit_run.proofs.NamedPaths.{input_past}
use Rattle.audit_run.proofs.named.audit_paths.Given as goal

abbrev pub invariant-loop-path : goal.invariant-loop-path
invariant-loop-path g l = record {
  audited : (visits : List Visit)
      × (Each (λ (whole : Bool) (named : NamedPath) (visits : List Visit).
      IsNamed (g.T.Tree.states l.tree) (SomeFailed g.I.Source.has_failed) l.search whole named.path named.input visits)
      true (with_input (left_in g.I.Source.left l.initial.input) (take l.path-index l.paths)) visits
      × AuditsBy visits None l.initial.round l.round);
  input : left_in g.I.Source.left l.input ≡ input_past (left_in g.I.Source.left l.initial.input) (take l.path-index l.paths);
  working : IfSome l.input (λ input. g.I.Source.has_failed input ≡ false);
}
