-- The lines that give the last reasons are found.
use Rattle.std.proofs.Common.{◌≤◌, drop}
use Rattle.krl_entries.specs.Reasons.{every_reason}
use Rattle.text_index.specs.Found.{FindsSome}
use Rattle.text_index.proofs.explaining.look_up.Given as goal

abbrev pub invariant-reasons : goal.invariant-reasons
invariant-reasons l = record {
  within : l.left ≤ 10;
  some : FindsSome l.names l.subject l.reasons (drop l.left every_reason) l.bits l.initial.found.keys l.found.keys;
}

abbrev pub decreases-reasons : goal.decreases-reasons
decreases-reasons l = l.left
