-- Nothing is claimed about what is under the name.
use Rattle.std.proofs.Common.{inl}
use Rattle.list_file.proofs.list_target.ListTargetTarget.is_changed.Goals as goal

pub returns-then-not-follow-clause-kept : goal.returns-then-not-follow-clause-kept
returns-then-not-follow-clause-kept c = record { still = inl (λ content held. tt); later = λ was. tt }

pub returns-else-is_stale-2-clause-kept : goal.returns-else-is_stale-2-clause-kept
returns-else-is_stale-2-clause-kept c = record { still = inl (λ content held. tt); later = λ was. tt }
