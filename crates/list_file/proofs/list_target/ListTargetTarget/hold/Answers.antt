-- Nothing is claimed about what is under the name.
use Rattle.std.proofs.Common.{inl}
use Rattle.list_file.proofs.list_target.ListTargetTarget.hold.Goals as goal

pub returns-in_err-reader_of-clause-kept : goal.returns-in_err-reader_of-clause-kept
returns-in_err-reader_of-clause-kept c = record { still = inl (λ content held. tt); later = λ was. tt }

pub returns-in-Some-clause-kept : goal.returns-in-Some-clause-kept
returns-in-Some-clause-kept c = record { still = inl (λ content held. tt); later = λ was. tt }

pub returns-in_err-lock-clause-kept : goal.returns-in_err-lock-clause-kept
returns-in_err-lock-clause-kept c = record { still = inl (λ content held. tt); later = λ was. tt }

pub returns-then-is_read-clause-kept : goal.returns-then-is_read-clause-kept
returns-then-is_read-clause-kept c = record { still = inl (λ content held. tt); later = λ was. tt }

pub returns-else-is_read-clause-kept : goal.returns-else-is_read-clause-kept
returns-else-is_read-clause-kept c = record { still = inl (λ content held. tt); later = λ was. tt }

pub returns-clause-kept : goal.returns-clause-kept
returns-clause-kept c = record { still = inl (λ content held. tt); later = λ was. tt }
