use Rattle.sshd_files.proofs.Distinct.{distinct_first, distinct_members, distinct_once, equal_same, same_equal}
use Rattle.sshd_files.proofs.laws.each_file_once.Goals as goal

pub returns-clause-same : goal.returns-clause-same
returns-clause-same c = λ one other. (same_equal one other, equal_same one other)

pub returns-clause-members : goal.returns-clause-members
returns-clause-members c = distinct_members

pub returns-clause-once : goal.returns-clause-once
returns-clause-once c = distinct_once

pub returns-clause-first : goal.returns-clause-first
returns-clause-first c = distinct_first
