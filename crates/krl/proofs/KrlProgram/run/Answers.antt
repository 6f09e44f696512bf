-- The task of the words is done, or they are refused.
use Rattle.krl.specs.Program.{audited, checked, compared, made, refused, searched, shown}
use Rattle.krl.proofs.KrlProgram.run.Goals as goal

pub returns-in-Ok-Audit : goal.returns-in-Ok-Audit
returns-in-Ok-Audit c = audited c.in-Ok-Audit.task (rw c.in-Ok-Audit.field-0-is at c.in-Ok-Audit.ensures) c.audit.ensures

pub returns-in-Ok-Check : goal.returns-in-Ok-Check
returns-in-Ok-Check c = checked c.in-Ok-Check.task (rw c.in-Ok-Check.field-0-is at c.in-Ok-Check.ensures) c.check.ensures

pub returns-in-Ok-Show : goal.returns-in-Ok-Show
returns-in-Ok-Show c = shown c.in-Ok-Show.task (rw c.in-Ok-Show.field-0-is at c.in-Ok-Show.ensures) c.show.ensures

pub returns-in-Ok-Make : goal.returns-in-Ok-Make
returns-in-Ok-Make c = made c.in-Ok-Make.task (rw c.in-Ok-Make.field-0-is at c.in-Ok-Make.ensures) c.make.ensures

pub returns-in-Ok-Diff : goal.returns-in-Ok-Diff
returns-in-Ok-Diff c = compared c.in-Ok-Diff.task (rw c.in-Ok-Diff.field-0-is at c.in-Ok-Diff.ensures) c.diff.ensures

pub returns-in-Err : goal.returns-in-Err
returns-in-Err c = refused c.in-Err.fault c.in-Err.ensures c.refuse.ensures

pub returns-in-Ok-Logins : goal.returns-in-Ok-Logins
returns-in-Ok-Logins c = searched c.in-Ok-Logins.task (rw c.in-Ok-Logins.field-0-is at c.in-Ok-Logins.ensures) c.logins.ensures
