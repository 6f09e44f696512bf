-- The old list is read, or has a fault.
use Rattle.std.proofs.Common.{Err, refl}
use Rattle.text_run.proofs.Bases.{list_taken}
use Rattle.text_run.proofs.base.read.Goals as goal

pub returns-in-Ok-clause-read : goal.returns-in-Ok-clause-read
returns-in-Ok-clause-read g c =
    let read = rw c.in-Ok.is at c.read_krl-read.ensures in
    list_taken _ _ _ c.in-Ok.header c.in-Ok.revocations _ c.base_of.ensures read.failure read.found read.no_fault

pub returns-clause-unread : goal.returns-clause-unread
returns-clause-unread g c =
    let read = rw c.in-Err.is at c.read_krl-read.ensures in (
      c.in-Err.fault,
      record {
        read = Err c.in-Err.fault;
        failed = _;
        left = _;
        is_read = record { failure = read.failure; read = read.fault };
        outcome_is = refl;
      },
      c.cause_of.ensures,
    )
