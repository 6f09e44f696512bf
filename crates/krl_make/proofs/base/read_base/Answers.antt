-- The old list is read, or its fault reported.
use Rattle.std.proofs.Common.{◌∙◌, None, Ok, Err, ap, inr, option_map}
use Rattle.run_faults.specs.declared.cause.Cause.{Cause}
use Rattle.run_faults.specs.RunFault.{run_fault_of}
use Rattle.krl_make.proofs.OverLists.{base_read, read_over}
use Rattle.krl_make.proofs.base.read_base.Goals as goal

pub returns-in-Ok-clause-read : goal.returns-in-Ok-clause-read
returns-in-Ok-clause-read g c =
    let read = rw c.in-Ok.is at c.read_krl-read.ensures in
    read_over _ _ _ (Ok c.base_of.result) _ None c.if-not-wanted.false (ap (option_map g.R.Source.left) c.in-Some.is)
    (base_read _ _ c.in-Ok.header c.in-Ok.revocations _ None c.base_of.ensures read.failure read.found read.no_fault)

pub returns-clause-refused : goal.returns-clause-refused
returns-clause-refused g c =
    let read = rw c.in-Err.is at c.read_krl-read.ensures in
    inr (
      c.in-Err.fault,
      read_over _ _ _ (Err c.in-Err.fault) _ _ c.if-not-wanted.false (ap (option_map g.R.Source.left) c.in-Some.is) (record { failure = read.failure; read = read.fault }),
      c.whole-in-Err.ensures ∙ ap (λ (cause : Cause). run_fault_of c.args.wanted.now.name.now cause) c.cause_of.ensures,
    )
