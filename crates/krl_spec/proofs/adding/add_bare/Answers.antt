-- The subject of the line's key has no more bytes than the line.
use Rattle.std.proofs.Common.{length, refl}
use Rattle.ssh_wire.proofs.Steps.{in_fault_ok}
use Rattle.keyed_lines.specs.Keys.{subject_in}
use Rattle.keyed_lines.specs.declared.key_cause.KeyCause.TheVariants as keys
use Rattle.run_faults.specs.declared.spec_cause.SpecCause.TheVariants.{Key}
use Rattle.krl_spec.proofs.Growth.{subject_fits}
use Rattle.krl_spec.proofs.adding.add_bare.Goals as goal

pub returns-clause-adds : goal.returns-clause-adds
unfolding subject_in
returns-clause-adds g c =
    let line = in_fault_ok keys.Line _ _ (in_fault_ok Key _ _ c.in_ok-line.ensures.read) in
    let asked = in_fault_ok keys.Subject _ _ (in_fault_ok Key _ _ (rw c.as_slice.ensures at c.in_ok-asked.ensures.asked)) in
    (_, rw (line, asked) refl, c.in_ok-add_subject.ensures.means, c.in_ok-add_subject.ensures.held)

pub returns-clause-grows : goal.returns-clause-grows
returns-clause-grows g c = λ current.
    let within = rw c.as_slice.ensures at c.in_ok-asked.ensures.room in
    c.in_ok-add_subject.ensures.grows current (length c.args.text.now) (subject_fits current _ _ _ c.in_ok-line.ensures.room within)
