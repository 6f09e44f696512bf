-- The printed name of the fault of a line without a key.
use Rattle.std.specs.Prelude.{ℕ, List}
use Rattle.key_text.specs.LineFault.{fault_text}
use Rattle.ssh_cert.specs.SubjectFault.{subject_fault_text}
use Rattle.keyed_lines.specs.declared.key_cause.KeyCause.{KeyCause}
use Rattle.keyed_lines.specs.declared.key_cause.KeyCause.TheVariants.{Line, Subject}

abbrev pub key_cause_text : KeyCause → List ℕ
key_cause_text (Line fault) = fault_text fault
key_cause_text (Subject fault) = subject_fault_text fault
