-- The subjects of the keys of lines.
use Rattle.std.specs.Prelude.{ℕ, List, Result, Ok}
use Rattle.ssh_wire.specs.Reading.{◌>>=◌, in_fault}
use Rattle.keyed_lines.specs.Keys.{subject_in}
use Rattle.run_faults.specs.declared.spec_cause.SpecCause.{SpecCause}
use Rattle.run_faults.specs.declared.spec_cause.SpecCause.TheVariants as causes

-- the blob of the plain key of a key line
unfoldable pub plain_in : List ℕ → Result (List ℕ) SpecCause
plain_in text = do
  asked ← in_fault causes.Key (subject_in text)
  Ok asked.plain
