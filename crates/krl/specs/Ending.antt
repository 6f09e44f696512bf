-- The lines of standard error.
use Rattle.std.specs.Prelude.{ℕ, Bool, true, false, List, ◌++◌, codes}
use Rattle.krl_types.specs.declared.krl_fault.KrlFault.TheVariants as lists
use Rattle.keyed_lines.specs.declared.key_cause.KeyCause.TheVariants as keys
use Rattle.run_faults.specs.declared.cause.Cause.{Cause}
use Rattle.run_faults.specs.declared.cause.Cause.TheVariants as causes
use Rattle.run_faults.specs.declared.file_fault.FileFault.TheVariants as files
use Rattle.run_faults.specs.RunFault.{RunFault, cause_text, line_part}
use Rattle.audit_run.specs.declared.run.Audited.{Audited}
use Rattle.audit_run.specs.declared.run.Audited.TheVariants as ends
use Rattle.line_pieces.specs.Visible.{visible}

-- a line about a file, in words
abbrev pub words_line : (name why : List ℕ) → List ℕ
words_line name why =
    codes "krl: " ++ (visible false name ++ (codes ": " ++ (why ++ codes "\n")))

-- The file is looked at once more, and the words may say more than the fault.
abbrev pub is_looked_at : Cause → Bool
is_looked_at (causes.File files.Open) = true
is_looked_at (causes.File files.Read) = true
is_looked_at (causes.Krl lists.Read) = true
is_looked_at (causes.Key (keys.Line fault)) = true
is_looked_at cause = false

-- The line about a fault, with this reason. The name is shown as in findings, and the fault by its
-- number.
abbrev pub fault_line : List ℕ → RunFault → List ℕ
fault_line reason fault =
    codes "krl: "
    ++ (visible false fault.name
    ++ (codes ": " ++ (line_part fault.line
    ++ (reason ++ (codes " [" ++ (cause_text fault.cause ++ codes "]\n"))))))

-- the status after an audit: that of the run, or 255 if none was made
abbrev pub audit_status : Audited → ℕ
audit_status (ends.Ended done summary) = done.status
audit_status (ends.Incomparable why) = 255
audit_status (ends.Refused stop) = 255
