-- The words for why a line or a file is not read.
use Rattle.std.specs.Prelude.{ℕ, List, ◌++◌, codes, decimal}
use Rattle.ssh_cert.specs.SubjectFault.{subject_fault_text}
use Rattle.key_text.specs.PrivateFault.{private_fault_text}
use Rattle.keyed_lines.specs.declared.key_cause.KeyCause.TheVariants as keys
use Rattle.run_faults.specs.Causes.{line_words}
use Rattle.audit_lines.specs.declared.why.Refusal.{Refusal}
use Rattle.audit_lines.specs.declared.why.Refusal.TheVariants as refusals
use Rattle.audit_lines.specs.declared.why.Why.{Why}
use Rattle.audit_lines.specs.declared.why.Why.TheVariants as whys

abbrev pub refusal_why : Refusal → List ℕ
refusal_why refusals.Missing = codes "No such file or directory"
refusal_why refusals.Denied = codes "Permission denied"
refusal_why refusals.Irregular = codes "no regular file"
refusal_why refusals.Loop = codes "Too many levels of symbolic links"
refusal_why refusals.DirectoryLink = codes "a link to a directory: name it"
refusal_why refusals.NoFile = codes "no file in this directory is read by its name"
refusal_why refusals.LongName = codes "its name has more than 4,096 bytes"
refusal_why refusals.Slow = codes "opening another file of its owner took too long"
refusal_why refusals.Kernel = codes "it is on a file system of the kernel"
refusal_why refusals.Open = codes "it cannot be opened"
refusal_why refusals.Read = codes "it cannot be read to its end"
refusal_why refusals.TooLong = codes "it has more than 16 MiB"
refusal_why refusals.NotAsked = codes "it is not asked: give its output by --command-output"
refusal_why refusals.Wildcards =
    codes "sshd may read what its wildcards match: name these files"

abbrev pub why_text : Why → List ℕ
why_text (whys.Key (keys.Line fault)) = line_words fault
why_text (whys.Key (keys.Subject fault)) =
    codes "the key is cut or misspelt: " ++ subject_fault_text fault
why_text whys.ZeroInId = codes "its key ID has a zero byte"
why_text (whys.Private fault) =
    codes "the private key file is cut or misspelt: " ++ private_fault_text fault
why_text (whys.File refusal) = refusal_why refusal
why_text (whys.NoKeys lines) = codes "none of its " ++ (decimal lines ++ codes " lines is a key")
