-- The fault of a line or file that is not read, and its fields in an object.
use Rattle.std.specs.Prelude.{ℕ, List, [], ◌∷◌, codes}
use Rattle.json_lines.specs.Field.{Field, text_field, word_field}
use Rattle.run_faults.specs.FileFault.{file_fault_text}
use Rattle.run_faults.specs.declared.file_fault.FileFault.{FileFault}
use Rattle.run_faults.specs.declared.file_fault.FileFault.TheVariants as files
use Rattle.key_text.specs.PrivateFault.{private_fault_text}
use Rattle.keyed_lines.specs.KeyCause.{key_cause_text}
use Rattle.audit_lines.specs.Why.{why_text}
use Rattle.audit_lines.specs.declared.why.Refusal.{Refusal}
use Rattle.audit_lines.specs.declared.why.Refusal.TheVariants as refusals
use Rattle.audit_lines.specs.declared.why.Why.{Why}
use Rattle.audit_lines.specs.declared.why.Why.TheVariants as whys

-- A file that is refused before its first byte is one that cannot be opened.
abbrev pub refusal_fault : Refusal → FileFault
refusal_fault refusals.Missing = files.Open
refusal_fault refusals.Denied = files.Open
refusal_fault refusals.Irregular = files.Open
refusal_fault refusals.Loop = files.Open
refusal_fault refusals.DirectoryLink = files.Open
refusal_fault refusals.NoFile = files.NoKeys
refusal_fault refusals.LongName = files.Open
refusal_fault refusals.Slow = files.Open
refusal_fault refusals.Kernel = files.Open
refusal_fault refusals.Open = files.Open
refusal_fault refusals.Read = files.Read
refusal_fault refusals.TooLong = files.TooLong
refusal_fault refusals.NotAsked = files.Open
refusal_fault refusals.Wildcards = files.Open

-- the fault, by its family, its number and its name
abbrev pub why_fault : Why → List ℕ
why_fault (whys.Key cause) = key_cause_text cause
why_fault whys.ZeroInId = codes "audit 2 ZeroInId"
why_fault (whys.Private fault) = private_fault_text fault
why_fault (whys.File refusal) = file_fault_text (refusal_fault refusal)
why_fault (whys.NoKeys lines) = file_fault_text files.NoKeys

abbrev pub why_fields : Why → List Field
why_fields why =
    word_field (codes "status") (codes "unread")
    ∷ word_field (codes "fault") (why_fault why)
    ∷ text_field (codes "why") (why_text why) ∷ []
