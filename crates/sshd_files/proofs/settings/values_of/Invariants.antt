-- The values so far are those of the lines so far.
use Rattle.std.proofs.Common.{◌≡◌, ◌++◌, length}
use Rattle.sshd_files.specs.Settings.{values_of}
use Rattle.sshd_files.specs.Words.{texts}
use Rattle.sshd_files.proofs.settings.values_of.Given as goal

abbrev pub invariant-lines : goal.invariant-lines
invariant-lines l = values_of l.word l.fn.text ≡ texts l.values.items ++ values_of l.word l.rest

abbrev pub decreases-lines : goal.decreases-lines
decreases-lines l = length l.rest
