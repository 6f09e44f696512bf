-- The words so far are known.
use Rattle.std.proofs.Common.{◌≡◌, drop, map}
use Rattle.sshd_files.specs.Files.{unknown_word}
use Rattle.sshd_files.specs.Settings.{configuration_of}
use Rattle.sshd_files.proofs.files.first_unknown.Given as goal

abbrev pub invariant-loop-one : goal.invariant-loop-one
invariant-loop-one l =
    unknown_word (map configuration_of l.settings) ≡ unknown_word (map configuration_of (drop l.one-index l.settings))
