-- The settings so far are those that the outputs so far state.
use Rattle.std.proofs.Common.{◌≡◌, Some, map, take}
use Rattle.sshd_files.specs.Settings.{configuration_of}
use Rattle.krl.specs.Sshd.{stated_in}
use Rattle.krl.proofs.sshd.settings_in.Given as goal

abbrev pub invariant-loop-output : goal.invariant-loop-output
invariant-loop-output l = map stated_in (take l.output-index l.outputs) ≡ map Some (map configuration_of l.settings.items)
