-- The settings so far have the list.
use Rattle.std.proofs.Common.{◌≡◌, drop, map}
use Rattle.std.specs.List.{list_all}
use Rattle.sshd_files.specs.Settings.{configuration_of}
use Rattle.krl.specs.Sshd.{has_list}
use Rattle.krl.proofs.sshd.have_list.Given as goal

abbrev pub invariant-loop-one : goal.invariant-loop-one
invariant-loop-one l =
    list_all (has_list l.list) (map configuration_of l.settings)
    ≡ list_all (has_list l.list) (map configuration_of (drop l.one-index l.settings))
