-- The files of the settings so far are added.
use Rattle.std.proofs.Common.{◌≡◌, drop, map}
use Rattle.sshd_files.specs.Files.{all_added, all_files, listed_of}
use Rattle.sshd_files.specs.Settings.{configuration_of}
use Rattle.sshd_files.specs.Users.{account_of}
use Rattle.sshd_files.proofs.files.Listing.add_all.Given as goal

abbrev pub invariant-loop-one : goal.invariant-loop-one
invariant-loop-one l =
    all_added (listed_of l.fn.self)
    (all_files (map configuration_of l.settings) (map account_of l.users) l.asked) ≡ all_added (listed_of l.self)
    (all_files (map configuration_of (drop l.one-index l.settings)) (map account_of l.users) l.asked)
