-- The paths of the users so far are added.
use Rattle.std.proofs.Common.{◌≡◌, drop, map}
use Rattle.sshd_files.specs.Files.{all_added, listed_of, users_files}
use Rattle.sshd_files.specs.Users.{account_of}
use Rattle.sshd_files.specs.Words.{texts}
use Rattle.sshd_files.proofs.files.Listing.add_users.Given as goal

abbrev pub invariant-loop-user : goal.invariant-loop-user
invariant-loop-user l =
    all_added (listed_of l.fn.self) (users_files (texts l.patterns) (map account_of l.users)) ≡ all_added
    (listed_of l.self) (users_files (texts l.patterns) (map account_of (drop l.user-index l.users)))
