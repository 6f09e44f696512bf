-- The paths of the words so far are added.
use Rattle.std.proofs.Common.{◌≡◌, length}
use Rattle.sshd_files.specs.Files.{all_added, listed_of, user_files}
use Rattle.sshd_files.specs.Users.{account_of}
use Rattle.sshd_files.specs.Words.{texts}
use Rattle.sshd_files.proofs.files.Listing.add_user.Given as goal

abbrev pub invariant-all : goal.invariant-all
invariant-all l =
    all_added (listed_of l.fn.self) (user_files (texts l.patterns) (account_of l.user)) ≡ all_added (listed_of l.self)
    (user_files (texts l.rest) (account_of l.user))

abbrev pub decreases-all : goal.decreases-all
decreases-all l = length l.rest
