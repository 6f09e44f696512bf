-- The paths so far are added.
use Rattle.std.proofs.Common.{◌≡◌, length, map}
use Rattle.sshd_files.specs.Files.{all_added, file, listed_of}
use Rattle.sshd_files.specs.Words.{texts}
use Rattle.sshd_files.proofs.files.Listing.add_paths.Given as goal

abbrev pub invariant-all : goal.invariant-all
invariant-all l =
    all_added (listed_of l.fn.self) (map (file l.kind) (texts l.paths)) ≡ all_added (listed_of l.self)
    (map (file l.kind) (texts l.rest))

abbrev pub decreases-all : goal.decreases-all
decreases-all l = length l.rest
