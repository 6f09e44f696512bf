-- The users so far are those of the lines so far, none of which has a fault.
use Rattle.std.proofs.Common.{◌≡◌, ◌+◌, ◌++◌, ◌≤◌, length, map}
use Rattle.std.specs.List.{flat_map, position_from, slice_split}
use Rattle.key_text.specs.Lines.{is_newline}
use Rattle.sshd_files.specs.Users.{account_of, accounts_in, accounts_of, first_fault, is_fault}
use Rattle.sshd_files.proofs.users.users_of.Given as goal

abbrev pub invariant-lines : goal.invariant-lines
invariant-lines l = record {
  good : first_fault l.fn.text ≡ position_from is_fault l.number (slice_split is_newline l.rest);
  users : accounts_of l.fn.text ≡ map account_of l.users.items ++ flat_map accounts_in (slice_split is_newline l.rest);
  within : l.number + length l.rest ≤ length l.fn.text + 1;
}

abbrev pub decreases-lines : goal.decreases-lines
decreases-lines l = length l.rest
