-- The value that was found is that of the lines so far.
use Rattle.std.proofs.Common.{◌≡◌, ◌++◌, length}
use Rattle.std.specs.Option.{option_map, option_to_list}
use Rattle.sshd_files.specs.Settings.{values_of, word_of}
use Rattle.sshd_files.proofs.settings.only_value.Given as goal

abbrev pub invariant-lines : goal.invariant-lines
invariant-lines l =
    values_of (word_of l.setting) l.fn.text ≡ option_to_list (option_map (λ value. value.now) l.found) ++ values_of
    (word_of l.setting) l.rest

abbrev pub decreases-lines : goal.decreases-lines
decreases-lines l = length l.rest
