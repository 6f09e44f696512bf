-- Only bytes that end words are before the rest.
use Rattle.std.proofs.Common.{◌≡◌, length}
use Rattle.text_entries.specs.Day.{after_word_ends}
use Rattle.text_entries.proofs.day.after_word_ends.Given as goal

abbrev pub invariant-bytes : goal.invariant-bytes
invariant-bytes l = after_word_ends l.rest ≡ after_word_ends l.fn.text

abbrev pub decreases-bytes : goal.decreases-bytes
decreases-bytes l = length l.rest
