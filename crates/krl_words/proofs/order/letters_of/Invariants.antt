-- The letters so far are read.
use Rattle.std.proofs.Common.{◌≡◌, take}
use Rattle.std.specs.Prelude.{fold}
use Rattle.krl_words.specs.Order.{letter_met}
use Rattle.krl_words.proofs.order.letters_of.Given as goal

abbrev pub invariant-loop-letter : goal.invariant-loop-letter
invariant-loop-letter l = l.letters ≡ fold letter_met l.initial.letters (take l.letter-index l.rest)
