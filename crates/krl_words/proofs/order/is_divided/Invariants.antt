-- The words so far are read.
use Rattle.std.proofs.Common.{◌≡◌, map, take}
use Rattle.std.specs.Prelude.{fold}
use Rattle.krl_words.specs.Order.{start, word_met}
use Rattle.krl_words.proofs.order.is_divided.Given as goal

abbrev pub invariant-loop-word : goal.invariant-loop-word
invariant-loop-word g l = l.place ≡ fold word_met start (map g.S.AsStr.text (take l.word-index l.words))
