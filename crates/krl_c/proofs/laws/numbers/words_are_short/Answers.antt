-- Each table of words.
use Rattle.krl_c.proofs.ShortWords.{short}
use Rattle.krl_c.proofs.laws.numbers.words_are_short.Goals as goal

pub returns : goal.returns
returns c = short
