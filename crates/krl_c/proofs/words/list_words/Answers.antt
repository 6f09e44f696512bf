-- Each number has the words that its fault prints.
use Rattle.std.proofs.Common.{ap}
use Rattle.std.specs.Fmt.{digits}
use Rattle.krl_c.specs.Words.{list_words}
use Rattle.krl_c.proofs.words.list_words.Goals as goal

pub returns-in-1 : goal.returns-in-1
unfolding digits
returns-in-1 c = ap list_words c.in-1.is

pub returns-in-2 : goal.returns-in-2
unfolding digits
returns-in-2 c = ap list_words c.in-2.is

pub returns-in-3 : goal.returns-in-3
unfolding digits
returns-in-3 c = ap list_words c.in-3.is

pub returns-in-4 : goal.returns-in-4
unfolding digits
returns-in-4 c = ap list_words c.in-4.is

pub returns-in-5 : goal.returns-in-5
unfolding digits
returns-in-5 c = ap list_words c.in-5.is

pub returns-in-6 : goal.returns-in-6
unfolding digits
returns-in-6 c = ap list_words c.in-6.is

pub returns-in-7 : goal.returns-in-7
unfolding digits
returns-in-7 c = ap list_words c.in-7.is

pub returns-in-8 : goal.returns-in-8
unfolding digits
returns-in-8 c = ap list_words c.in-8.is

pub returns-in-9 : goal.returns-in-9
unfolding digits
returns-in-9 c = ap list_words c.in-9.is

pub returns-in-10 : goal.returns-in-10
unfolding digits
returns-in-10 c = ap list_words c.in-10.is

pub returns-in-11 : goal.returns-in-11
unfolding digits
returns-in-11 c = ap list_words c.in-11.is

pub returns-in-12 : goal.returns-in-12
unfolding digits
returns-in-12 c = ap list_words c.in-12.is

pub returns-in-13 : goal.returns-in-13
unfolding digits
returns-in-13 c = ap list_words c.in-13.is

pub returns-in-15 : goal.returns-in-15
unfolding digits
returns-in-15 c = ap list_words c.in-15.is
