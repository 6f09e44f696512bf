-- Each line gives the reasons of its entry.
use Rattle.text_index.proofs.Meant.{unnamed_meant}
use Rattle.text_index.proofs.laws.unnamed_reasons_are_not_given.Goals as goal

pub returns : goal.returns
returns c = unnamed_meant
