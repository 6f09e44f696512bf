use Rattle.std.proofs.Common.{[]}
use Rattle.std.proofs.lemmas.List.Elements.{All-nil}
use Rattle.text_laws.specs.Names.{IsDeclared}
use Rattle.text_laws.proofs.DeclaredNames.{text_keeps, texts_keep}
use Rattle.text_laws.proofs.KnownNames.{names_are, no_names_are}
use Rattle.text_laws.proofs.laws.names_that_texts_give.Goals as goal

pub returns-clause-none : goal.returns-clause-none
returns-clause-none c = no_names_are

pub returns-clause-first : goal.returns-clause-first
returns-clause-first c today = All-nil (IsDeclared [])

pub returns-clause-kept : goal.returns-clause-kept
returns-clause-kept c standing text are = text_keeps standing text are

pub returns-clause-texts : goal.returns-clause-texts
returns-clause-texts c standing texts read are is = texts_keep standing texts read are is

pub returns-clause-names : goal.returns-clause-names
returns-clause-names c known names are same = names_are known names are same
