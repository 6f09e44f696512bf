-- None of the texts so far gives such a name.
use Rattle.std.proofs.Common.{◌≡◌, drop}
use Rattle.text_run.specs.Naming.{is_sought, texts_naming}
use Rattle.text_run.proofs.naming.naming_in.Given as goal

abbrev pub invariant-loop-text : goal.invariant-loop-text
invariant-loop-text l =
    texts_naming (is_sought l.is_exact l.name) l.texts ≡ texts_naming (is_sought l.is_exact l.name) (drop l.text-index l.texts)
