use Rattle.std.proofs.Common.{rules, tests}
use Rattle.std.proofs.lemmas.Iterator.Search.{find_from_yields_List}
use Rattle.std.proofs.lemmas.Iterator.Splits.{YieldsList-from_slice_split}
use Rattle.sshd_files.specs.Pattern.{is_unknown}
use Rattle.sshd_files.proofs.pattern.unknown_word.Goals as goal

pub returns : goal.returns
returns c =
    find_from_yields_List is_unknown _ _ _ c.find.ensures.ran
    (YieldsList-from_slice_split _ _ c.args.files.now c.split.ensures.rest c.split.ensures.done
    c.split.ensures.closure (λ x r q k. search (rules, tests))) (λ x b q k. search (rules, tests))
