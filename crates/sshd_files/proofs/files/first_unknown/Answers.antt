-- The words of the first settings come before the others.
use Rattle.std.proofs.Common.{◌∙◌, None, Some, sym, map}
use Rattle.std.proofs.lemmas.List.{at_drop_all}
use Rattle.sshd_files.specs.Files.{unknown_word}
use Rattle.sshd_files.specs.Settings.{configuration_of}
use Rattle.sshd_files.proofs.UnknownWords.{at_next, no_more}
use Rattle.sshd_files.proofs.files.first_unknown.Goals as goal

pub returns-in-Some : goal.returns-in-Some
returns-in-Some c =
    sym (c.loop-one.invariant ∙ at_next c.args.settings.now c.loop-one.one-index c.one-item.result
    (Some c.in-Some.word.now) c.loop-one-test.true c.one-item.is (rw c.in-Some.is at c.unknown_word.ensures))

pub loop-one-preserved : goal.loop-one-preserved
loop-one-preserved c =
    c.loop-one.invariant ∙ at_next c.args.settings.now c.loop-one.one-index c.one-item.result None
    c.loop-one-test.true c.one-item.is (rw c.in_default.is at c.unknown_word.ensures)

pub returns : goal.returns
returns c =
    sym (c.loop-one.invariant ∙ at_drop_all (λ rest. unknown_word (map configuration_of rest)) c.args.settings.now
    c.loop-one.one-index c.loop-one-test.false ∙ no_more)
