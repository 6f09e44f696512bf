-- One string after another.
use Rattle.std.proofs.Common.{refl, sym, subst}
use Rattle.std.proofs.lemmas.Bool.{false≢true}
use Rattle.krl_format.specs.Krl.{SpellsEach}
use Rattle.krl_openssh.specs.Comparable.{IsWholeId}
use Rattle.krl_openssh.proofs.KeyIds.{SpellsText, text_has_bytes, text_judges, texts_each}
use Rattle.krl_openssh.proofs.Walk.{begins, ends, goes_on, refuses}
use Rattle.krl_openssh.proofs.key_ids.texts_are_whole.Goals as goal

pub loop-left-init : goal.loop-left-init
loop-left-init c = λ texts parts fits.
    begins SpellsText IsWholeId texts _ (subst (λ left. SpellsEach SpellsText left texts) (sym c.new-left.ensures) (texts_each texts c.args.content.now parts fits))

pub returns-then-not-text_is_whole : goal.returns-then-not-text_is_whole
returns-then-not-text_is_whole c = λ texts parts fits. (
  λ never. absurd (false≢true never),
  λ all. absurd (refuses SpellsText IsWholeId texts c.loop-left.left c.text_is_whole.new.left (λ none. false≢true (c.loop-left-test.ensures.1 none)) (c.loop-left.invariant texts parts fits)
      (text_judges _ _ _ c.if-not-text_is_whole.ensures.judged) all),
)

pub loop-left-preserved : goal.loop-left-preserved
loop-left-preserved c = λ texts parts fits.
    goes_on SpellsText IsWholeId texts c.loop-left.left c.text_is_whole.new.left (λ none. false≢true (c.loop-left-test.ensures.1 none)) (c.loop-left.invariant texts parts fits) (text_judges _ _ _ c.if-not-text_is_whole.ensures.judged)

pub returns : goal.returns
returns c = λ texts parts fits.
    (λ yes. ends SpellsText IsWholeId texts c.loop-left.left text_has_bytes (c.loop-left.invariant texts parts fits) (c.loop-left-test.ensures.0 refl), λ all. refl)
