-- One section after another.
use Rattle.std.proofs.Common.{refl, sym, subst, ◌∙◌}
use Rattle.std.proofs.lemmas.Bool.{false≢true}
use Rattle.krl_format.specs.Krl.{SpellsEach, SpellsSection}
use Rattle.krl_openssh.specs.Comparable.{IsFine}
use Rattle.krl_openssh.proofs.Spelled.{section_has_bytes}
use Rattle.krl_openssh.proofs.Walk.{begins, ends, goes_on, refuses}
use Rattle.krl_openssh.proofs.authorities.are_fine.Goals as goal

pub returns-in_default : goal.returns-in_default
returns-in_default c = λ header sections spells. absurd (c.in_default.ensures header sections spells)

pub loop-left-init : goal.loop-left-init
loop-left-init c = λ header sections spells.
    begins SpellsSection (IsFine c.args.why) sections _ (subst (λ left. SpellsEach SpellsSection left sections) (sym (c.new-left.ensures ∙ c.in-Some.ensures header sections spells)) spells.sections_are)

pub returns-then-not-section_is_fine : goal.returns-then-not-section_is_fine
returns-then-not-section_is_fine c = λ header sections spells. (
  λ never. absurd (false≢true never),
  λ all. absurd (refuses SpellsSection (IsFine c.args.why) sections c.loop-left.left c.section_is_fine.new.left (λ none. false≢true (c.loop-left-test.ensures.1 none)) (c.loop-left.invariant header sections spells) c.if-not-section_is_fine.ensures.judged all),
)

pub loop-left-preserved : goal.loop-left-preserved
loop-left-preserved c = λ header sections spells.
    goes_on SpellsSection (IsFine c.args.why) sections c.loop-left.left c.section_is_fine.new.left (λ none. false≢true (c.loop-left-test.ensures.1 none)) (c.loop-left.invariant header sections spells) c.if-not-section_is_fine.ensures.judged

pub returns : goal.returns
returns c = λ header sections spells.
    (λ yes. ends SpellsSection (IsFine c.args.why) sections c.loop-left.left section_has_bytes (c.loop-left.invariant header sections spells) (c.loop-left-test.ensures.0 refl), λ all. refl)
