-- One subsection after another, behind two strings.
use Rattle.std.proofs.Common.{refl}
use Rattle.std.proofs.lemmas.Bool.{false≢true}
use Rattle.krl_format.specs.Krl.{SpellsSubsection}
use Rattle.krl_openssh.specs.Comparable.{HasWholeIds}
use Rattle.krl_openssh.proofs.KeyIds.{sub_has_bytes}
use Rattle.krl_openssh.proofs.Walk.{ends, goes_on, refuses}
use Rattle.krl_openssh.proofs.key_ids.key_ids_are_whole.Goals as goal

pub returns-then-not-subsection_is_whole : goal.returns-then-not-subsection_is_whole
returns-then-not-subsection_is_whole c = λ authority subsections spells fits. (
  λ never. absurd (false≢true never),
  λ all. absurd (refuses SpellsSubsection HasWholeIds subsections c.loop-left.left c.subsection_is_whole.new.left (λ none. false≢true (c.loop-left-test.ensures.1 none)) (c.loop-left.invariant authority subsections spells fits) c.if-not-subsection_is_whole.ensures.judged all),
)

pub loop-left-preserved : goal.loop-left-preserved
loop-left-preserved c = λ authority subsections spells fits.
    goes_on SpellsSubsection HasWholeIds subsections c.loop-left.left c.subsection_is_whole.new.left (λ none. false≢true (c.loop-left-test.ensures.1 none)) (c.loop-left.invariant authority subsections spells fits) c.if-not-subsection_is_whole.ensures.judged

pub returns : goal.returns
returns c = λ authority subsections spells fits.
    (λ yes. ends SpellsSubsection HasWholeIds subsections c.loop-left.left sub_has_bytes (c.loop-left.invariant authority subsections spells fits) (c.loop-left-test.ensures.0 refl), λ all. refl)
