-- The certificate authorities of the list are checked, and then its key IDs.
use Rattle.std.proofs.Common.{sym, ◌∙◌}
use Rattle.std.proofs.lemmas.Bool.{false≢true}
use Rattle.krl_openssh.proofs.authorities.first_incomparable.Goals as goal

pub returns-then-not-are_fine : goal.returns-then-not-are_fine
returns-then-not-are_fine c = λ header sections spells keys.
    false≢true (sym c.if-not-are_fine.true ∙ (c.are_fine.ensures header sections spells).1 keys)

pub returns-then-not-are_fine-2 : goal.returns-then-not-are_fine-2
returns-then-not-are_fine-2 c = λ header sections spells. (
  (c.are_fine.ensures header sections spells).0 c.if-not-are_fine.false,
  λ ids. false≢true (sym c.if-not-are_fine-2.true ∙ (c.are_fine-else-not-are_fine.ensures header sections spells).1 ids),
)

pub returns-else-not-are_fine-2 : goal.returns-else-not-are_fine-2
returns-else-not-are_fine-2 c = λ header sections spells. (
  (c.are_fine.ensures header sections spells).0 c.if-not-are_fine.false,
  (c.are_fine-else-not-are_fine.ensures header sections spells).0 c.if-not-are_fine-2.false,
)
