-- A subsection has a type byte.
use Rattle.krl_openssh.proofs.KeyIds.{has_type}
use Rattle.krl_openssh.proofs.key_ids.subsection_is_whole.Goals as goal

pub returns-in_default-clause-judged : goal.returns-in_default-clause-judged
returns-in_default-clause-judged c = λ subsection first rest is parts.
    absurd (has_type subsection first rest c.args.left.now c.in_default.field-0 is parts c.in_default.ensures.exact.0)
