-- The argument of a directive has no more bytes than the text.
use Rattle.krl_spec.proofs.Growth.{grows_more}
use Rattle.krl_spec.proofs.Sizes.{order_room}
use Rattle.krl_spec.proofs.adding.add_text.Goals as goal

pub returns-in_default-clause-grows : goal.returns-in_default-clause-grows
returns-in_default-clause-grows g c = c.add_bare.ensures.grows _

pub returns-clause-grows : goal.returns-clause-grows
returns-clause-grows g c = grows_more _ _ _ _ _ (order_room _ _ c.in-Some.ensures) c.add_order.ensures.grows
