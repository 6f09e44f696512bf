-- There is no key.
use Rattle.std.proofs.Common.{refl, sym, ◌∙◌}
use Rattle.audit_lines.specs.Outcome.{Empty}
use Rattle.audit_lines.proofs.Spelled.{nothing_there}
use Rattle.audit_lines.proofs.outcome.read_outcomes.Goals as goal

pub returns-then-not-has_key : goal.returns-then-not-has_key
returns-then-not-has_key c =
    rw (nothing_there c.args.fronts c.args.text.now (sym c.has_key.ensures.value ∙ c.if-not-has_key.true)) (c.one.ensures Empty refl)
