-- The facts of each part, one part after another.
use Rattle.krl_entries.proofs.Common.{◌∙◌, sym}
use Rattle.krl_entries.proofs.FactsLeft.{key_next, nothing_next, section_next, sha1_next, sha256_next}
use Rattle.krl_entries.proofs.SerialsLeft.{progress}
use Rattle.krl_entries.proofs.facts.FactsIterator.next.Goals as goal

pub returns-in-Some-next-2-clause-steps : goal.returns-in-Some-next-2-clause-steps
returns-in-Some-next-2-clause-steps g c =
    sym c.self.view_is
    ∙ section_next _ _ _ _ _ _ c.in-Some-next-2.listed _ _ _ _ _ c.in_default.ensures.steps.0 c.in_default-next.ensures.steps.0 c.in-Some-next-2.ensures.steps
    c.authority-self-inside.ensures (c.of-self-inside.ensures ∙ c.spans.ensures) c.iter_ids-self-inside.ensures

pub returns-in-Some-next-2-clause-goes : goal.returns-in-Some-next-2-clause-goes
returns-in-Some-next-2-clause-goes g c = progress (λ xs. xs) _ (λ _. tt) _ _ _ _ (returns-in-Some-next-2-clause-steps g c)

pub returns-in-Some-next-3-clause-steps : goal.returns-in-Some-next-3-clause-steps
returns-in-Some-next-3-clause-steps g c =
    sym c.self.view_is
    ∙ key_next _ _ _ _ _ _ _ _ _ _ _ _ c.in_default.ensures.steps c.in_default-next.ensures.steps c.in_default-next-2.ensures.steps c.in-Some-next-3.ensures.steps

pub returns-in-Some-next-3-clause-goes : goal.returns-in-Some-next-3-clause-goes
returns-in-Some-next-3-clause-goes g c = progress (λ xs. xs) _ (λ _. tt) _ _ _ _ (returns-in-Some-next-3-clause-steps g c)

pub returns-in-Some-next-4-clause-steps : goal.returns-in-Some-next-4-clause-steps
returns-in-Some-next-4-clause-steps g c =
    sym c.self.view_is
    ∙ sha1_next _ _ _ _ _ _ _ _ _ _ _ _ _ c.in_default.ensures.steps c.in_default-next.ensures.steps c.in_default-next-2.ensures.steps c.in_default-next-3.ensures.steps c.in-Some-next-4.ensures.steps

pub returns-in-Some-next-4-clause-goes : goal.returns-in-Some-next-4-clause-goes
returns-in-Some-next-4-clause-goes g c = progress (λ xs. xs) _ (λ _. tt) _ _ _ _ (returns-in-Some-next-4-clause-steps g c)

pub returns-in-Some-next-5-clause-steps : goal.returns-in-Some-next-5-clause-steps
returns-in-Some-next-5-clause-steps g c =
    sym c.self.view_is
    ∙ sha256_next _ _ _ _ _ _ _ _ _ _ _ _ _ _ c.in_default.ensures.steps c.in_default-next.ensures.steps c.in_default-next-2.ensures.steps c.in_default-next-3.ensures.steps c.in_default-next-4.ensures.steps c.in-Some-next-5.ensures.steps

pub returns-in-Some-next-5-clause-goes : goal.returns-in-Some-next-5-clause-goes
returns-in-Some-next-5-clause-goes g c = progress (λ xs. xs) _ (λ _. tt) _ _ _ _ (returns-in-Some-next-5-clause-steps g c)

pub returns-clause-steps : goal.returns-clause-steps
returns-clause-steps g c =
    let serials = c.in_default.ensures.steps in
    let ids = c.in_default-next.ensures.steps in
    let sections = c.in_default-next-2.ensures.steps in
    let keys = c.in_default-next-3.ensures.steps in
    let sha1s = c.in_default-next-4.ensures.steps in
    let sha256s = c.in_default-next-5.ensures.steps in
    (sym c.self.view_is ∙ nothing_next _ _ _ _ _ _ _ serials.0 ids.0 sections.0 keys.0 sha1s.0 sha256s.0, nothing_next _ _ _ _ _ _ _ serials.1 ids.1 sections.1 keys.1 sha1s.1 sha256s.1)
