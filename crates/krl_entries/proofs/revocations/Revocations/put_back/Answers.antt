use Rattle.krl_entries.proofs.Common.{IsOrderly, revocations_of, section_of, subst, sym, texts_of}
use Rattle.krl_entries.proofs.Gathering.{whole_orderly}
use Rattle.krl_entries.proofs.revocations.Revocations.put_back.Goals as goal

pub invariant_of-self : goal.invariant_of-self
invariant_of-self g c =
    let r = c.self.inside in
    let apart = c.args.apart in
    let rest = revocations_of r.sections (texts_of r.keys.keys) r.sha1s.keys r.sha256s.keys in
    subst (λ l. IsOrderly (revocations_of l (texts_of r.keys.keys) r.sha1s.keys r.sha256s.keys)) (sym c.put_back.ensures)
    (whole_orderly (section_of g.S.Spans.spans (apart.name.items, apart.section)) rest (rw (← c.self.view_is) at c.requires) c.self.invariant)
