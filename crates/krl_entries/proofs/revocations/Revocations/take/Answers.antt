use Rattle.krl_entries.specs.Texts.{texts_of}
use Rattle.krl_entries.proofs.SeparateSections.{left_orderly}
use Rattle.krl_entries.proofs.revocations.Revocations.take.Goals as goal

pub invariant_of-self : goal.invariant_of-self
invariant_of-self g c =
    let r = c.self.inside in
    left_orderly g.S.Spans.spans c.args.addition c.args.authority.now c.take.result r.sections c.take.new.self (texts_of r.keys.keys) r.sha1s.keys r.sha256s.keys c.requires c.take.ensures.ok c.take.ensures.refused c.self.invariant
