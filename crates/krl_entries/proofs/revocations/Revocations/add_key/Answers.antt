use Rattle.krl_entries.proofs.Common.{Means, subst, sym, texts_of}
use Rattle.krl_entries.proofs.Keys.{key_orderly, key_mean}
use Rattle.krl_entries.proofs.revocations.Revocations.add_key.Goals as goal

pub invariant_of-self-2 : goal.invariant_of-self-2
invariant_of-self-2 g c =
    let r = c.self.inside in
    key_orderly c.args.blob.now r.sections (texts_of r.keys.keys) (texts_of c.put_text.new.set.keys) r.sha1s.keys r.sha256s.keys c.in_ok-put_text.ensures.ok c.self.invariant

pub returns-clause-means : goal.returns-clause-means
returns-clause-means g c entries m =
    let r = c.self.inside in
    key_mean c.args.blob.now r.sections (texts_of r.keys.keys) (texts_of c.put_text.new.set.keys) r.sha1s.keys r.sha256s.keys entries c.in_ok-put_text.ensures.ok (subst (λ x. Means x entries) (sym c.self.view_is) m)
