use Rattle.krl_entries.proofs.Common.{◌+◌, ◌≡◌, ◌≤◌, arith, length, Means, revocations_of, rules}
use Rattle.krl_entries.proofs.Common.{stored, subst, sym, texts_of}
use Rattle.krl_entries.proofs.AddedSections.{put_size}
use Rattle.krl_entries.proofs.Sets.{set_puts}
use Rattle.krl_entries.proofs.Keys.{sha1_orderly, sha1_mean}
use Rattle.krl_entries.proofs.revocations.Revocations.add_sha1.Goals as goal

pub invariant_of-self-2 : goal.invariant_of-self-2
invariant_of-self-2 g c =
    let r = c.self.inside in
    let size : length c.args.hash.now ≡ 20 = search rules in
    sha1_orderly c.args.hash.now r.sections (texts_of r.keys.keys) r.sha1s.keys c.insert.new.self.keys r.sha256s.keys (set_puts c.args.hash.now r.sha1s.keys c.insert.new.self.keys c.in_ok-insert.ensures.keys c.insert.ensures.ordered) size c.self.invariant

pub returns-clause-means : goal.returns-clause-means
returns-clause-means g c entries m =
    let r = c.self.inside in
    let size : length c.args.hash.now ≡ 20 = search rules in
    sha1_mean c.args.hash.now r.sections (texts_of r.keys.keys) r.sha1s.keys c.insert.new.self.keys r.sha256s.keys entries (set_puts c.args.hash.now r.sha1s.keys c.insert.new.self.keys c.in_ok-insert.ensures.keys c.insert.ensures.ordered) size (subst (λ x. Means x entries) (sym c.self.view_is) m)

pub returns-clause-stored : goal.returns-clause-stored
returns-clause-stored g c =
    let r = c.self.inside in
    let size : length c.args.hash.now ≡ 20 = search rules in
    let put = put_size r.sha1s.keys c.args.hash.now c.insert.new.self.keys (set_puts c.args.hash.now r.sha1s.keys c.insert.new.self.keys c.in_ok-insert.ensures.keys c.insert.ensures.ordered) in
    subst (λ x. stored (revocations_of r.sections (texts_of r.keys.keys) c.insert.new.self.keys r.sha256s.keys) ≤ stored x + 20) c.self.view_is (omega (arith, size, put))
