use Rattle.krl_entries.proofs.Common.{◌+◌, ◌≤◌, arith, bytes_in, held, HoldsMore, IsNamed, length}
use Rattle.krl_entries.proofs.Common.{Means, revocations_of, rules, stored, subst, sym, texts_of}
use Rattle.krl_entries.proofs.Additions.{adds_mean, adds_orderly}
use Rattle.krl_entries.proofs.Amounts.{adds_held, adds_named, adds_stays, adds_stored, held_stays}
use Rattle.krl_entries.proofs.Amounts.{named_stored}
use Rattle.krl_entries.proofs.revocations.Revocations.add_under.Goals as goal

pub invariant_of-self-2 : goal.invariant_of-self-2
invariant_of-self-2 g c =
    let r = c.self.inside in
    adds_orderly c.args.addition c.args.authority.now r.sections c.add.new.self (texts_of r.keys.keys) r.sha1s.keys r.sha256s.keys c.requires c.in_ok-add.ensures.ok c.self.invariant

pub returns-clause-means : goal.returns-clause-means
returns-clause-means g c entries m =
    let r = c.self.inside in
    adds_mean c.args.addition c.args.authority.now r.sections c.add.new.self (texts_of r.keys.keys) r.sha1s.keys r.sha256s.keys entries c.requires c.in_ok-add.ensures.ok
    (subst (λ x. Means x entries) (sym c.self.view_is) m)

pub returns-clause-held : goal.returns-clause-held
returns-clause-held g c =
    let r = c.self.inside in
    subst (λ x. HoldsMore c.args.addition (held x) (held (revocations_of c.add.new.self (texts_of r.keys.keys) r.sha1s.keys r.sha256s.keys))) c.self.view_is
    (adds_held c.args.addition c.args.authority.now r.sections c.add.new.self c.in_ok-add.ensures.ok)

pub returns-in_err-add-clause-held : goal.returns-in_err-add-clause-held
returns-in_err-add-clause-held g c =
    rw (← c.self.view_is, c.in_err-add.ensures.refused) (held_stays c.args.addition _)

pub returns-clause-changes : goal.returns-clause-changes
returns-clause-changes g c =
    let r = c.self.inside in
    let a = c.args.authority.now in
    let more = bytes_in c.args.addition in
    let new = revocations_of c.add.new.self (texts_of r.keys.keys) r.sha1s.keys r.sha256s.keys in
    record {
      orderly = search rules;
      grows =
          subst (λ x. stored new ≤ stored x + length a + more) c.self.view_is
          (omega (arith, adds_stored c.args.addition a r.sections c.add.new.self c.in_ok-add.ensures.ok));
      known = λ named.
          subst (λ x. stored new ≤ stored x + more) c.self.view_is
          (omega (arith, named_stored c.args.addition a r.sections c.add.new.self (subst (λ x. IsNamed x a) (sym c.self.view_is) named) c.in_ok-add.ensures.ok));
      stays = λ other named.
          adds_stays c.args.addition a other r.sections c.add.new.self c.in_ok-add.ensures.ok (subst (λ x. IsNamed x other) (sym c.self.view_is) named);
      keys = search rules;
    }

pub returns-clause-named : goal.returns-clause-named
returns-clause-named g c =
    adds_named c.args.addition c.args.authority.now c.self.inside.sections c.add.new.self c.in_ok-add.ensures.ok
