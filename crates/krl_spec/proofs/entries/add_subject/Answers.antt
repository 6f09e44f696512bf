-- The entry is added, and only an authority that was not named takes bytes of its own.
use Rattle.std.proofs.Common.{◌≡◌, arith, rules}
use Rattle.krl_types.specs.Entry.{RangeEntry}
use Rattle.krl_spec.specs.Entries.{certificate_entry, names_entry}
use Rattle.krl_spec.proofs.Growth.{under_grows}
use Rattle.krl_spec.proofs.entries.add_subject.Goals as goal

pub returns-in-None-clause-means : goal.returns-in-None-clause-means
returns-in-None-clause-means g c =
    rw (← c.asked.view_is, c.in-None.is, ← c.as_slice.ensures) c.add_key.ensures.means

pub returns-in-Some-clause-means : goal.returns-in-Some-clause-means
returns-in-Some-clause-means g c =
    rw (← c.asked.view_is, c.in-Some.is, certificate_entry, ← c.names.view_is, c.if-names-eq0.true) c.add_id.ensures.means

pub returns-in-Some-clause-grows : goal.returns-in-Some-clause-grows
returns-in-Some-clause-grows g c = λ current size fits.
    let added = c.add_id.ensures in
    under_grows current _ _ size _ _ _ (rw (← c.asked.view_is, c.in-Some.is, certificate_entry, ← c.names.view_is, c.if-names-eq0.true) at fits) added.changes.known added.changes.grows added.changes.stays added.named added.refused

pub returns-in-Some-2-clause-means : goal.returns-in-Some-2-clause-means
returns-in-Some-2-clause-means g c =
    let names = c.names-in-Some-2.inside in
    let is : names_entry c.args.asked.now.plain c.args.asked.now.cert ≡ RangeEntry names.authority.now names.serial names.serial = search rules in
    rw is c.add_serials.ensures.means

pub returns-in-Some-2-clause-grows : goal.returns-in-Some-2-clause-grows
returns-in-Some-2-clause-grows g c = λ current size fits.
    let names = c.names-in-Some-2.inside in
    let is : names_entry c.args.asked.now.plain c.args.asked.now.cert ≡ RangeEntry names.authority.now names.serial names.serial = search rules in
    let added = c.add_serials.ensures in
    under_grows current _ 0 size _ _ _ (rw is at fits) (λ named. omega (arith, added.changes.known named)) (omega (arith, added.changes.grows)) added.changes.stays added.named added.refused
