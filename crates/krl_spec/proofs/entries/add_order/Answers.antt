-- The entry of the directive is added.
use Rattle.std.proofs.Common.{arith, refl}
use Rattle.krl_types.specs.Entry.{KeyEntry, Sha1Entry, Sha256Entry}
use Rattle.sha1.specs.Sha1.{sha1}
use Rattle.sha2.specs.Sha256.{sha256}
use Rattle.krl_spec.proofs.entries.add_order.Goals as goal

pub returns-in_ok-add_key-in-Key-clause-adds : goal.returns-in_ok-add_key-in-Key-clause-adds
returns-in_ok-add_key-in-Key-clause-adds g c =
    let read = c.in_ok-plain_key-in-Key.ensures.read in
    (KeyEntry c.in_ok-plain_key-in-Key.field-0, rw (c.in-Key.is, read) refl, rw (← c.as_slice-in-Key.ensures) c.in_ok-add_key-in-Key.ensures.means, omega (arith, c.in_ok-add_key-in-Key.ensures.held))

pub returns-in_ok-add_sha1-in-Sha1-clause-adds : goal.returns-in_ok-add_sha1-in-Sha1-clause-adds
returns-in_ok-add_sha1-in-Sha1-clause-adds g c =
    let read = c.in_ok-plain-in-Sha1.ensures.read in
    (Sha1Entry (sha1 c.in_ok-plain-in-Sha1.plain), rw (c.in-Sha1.is, read) refl, rw (← c.as_slice-in-Sha1.ensures, ← c.sha1_of.ensures) c.in_ok-add_sha1-in-Sha1.ensures.means, omega (arith, c.in_ok-add_sha1-in-Sha1.ensures.held))

pub returns-in_ok-add_sha256-in-Sha256-clause-adds : goal.returns-in_ok-add_sha256-in-Sha256-clause-adds
returns-in_ok-add_sha256-in-Sha256-clause-adds g c =
    let read = c.in_ok-plain-in-Sha256.ensures.read in
    (Sha256Entry (sha256 c.in_ok-plain-in-Sha256.plain), rw (c.in-Sha256.is, read) refl, rw (← c.as_slice-in-Sha256.ensures, ← c.sha256_of.ensures) c.in_ok-add_sha256-in-Sha256.ensures.means, omega (arith, c.in_ok-add_sha256-in-Sha256.ensures.held))

pub returns-in_ok-add_sha256-in-Hash-clause-adds : goal.returns-in_ok-add_sha256-in-Hash-clause-adds
returns-in_ok-add_sha256-in-Hash-clause-adds g c =
    let read = c.in_ok-read_hash-in-Hash.ensures.read in
    (_, rw (c.in-Hash.is, read) refl, c.in_ok-add_sha256-in-Hash.ensures.means, omega (arith, c.in_ok-add_sha256-in-Hash.ensures.held))
