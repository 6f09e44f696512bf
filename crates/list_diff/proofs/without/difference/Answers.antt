-- Sections, keys and hashes, one after another.
use Rattle.list_diff.proofs.Common.{◌++◌, flat_map, KeyEntry, map, nothing, refl, section_entries}
use Rattle.list_diff.proofs.Common.{Sha1Entry, Sha256Entry}
use Rattle.list_diff.proofs.Differences.{all_lost, gains_joined, lost_joined, lost_none, means_lost}
use Rattle.list_diff.proofs.Gains.{owes_all, owes_less, owes_none}
use Rattle.list_diff.proofs.Sizes.{few_held}
use Rattle.list_diff.proofs.without.difference.Goals as goal

pub loop-listed-init : goal.loop-listed-init
loop-listed-init g c = rw (c.into_iter-listed-iterator.ensures.into_iter_gives, c.iter_authorities-listed-items.ensures, c.new-gone.ensures.nothing) (owes_all nothing _)

pub loop-listed-preserved : goal.loop-listed-preserved
loop-listed-preserved g c =
    let owes = rw c.in-Some.ensures.steps at c.loop-listed.invariant in
    owes_less nothing _ _ _ _ _ _ owes c.in_ok-add_section.ensures (lost_joined c.args.old.now (section_entries c.in-Some.listed) _)

pub add_items-requires : goal.add_items-requires
add_items-requires g c = λ i item at. refl

pub add_items-requires-2 : goal.add_items-requires-2
add_items-requires-2 g c = rw c.iter_sha1s.ensures c.in_order-new.ensures.orderly.sha1_size

pub add_items-requires-3 : goal.add_items-requires-3
add_items-requires-3 g c = rw c.iter_sha256s.ensures c.in_order-new.ensures.orderly.sha256_size

pub returns : goal.returns
returns g c =
    let old = c.args.old.now in
    let new = c.args.new.now in
    let mid = c.loop-listed.gone in
    let keys = c.add_items.new.gone in
    let sha1s = c.add_items-2.new.gone in
    let gone = c.add_items-3.new.gone in
    let first = owes_none nothing _ _ _ (rw c.in-None.ensures.steps.0 at c.loop-listed.invariant) (lost_none old) in
    let second = rw c.iter_keys.ensures at c.in_ok-add_items.ensures in
    let third = rw c.iter_sha1s.ensures at c.in_ok-add_items-2.ensures in
    let fourth = rw c.iter_sha256s.ensures at c.in_ok-add_items-3.ensures in
    let hashes = gains_joined old keys sha1s gone (map Sha1Entry new.sha1s) (map Sha256Entry new.sha256s) third fourth in
    let texts = gains_joined old mid keys gone (map KeyEntry new.keys) (map Sha1Entry new.sha1s ++ map Sha256Entry new.sha256s) second hashes in
    let all = gains_joined old nothing mid gone (flat_map section_entries new.sections) (map KeyEntry new.keys ++ (map Sha1Entry new.sha1s ++ map Sha256Entry new.sha256s)) first texts in
    let is = all_lost old new gone c.in_order-new.ensures.orderly c.in_order-gone.ensures.orderly all in
    record {
      holds = is;
      means = means_lost old new gone is;
      held = few_held old new gone c.in_order-old.ensures.orderly c.in_order-new.ensures.orderly is;
    }
