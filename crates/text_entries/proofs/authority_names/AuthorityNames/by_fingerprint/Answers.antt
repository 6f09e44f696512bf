-- Each SHA-256 has the first name of its key.
use Rattle.std.proofs.Common.{refl, sym, ◌∙◌}
use Rattle.sha2.specs.Sha256.{sha256}
use Rattle.text_entries.specs.AuthorityNames.{key_named, named_keys, printed_names}
use Rattle.text_entries.proofs.KeyNames.{all_found, one_more}
use Rattle.text_entries.proofs.authority_names.AuthorityNames.by_fingerprint.Goals as goal

pub loop-name-init : goal.loop-name-init
loop-name-init c = λ print. rw (c.new-names.ensures, c.into_iter-name-iterator.ensures.into_iter_gives, c.iter-name-items.ensures.rest, ← c.self.view_is) refl

pub loop-name-preserved : goal.loop-name-preserved
loop-name-preserved c = λ print.
    let at = rw (c.in-Some.ensures.steps) at c.loop-name.invariant print in
    rw (c.in_ok-add.ensures print, c.digest.ensures, c.as_slice.ensures, c.deref.ensures.value)
    (one_more (key_named c.loop-name.names print) (sha256 c.in-Some.key.now) c.in-Some.name.now.items print (printed_names (named_keys c.next.new.self)) ∙ at)

pub returns : goal.returns
returns c = λ print. sym (all_found (key_named c.loop-name.names print) print) ∙ rw (c.in-None.ensures.steps.0) at c.loop-name.invariant print
