-- Each key has its first name.
use Rattle.std.proofs.Common.{refl, sym, ◌∙◌}
use Rattle.text_entries.specs.AuthorityNames.{key_named, named_keys}
use Rattle.text_entries.proofs.KeyNames.{all_found, one_more}
use Rattle.text_entries.proofs.authority_names.AuthorityNames.by_key.Goals as goal

pub loop-name-init : goal.loop-name-init
loop-name-init c = λ key. rw (c.new-names.ensures, c.into_iter-name-iterator.ensures.into_iter_gives, c.iter-name-items.ensures.rest, ← c.self.view_is) refl

pub loop-name-preserved : goal.loop-name-preserved
loop-name-preserved c = λ key.
    let at = rw (c.in-Some.ensures.steps) at c.loop-name.invariant key in
    rw (c.in_ok-add.ensures key, c.as_slice.ensures, c.deref.ensures.value)
    (one_more (key_named c.loop-name.names key) c.in-Some.key.now c.in-Some.name.now.items key (named_keys c.next.new.self) ∙ at)

pub returns : goal.returns
returns c = λ key. sym (all_found (key_named c.loop-name.names key) key) ∙ rw (c.in-None.ensures.steps.0) at c.loop-name.invariant key
