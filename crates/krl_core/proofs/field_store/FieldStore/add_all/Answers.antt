-- The entries of the sections are followed by the keys and the hashes.
use Rattle.krl_core.proofs.Common.{[], ◌++◌, ◌∙◌, ◌∷◌, ap, append-nil, flat_map, map, on_ok_weaker}
use Rattle.krl_core.proofs.Common.{refl}
use Rattle.std.proofs.lemmas.List.Concat.{flat_map-append}
use Rattle.std.proofs.lemmas.Result.{on_err_weaker}
use Rattle.krl_entries.specs.Canonical.{section_entries}
use Rattle.krl_types.specs.Entry.{KeyEntry, Sha1Entry, Sha256Entry}
use Rattle.krl_core.proofs.GainedEntries.{err_says, gained_all, gained_more, gained_none}
use Rattle.krl_core.proofs.GainedEntries.{gained_some, gains_then}
use Rattle.krl_core.proofs.field_store.FieldStore.add_all.Goals as goal

pub loop-section-init : goal.loop-section-init
loop-section-init g c =
    rw (c.into_iter-section-iterator.ensures.into_iter_gives, c.iter_authorities-section-items.ensures) (gained_none (flat_map section_entries) c.args.front.now.sections c.args.self.now refl)

pub add_section-requires : goal.add_section-requires
add_section-requires g c = ap (λ b. b.pending) c.loop-section.invariant.gains.bitmap_is ∙ c.requires

pub loop-section-preserved : goal.loop-section-preserved
loop-section-preserved g c =
    let one = section_entries c.in-Some.section in
    gained_more (flat_map section_entries) c.args.front.now.sections (c.in-Some.section ∷ []) c.next.new.self c.args.self.now c.loop-section.self c.add_section.new.self
    (flat_map-append section_entries) (rw c.in-Some.ensures.steps at c.loop-section.invariant) (rw (append-nil one) c.in_ok-add_section.ensures)

pub add_items-requires : goal.add_items-requires
add_items-requires g c = λ i item at. refl

pub add_items-requires-2 : goal.add_items-requires-2
add_items-requires-2 g c = rw c.iter_sha1s.ensures c.in_order-front.ensures.orderly.sha1_size

pub add_items-requires-3 : goal.add_items-requires-3
add_items-requires-3 g c = rw c.iter_sha256s.ensures c.in_order-front.ensures.orderly.sha256_size

pub returns-clause-gains : goal.returns-clause-gains
returns-clause-gains g c =
    let r = c.args.front.now in
    let sections = gained_all (flat_map section_entries) r.sections c.args.self.now c.loop-section.self (rw c.in-None.ensures.steps.0 at c.loop-section.invariant) in
    let keys = rw c.iter_keys.ensures at c.in_ok-add_items.ensures.gains in
    let sha1s = rw c.iter_sha1s.ensures at c.in_ok-add_items-2.ensures.gains in
    on_ok_weaker c.add_items-3.result (λ last.
    gains_then c.args.self.now c.loop-section.self c.add_items-3.new.self (flat_map section_entries r.sections) (map KeyEntry r.keys ++ (map Sha1Entry r.sha1s ++ map Sha256Entry r.sha256s)) sections
    (gains_then c.loop-section.self c.add_items.new.self c.add_items-3.new.self (map KeyEntry r.keys) (map Sha1Entry r.sha1s ++ map Sha256Entry r.sha256s) keys
    (gains_then c.add_items.new.self c.add_items-2.new.self c.add_items-3.new.self (map Sha1Entry r.sha1s) (map Sha256Entry r.sha256s) sha1s last)))
    (rw c.iter_sha256s.ensures at c.add_items-3.ensures.gains)

pub returns-in_err-add_section-clause-some : goal.returns-in_err-add_section-clause-some
returns-in_err-add_section-clause-some g c =
    err_says c.from_residual.result (λ none. gained_some (flat_map section_entries) c.args.front.now.sections c.next.new.self c.in-Some.section c.args.self.now c.loop-section.self
    (rw c.in-Some.ensures.steps at c.loop-section.invariant) (ap (λ r. r.sections) none))

pub returns-in_err-add_items-clause-some : goal.returns-in_err-add_items-clause-some
returns-in_err-add_items-clause-some g c = err_says c.from_residual-in_err-add_items.result (λ none. c.in_err-add_items.ensures.some (c.iter_keys.ensures ∙ ap (λ r. r.keys) none))

pub returns-in_err-add_items-2-clause-some : goal.returns-in_err-add_items-2-clause-some
returns-in_err-add_items-2-clause-some g c = err_says c.from_residual-in_err-add_items-2.result (λ none. c.in_err-add_items-2.ensures.some (c.iter_sha1s.ensures ∙ ap (λ r. r.sha1s) none))

pub returns-clause-some : goal.returns-clause-some
returns-clause-some g c = on_err_weaker c.add_items-3.result (λ some none. some (c.iter_sha256s.ensures ∙ ap (λ r. r.sha256s) none)) c.add_items-3.ensures.some
