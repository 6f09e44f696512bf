-- The line and its names are added.
use Rattle.std.proofs.Common.{◌≡◌, ℕ, length, refl, subst, rules}
use Rattle.krl_entries.specs.Canonical.{entries_in}
use Rattle.krl_entries.specs.Tested.{some_names}
use Rattle.krl_fingerprints.specs.KeysBy.{entry_by}
use Rattle.text_entries.specs.Says.{entry_said}
use Rattle.text_index.specs.Indexing.{said_names}
use Rattle.text_index.specs.NameIndex.{AddsNames}
use Rattle.text_index.proofs.AddedNames.{adds_same}
use Rattle.text_index.proofs.FactNames.{held_alone}
use Rattle.text_index.proofs.Indexed.{index_more}
use Rattle.text_index.proofs.indexing.TextIndex.add_line.Goals as goal

pub returns : goal.returns
returns c =
    let takes = c.in_ok-take_line.ensures in
    let held = c.take_line.new.revocations in
    let added = rw c.new-held.ensures.nothing at takes.2.1 in
    let last : c.len.result ≡ length c.args.self.now.lines.items = search rules in
    let by = c.args.self.now.by in
    let seen = c.in_ok-held.held in
    let names = subst (λ (line : ℕ). AddsNames line (some_names (entries_in seen)) c.args.self.now.names c.add.new.self) last c.in_ok-add.ensures in
    let alone = held_alone by (entry_said takes.0) held seen added c.in_ok-held.ensures in
    let own = adds_same (length c.args.self.now.lines.items) (some_names (entries_in seen)) (said_names (entry_by by (entry_said takes.0))) c.args.self.now.names c.add.new.self alone names in
    (takes.0, takes.1, takes.2.0, index_more c.args.self.now _ c.args.line (entry_by by (entry_said takes.0)) c.in_ok-push.ensures refl own)
