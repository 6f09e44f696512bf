-- An item has one key.
use Rattle.std.proofs.Common.{sym, ap, ◌∙◌, ◌++◌}
use Rattle.krl_entries.specs.Named.{item_name}
use Rattle.text_index.specs.NameIndex.{item_key, numbers_at}
use Rattle.text_index.proofs.Keys.{item_numbers}
use Rattle.text_index.proofs.name_index.NameIndex.find_item.Goals as goal

pub returns : goal.returns
returns c =
    let name = item_name c.args.kind c.args.authority.now c.args.item.now in
    rw c.item_key.ensures at c.in_ok-gather.ensures ∙ ap (λ lines. lines ++ numbers_at c.args.self.now (item_key c.args.item.now) name) c.new-lines.ensures.items
    ∙ sym (item_numbers c.args.self.now c.args.kind c.args.authority.now c.args.item.now)
