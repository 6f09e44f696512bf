-- The line is under a number for what the fact names.
use Rattle.std.proofs.lemmas.Result.{on_ok_weaker}
use Rattle.text_index.proofs.AddedNames.{item_added, span_added}
use Rattle.text_index.proofs.name_index.NameIndex.add_fact.Goals as goal

pub returns-in_ok-posting-in-Serials : goal.returns-in_ok-posting-in-Serials
returns-in_ok-posting-in-Serials c =
    rw c.in-Serials.is
    (on_ok_weaker c.put.result
    (λ puts. span_added c.args.line c.in-Serials.authority.now c.in-Serials.span c.common_front.result c.in_ok-posting-in-Serials.posting c.args.self.now c.put.new.self
    c.common_front.ensures c.in_ok-posting-in-Serials.ensures puts) c.put.ensures)

pub returns-in_ok-posting-in-Item : goal.returns-in_ok-posting-in-Item
returns-in_ok-posting-in-Item c =
    rw c.in-Item.is
    (on_ok_weaker c.put-in-Item.result
    (λ puts. item_added c.args.line c.in-Item.kind c.in-Item.authority.now c.in-Item.bytes.now c.in_ok-posting-in-Item.posting c.args.self.now c.put-in-Item.new.self
    (rw (c.from_vec.ensures, c.in_ok-copy-in-Item.ensures.items) at c.in_ok-posting-in-Item.ensures) (rw c.item_key.ensures at puts)) c.put-in-Item.ensures)
