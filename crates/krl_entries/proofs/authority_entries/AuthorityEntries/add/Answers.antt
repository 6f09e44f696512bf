use Rattle.krl_entries.proofs.Common.{refl, section_of, TakesId}
use Rattle.krl_entries.proofs.authority_entries.AuthorityEntries.add.Goals as goal

pub returns-in_ok-put-in-Item : goal.returns-in_ok-put-in-Item
returns-in_ok-put-in-Item g c authority =
    let old = c.args.self.now in
    let new = record old { ids = c.put.new.self } in
    let takes : TakesId c.in-Item.text.now (section_of g.S.Spans.spans (authority, old)) (section_of g.S.Spans.spans (authority, new)) =
    record { same = refl; put = c.in_ok-put-in-Item.ensures.ok } in
    rw c.in-Item.is takes
