use Rattle.krl_entries.proofs.Common.{GoesTo, subst}
use Rattle.krl_entries.proofs.OrderedTexts.{goes_in}
use Rattle.krl_entries.proofs.ids.put_few.Goals as goal

pub returns-clause-rise : goal.returns-clause-rise
returns-clause-rise c =
    let few = c.args.few.now.items in
    let at = c.in-Some.at in
    let goes = subst (GoesTo at c.args.id.now) c.as_slice.ensures.value c.in-Some.ensures in
    (goes_in at c.in_ok-from_slice.field-0 few c.grow.new.few.items c.insert.new.self.items c.args.id.now c.requires goes c.in_ok-from_slice.ensures.items c.grow.ensures c.in_ok-insert.ensures.items).0

pub returns-clause-ok : goal.returns-clause-ok
returns-clause-ok c =
    let few = c.args.few.now.items in
    let at = c.in-Some.at in
    let goes = subst (GoesTo at c.args.id.now) c.as_slice.ensures.value c.in-Some.ensures in
    (goes_in at c.in_ok-from_slice.field-0 few c.grow.new.few.items c.insert.new.self.items c.args.id.now c.requires goes c.in_ok-from_slice.ensures.items c.grow.ensures c.in_ok-insert.ensures.items).1
