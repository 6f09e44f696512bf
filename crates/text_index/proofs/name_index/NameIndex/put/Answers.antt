-- The posting is behind those that the key has, or is the first one.
use Rattle.std.proofs.Common.{◌∙◌, ◌++◌, ◌∷◌, [], List, sym, ap}
use Rattle.std.proofs.lemmas.Result.{on_ok_weaker}
use Rattle.text_index.specs.declared.posting.Posting.{Posting}
use Rattle.text_index.proofs.Places.{puts_inserted, puts_set}
use Rattle.text_index.proofs.name_index.NameIndex.put.Goals as goal

pub returns-in-Some : goal.returns-in-Some
returns-in-Some c =
    let set = (c.get_mut.follows.holds c.push.new.postings).0 in
    rw (← c.self.view_is)
    (on_ok_weaker c.push.result
    (λ is. puts_set c.args.key c.args.posting _ _ c.in-Some.postings.now c.push.new.postings (sym c.in-Some.ensures.value) set is) c.push.ensures)

pub returns : goal.returns
returns c =
    let inserted = rw c.get_mut.follows.holds-at-none at c.in_ok-insert.ensures.entries in
    rw (← c.self.view_is)
    (puts_inserted c.args.key c.args.posting _ _ c.push-2.new.postings (sym c.in_default.ensures.value) inserted
    (c.in_ok-push.ensures ∙ ap (λ (postings : List Posting). postings ++ c.args.posting ∷ []) c.in_ok-postings.ensures.items))
