-- Each posting that has the name adds its number.
use Rattle.std.proofs.Common.{◌∙◌, ◌++◌, List, ℕ, None, Some, sym, ap, append-nil, arith}
use Rattle.text_index.specs.NameIndex.{numbers_among}
use Rattle.text_index.specs.Postings.{sought_name}
use Rattle.text_index.specs.declared.posting.Posting.{Posting}
use Rattle.text_index.proofs.Gathered.{postings_done, those_at_key}
use Rattle.text_index.proofs.name_index.NameIndex.gather.Goals as goal

pub returns-in_default : goal.returns-in_default
returns-in_default c =
    rw (← c.self.view_is)
    (sym (append-nil c.args.lines.now.items)
    ∙ ap (λ (more : List ℕ). c.args.lines.now.items ++ more) (sym (those_at_key _ c.args.key (sought_name c.args.sought) None (sym c.in_default.ensures.value))))

pub returns : goal.returns
returns c =
    let name = sought_name c.args.sought in
    rw (← c.self.view_is)
    (sym (postings_done name c.deref-posting-items.result.now c.postings.posting-index c.postings.lines.items (omega arith))
    ∙ c.postings.invariant
    ∙ ap (λ (postings : List Posting). c.args.lines.now.items ++ numbers_among postings name) c.deref-posting-items.ensures.value
    ∙ ap (λ (more : List ℕ). c.args.lines.now.items ++ more) (sym (those_at_key _ c.args.key name (Some c.in-Some.postings.now) (sym c.in-Some.ensures.value))))
