-- The numbers of the other postings are left.
use Rattle.std.proofs.Common.{◌≡◌, ◌++◌, drop}
use Rattle.text_index.specs.NameIndex.{numbers_among}
use Rattle.text_index.specs.Postings.{sought_name}
use Rattle.text_index.proofs.name_index.NameIndex.gather.Given as goal

abbrev pub invariant-postings : goal.invariant-postings
invariant-postings l =
    l.lines.items ++ numbers_among (drop l.posting-index l.posting-items) (sought_name l.fn.sought)
    ≡ l.initial.lines.items ++ numbers_among l.posting-items (sought_name l.fn.sought)
