use Rattle.krl_entries.proofs.Common.{bytes_cmp, bytes_of, rules}
use Rattle.std.proofs.lemmas.Fn.{always_returns_same}
use Rattle.krl_entries.proofs.OrderedTexts.{searched}
use Rattle.krl_entries.proofs.ids.place_in.Goals as goal

pub returns : goal.returns
returns c =
    let ends = c.binary_search_by.ensures in
    rw c.err.ensures.value (searched c.args.few.now c.args.id.now c.binary_search_by.result c.requires ends.bound
    (ends.position (λ text. bytes_cmp (bytes_of text) c.args.id.now) (always_returns_same _ _ _ (λ a r f k. search rules))))
