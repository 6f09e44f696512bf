use Rattle.krl_entries.proofs.Common.{◌∙◌, bytes_of, IfOk-weaker, IsFromIterResult, map-id, Puts}
use Rattle.krl_entries.proofs.Common.{subst, sym, texts_of}
use Rattle.std.proofs.lemmas.Iterator.{items_from_drains}
use Rattle.std.proofs.lemmas.Iterator.Adapters.{YieldsList-from_vec}
use Rattle.krl_entries.proofs.OrderedTexts.{cloned, collected, rises_again}
use Rattle.krl_entries.proofs.Sets.{by_read}
use Rattle.krl_entries.proofs.ids.spread.Goals as goal

pub put_few-requires : goal.put_few-requires
put_few-requires c =
    let few = c.args.few.now in
    let copies = c.in_ok-texts.texts.items in
    rises_again few copies (cloned few copies c.in_ok-texts.ensures.ok) c.requires

pub returns : goal.returns
returns c =
    let few = c.args.few.now in
    let copies = c.in_ok-texts.texts.items in
    let texts = c.put_few.new.few in
    IfOk-weaker c.from_iter.result _ _
    (λ set ran.
    let drained = sym (map-id ran.1) ∙ items_from_drains ran.1 ran.3 (YieldsList-from_vec texts.items ran.2.0 (ran.2.1 ∙ texts.ok.0)) in
    let made = subst (λ xs. IsFromIterResult (by_read bytes_of) xs set) drained ran.4 in
    subst (Puts (texts_of few) c.args.id.now) (sym (collected texts.items set c.put_few.ensures.rise made))
    (subst (λ l. Puts l c.args.id.now (texts_of texts.items)) (cloned few copies c.in_ok-texts.ensures.ok) c.in_ok-put_few.ensures.ok))
    c.from_iter.ensures.ran
