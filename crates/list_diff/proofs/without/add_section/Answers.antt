-- Serial numbers, and then key IDs.
use Rattle.list_diff.proofs.Common.{IdEntry, map, on_ok_weaker, refl, run_entries, spans_in}
use Rattle.list_diff.proofs.Differences.{gains_joined, serials_lost}
use Rattle.list_diff.proofs.without.add_section.Goals as goal

pub add_items-requires : goal.add_items-requires
add_items-requires g c = λ i item at. refl

pub returns : goal.returns
returns g c =
    let listed = c.args.listed in
    let old = c.args.old.now in
    let first = c.args.gone.now in
    let mid = c.add_serials.new.gone in
    let last = c.add_items.new.gone in
    let set = c.spans.result.now in
    let spans = g.S.Spans.spans set in
    let a = c.authority-authority in
    let serials = serials_lost old first mid a.result.now spans (spans_in g.S.Spans.spans c.spans_of-other.result) (g.met.S.Spans.law set).1 c.spans_of-other.ensures c.in_ok-add_serials.ensures in
    on_ok_weaker c.add_items.result (gains_joined old first mid last (run_entries listed.authority listed.spans) (map (IdEntry listed.authority) listed.ids) (rw (c.spans.ensures, a.ensures) at serials))
    (rw (c.iter_ids.ensures, a.ensures) at c.add_items.ensures)
