-- The span's lost numbers are added, and those of the later spans are left.
use Rattle.list_diff.proofs.Common.{drop, Gains, get_or, List, LostBetween, LostSerial, refl, SerialWith}
use Rattle.list_diff.proofs.Common.{Span, subst, ◌∙◌, ◌+◌}
use Rattle.list_diff.proofs.Gains.{owes_all, owes_less, owes_none, serial_none, serial_parts}
use Rattle.list_diff.proofs.LostSerials.{lost_at, none_lost}
use Rattle.serial_set.specs.BitRuns.{IsInterval}
use Rattle.std.proofs.lemmas.List.{drop_all}
use Rattle.std.proofs.lemmas.List.Elements.{All-get_or}
use Rattle.list_diff.proofs.serials.add_spans.Goals as goal

abbrev none : Span
none = record { lo = 0; hi = 0 }

pub loop-span-init : goal.loop-span-init
loop-span-init g c = record { same = refl; owes = owes_all _ _ }

pub add_span-requires : goal.add_span-requires
add_span-requires g c = All-get_or IsInterval c.args.spans.now c.loop-span.span-index none c.loop-span-test.true c.requires

pub loop-span-preserved : goal.loop-span-preserved
loop-span-preserved g c =
    let i = c.loop-span.invariant in
    let a = c.args.authority.now in
    let spans = c.args.spans.now in
    let others = c.args.others.now in
    let at = c.loop-span.span-index in
    let span = get_or spans at none in
    let gains = subst (λ (o : List Span). Gains c.loop-span.gone (SerialWith a (LostBetween span.lo span.hi o)) c.add_span.new.gone) i.same c.in_ok-add_span.ensures.gains in
    record {
      same = c.add_span.ensures.same ∙ i.same;
      owes = owes_less _ _ _ _ _ _ _ i.owes gains (serial_parts a (LostSerial (drop at spans) others) (LostBetween span.lo span.hi others) (LostSerial (drop (at + 1) spans) others) (lost_at spans others at none c.loop-span-test.true));
    }

pub returns-clause-gains : goal.returns-clause-gains
returns-clause-gains g c =
    owes_none _ _ _ _ (rw (drop_all c.loop-span.span-index c.args.spans.now c.loop-span-test.false) at c.loop-span.invariant.owes) (serial_none c.args.authority.now _ (none_lost c.args.others.now))
