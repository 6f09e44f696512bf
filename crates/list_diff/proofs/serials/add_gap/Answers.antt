-- A gap is one entry.
use Rattle.list_diff.proofs.Common.{IsUpTo, None, on_ok_weaker, RangeEntry, SerialWith, Some}
use Rattle.list_diff.proofs.Gains.{gains_entry, gains_none, range_named, serial_none}
use Rattle.list_diff.proofs.serials.add_gap.Goals as goal

pub add_serials-requires-clause-ordered : goal.add_serials-requires-clause-ordered
add_serials-requires-clause-ordered g c = rw c.in-Some.is at c.requires.ordered

pub returns-in-Some : goal.returns-in-Some
returns-in-Some g c =
    let a = c.args.authority.now in
    let lo = c.args.lo in
    let last = c.in-Some.last in
    rw c.in-Some.is (on_ok_weaker c.add_serials.result (λ means. gains_entry c.args.gone.now c.add_serials.new.self (RangeEntry a lo last) (SerialWith a (IsUpTo lo (Some last))) c.add_serials.ensures.changes.orderly means (range_named a lo last c.requires.from_one)) c.add_serials.ensures.means)

pub returns-in-None : goal.returns-in-None
returns-in-None g c = rw c.in-None.is (gains_none c.args.gone.now (SerialWith c.args.authority.now (IsUpTo c.args.lo None)) (serial_none c.args.authority.now (IsUpTo c.args.lo None) (λ s h. h)))
