use Rattle.krl_core.proofs.Common.{[], ◌∷◌, on_ok_weaker, RangeEntry, same_serial, SerialsEntry}
use Rattle.krl_core.proofs.StoredEntries.{adds_same, adds_zero}
use Rattle.krl_core.proofs.field_store.FieldStore.add_serial.Goals as goal

pub returns-then-serial-eq0-clause-adds : goal.returns-then-serial-eq0-clause-adds
returns-then-serial-eq0-clause-adds g c = adds_zero c.args.self.now c.args.serial c.if-serial-eq0.true

pub returns-clause-adds : goal.returns-clause-adds
returns-clause-adds g c =
    let a = c.args.self.now.authority in
    let n = c.args.serial in
    on_ok_weaker c.add_span.result (adds_same c.args.self.now c.add_span.new.self (RangeEntry a n n ∷ []) (SerialsEntry a (n ∷ []) ∷ []) (same_serial a n)) c.add_span.ensures.adds
