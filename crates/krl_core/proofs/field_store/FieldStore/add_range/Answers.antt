use Rattle.krl_core.proofs.Common.{[], ◌∷◌, arith, on_ok_weaker, RangeEntry, rules, same_from_one}
use Rattle.krl_core.proofs.StoredEntries.{adds_same, adds_to_zero, grows_one}
use Rattle.krl_core.proofs.field_store.FieldStore.add_range.Goals as goal

pub returns-then-max-eq0-clause-adds : goal.returns-then-max-eq0-clause-adds
returns-then-max-eq0-clause-adds g c = adds_to_zero c.args.self.now c.args.min c.args.max c.if-max-eq0.true

pub returns-clause-adds : goal.returns-clause-adds
returns-clause-adds g c =
    let a = c.args.self.now.authority in
    on_ok_weaker c.add_span.result (adds_same c.args.self.now c.add_span.new.self (RangeEntry a c.max.result c.args.max ∷ []) (RangeEntry a c.args.min c.args.max ∷ [])
    (same_from_one a c.args.min c.max.result c.args.max (λ s pos. (λ h. omega (arith, c.max.ensures), λ h. omega (arith, c.max.ensures))))) c.add_span.ensures.adds

pub returns-clause-grows : goal.returns-clause-grows
returns-clause-grows g c = grows_one c.args.self.now c.add_span.new.self 1 c.add_span.ensures.held (omega arith) c.add_span.ensures.stored

pub add_span-requires-clause-ordered : goal.add_span-requires-clause-ordered
add_span-requires-clause-ordered g c = search rules steps 300000
