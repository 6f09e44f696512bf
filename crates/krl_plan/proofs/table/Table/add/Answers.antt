use Rattle.krl_plan.proofs.Common.{◌+◌, ◌-◌, ◌^◌, ◌∷◌, ◌≡◌, arith, IsBest, IsKnown, Knows, length}
use Rattle.krl_plan.proofs.Common.{List, Range, refl, rules, Span, subst, ℕ}
use Rattle.krl_plan.specs.declared.table.Table.{Table}
use Rattle.krl_plan.proofs.BestCandidates.{best_of_all, group_of}
use Rattle.krl_plan.proofs.ChosenGroups.{group_few}
use Rattle.krl_plan.proofs.CostTable.{bounded_more, choices_more, costs_more}
use Rattle.krl_plan.proofs.table.Table.add.Goals as goal

-- the known runs begin after the new run's index
known_past : (table : Table) (runs : List Span) (at : ℕ) → (knows : Knows table runs) → at + 1 + length table.choices.items ≡ 2 ^ 64 - 1 → IsKnown table (at + 1) runs knows.1.1.0
known_past table runs at knows e =
    let one = knows.1.1.1.choices.one_each in
    let here = knows.1.0 in
    let index : knows.0 ≡ at + 1 = omega arith in
    subst (λ (n : ℕ). IsKnown table n runs knows.1.1.0) index knows.1.1.1

pub add-requires-clause-lists : goal.add-requires-clause-lists
add-requires-clause-lists c =
    let runs = c.requires.0 in
    let knows = c.requires.1.1 in
    let was = known_past c.args.self.now runs (2 ^ 64 - 2 - c.len.result) knows (let small = c.args.self.now.choices.small in omega arith) in
    (runs, (knows.1.1.0, was.lists))

pub add-requires-2-clause-bitmaps : goal.add-requires-2-clause-bitmaps
add-requires-2-clause-bitmaps c =
    let runs = c.requires.0 in
    let knows = c.requires.1.1 in
    let was = known_past c.args.self.now runs (2 ^ 64 - 2 - c.len.result) knows (let small = c.args.self.now.choices.small in omega arith) in
    (runs, (knows.1.1.0, (c.requires.1.0, was.bitmaps)))

pub best-listed-requires : goal.best-listed-requires
best-listed-requires c =
    let runs = c.requires.0 in
    let knows = c.requires.1.1 in
    let was = known_past c.args.self.now runs (2 ^ 64 - 2 - c.len.result) knows (let small = c.args.self.now.choices.small in omega arith) in
    let rests = knows.1.1.0 in
    record { lists = (c.args.run ∷ runs, (c.args.self.now.least ∷ rests, c.in_ok-add.ensures runs rests was.lists)) }

pub best-best-requires : goal.best-best-requires
best-best-requires c =
    let runs = c.requires.0 in
    let knows = c.requires.1.1 in
    let was = known_past c.args.self.now runs (2 ^ 64 - 2 - c.len.result) knows (let small = c.args.self.now.choices.small in omega arith) in
    let rests = knows.1.1.0 in
    record { bitmaps = (runs, (c.args.self.now.least ∷ rests, (c.requires.1.0, c.in_ok-add-2.ensures runs rests c.requires.1.0 was.bitmaps))) }

pub of-requires : goal.of-requires
of-requires c =
    let runs = c.requires.0 in
    let rises = c.requires.1.0 in
    let knows = c.requires.1.1 in
    let was = known_past c.args.self.now runs (2 ^ 64 - 2 - c.len.result) knows (let small = c.args.self.now.choices.small in omega arith) in
    let rests = knows.1.1.0 in
    let costs = c.args.self.now.least ∷ rests in
    let listed = c.in_ok-add.ensures runs rests was.lists in
    let mapped = c.in_ok-add-2.ensures runs rests rises was.bitmaps in
    let best : IsBest costs (c.args.run ∷ runs) c.best-best.result =
    best_of_all costs (c.args.run ∷ runs) (record { cost = 21 + c.args.self.now.least; group = group_of Range 1 }) c.best-listed.result c.best-best.result (search rules) refl
    (λ is_cell. c.best-listed.ensures (c.args.run ∷ runs) costs listed is_cell)
    (λ is_cell. c.best-best.ensures runs costs rises mapped is_cell) in
    group_few (c.args.run ∷ runs) c.best-best.result.group rises best.is_cell.is_group

pub returns : goal.returns
returns c runs rises knows =
    let rests = knows.1.1.0 in
    let was = known_past c.args.self.now runs (2 ^ 64 - 2 - c.len.result) knows (let small = c.args.self.now.choices.small in omega arith) in
    let costs = c.args.self.now.least ∷ rests in
    let cell = c.best-best.result in
    let choices = c.args.self.now.choices.items in
    let small = c.args.self.now.choices.small in
    let one = was.choices.one_each in
    let listed = c.in_ok-add.ensures runs rests was.lists in
    let mapped = c.in_ok-add-2.ensures runs rests rises was.bitmaps in
    let best : IsBest costs (c.args.run ∷ runs) cell =
    best_of_all costs (c.args.run ∷ runs) (record { cost = 21 + c.args.self.now.least; group = group_of Range 1 }) c.best-listed.result cell (search rules) refl
    (λ is_cell. c.best-listed.ensures (c.args.run ∷ runs) costs listed is_cell)
    (λ is_cell. c.best-best.ensures runs costs rises mapped is_cell) in (
      2 ^ 64 - 2 - c.len.result,
      (
        omega arith,
        (
          costs,
          record {
            lists = listed;
            bitmaps = mapped;
            costs = costs_more c.args.run runs costs cell rises was.costs best;
            bounded = rw (c.in_ok-push.ensures.items, c.of.ensures) (bounded_more choices c.args.run runs c.args.self.now.least rests cell was.bounded best);
            choices = rw (c.in_ok-push.ensures.items, c.of.ensures) (choices_more choices c.args.run runs costs cell rises was.costs best was.choices);
          },
        ),
      ),
    )
