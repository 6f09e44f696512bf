use Rattle.std.proofs.Common.{◌+◌, ◌^◌, ◌<◌, ◌≤◌, ◌-◌, refl, arith}
use Rattle.krl_plan.proofs.ListCandidates.{list_best, list_is}
use Rattle.krl_plan.proofs.lists.Lists.best.Goals.{In-Some}
use Rattle.krl_plan.proofs.lists.Lists.best.Goals as goal

known : (c : In-Some) → (c.args.self.now.base ≤ c.in-Some.candidate.value) × ((c.args.at < c.in-Some.candidate.end) × (c.in-Some.candidate.end ≤ c.args.at + 1024)) × (c.in-Some.candidate.value < 2 ^ 101)
known c =
    let listed = c.requires.lists in
    list_is c.args.self.now.queue.candidates.items c.args.self.now.base c.args.at listed.0 listed.1.0 c.in-Some.candidate listed.1.1.filled c.in-Some.ensures.least.one

pub overflow_sub-group : goal.overflow_sub-group
overflow_sub-group c = let is = known (goal.at.overflow_sub-group c).In-Some in omega arith

pub overflow_cast-group : goal.overflow_cast-group
overflow_cast-group c = let is = known (goal.at.overflow_cast-group c).In-Some in omega arith

pub overflow_sub-cost : goal.overflow_sub-cost
overflow_sub-cost c = let is = known (goal.at.overflow_sub-cost c).In-Some in omega arith

pub returns : goal.returns
returns c runs rests listed is_cell =
    list_best c.args.self.now.queue.candidates.items c.args.self.now.base c.args.at runs rests c.in-Some.candidate c.args.best
    (record { cost = 5 + (c.in-Some.candidate.value - c.args.self.now.base); group = _ }) c.winner.result
    listed.filled c.in-Some.ensures.least is_cell refl refl c.winner.ensures.one c.winner.ensures.first c.winner.ensures.second
