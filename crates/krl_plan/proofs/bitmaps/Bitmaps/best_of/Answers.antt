use Rattle.std.proofs.Common.{◌+◌, ◌^◌, ◌<◌, ◌≤◌, ◌-◌, arith, get_or, refl}
use Rattle.krl_plan.proofs.BitmapCandidates.{before_of, bitmap_best, bitmap_is}
use Rattle.krl_plan.proofs.bitmaps.Bitmaps.best_of.Goals.{After-bytes_before, In-Some}
use Rattle.krl_plan.proofs.bitmaps.Bitmaps.best_of.Goals as goal

ends : (c : In-Some) → (c.args.at < c.in-Some.candidate.end) × (c.in-Some.candidate.end ≤ c.args.at + 1024)
ends c =
    let known = c.requires.bitmaps in
    let r = c.args.remainder in
    let queue = get_or c.args.self.now.queues r c.index-self-remainder.result in
    let before = before_of c.args.run.lo r in
    let is = bitmap_is queue.candidates.items c.args.at r before.0 c.args.run known.0 known.1.0 c.in-Some.candidate known.1.1.0
    (known.1.1.1 r c.index-self-remainder.result c.requires.remainder) c.in-Some.ensures.least.one before.1.0 before.1.1 in
    is.1

pub overflow_sub-group : goal.overflow_sub-group
overflow_sub-group c = let is = ends (goal.at.overflow_sub-group c).In-Some in omega arith

pub overflow_cast-group : goal.overflow_cast-group
overflow_cast-group c = let is = ends (goal.at.overflow_cast-group c).In-Some in omega arith

values : (c : After-bytes_before) → (c.bytes_before.result ≤ c.in-Some.candidate.value) × (c.in-Some.candidate.value < 2 ^ 101)
values c =
    let known = c.requires.bitmaps in
    let r = c.args.remainder in
    let queue = get_or c.args.self.now.queues r c.index-self-remainder.result in
    let is = bitmap_is queue.candidates.items c.args.at r c.bytes_before.result c.args.run known.0 known.1.0 c.in-Some.candidate known.1.1.0
    (known.1.1.1 r c.index-self-remainder.result c.requires.remainder) c.in-Some.ensures.least.one c.bytes_before.ensures.less c.bytes_before.ensures.more in
    (is.0, is.2)

pub overflow_sub-cost : goal.overflow_sub-cost
overflow_sub-cost c = (values (goal.at.overflow_sub-cost c).After-bytes_before).0

pub overflow_add-cost : goal.overflow_add-cost
overflow_add-cost c = let is = values (goal.at.overflow_add-cost c).After-bytes_before in omega arith

pub returns : goal.returns
returns c runs rests rises mapped is_cell =
    let r = c.args.remainder in
    let queue = get_or c.args.self.now.queues r c.index-self-remainder.result in
    bitmap_best queue.candidates.items c.args.at r c.bytes_before.result c.args.run runs rests c.in-Some.candidate c.args.best
    (record { cost = 18 + (c.in-Some.candidate.value - c.bytes_before.result); group = _ }) c.winner.result rises
    (mapped r c.index-self-remainder.result c.requires.remainder) c.in-Some.ensures.least c.bytes_before.ensures.less c.bytes_before.ensures.more
    is_cell refl refl c.winner.ensures.one c.winner.ensures.first c.winner.ensures.second
