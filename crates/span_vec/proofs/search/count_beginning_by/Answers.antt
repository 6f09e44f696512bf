use Rattle.std.proofs.Common.{◌-◌, ◌<◌, ◌≤◌, All, arith, drop, leb, leb-false, leb-true, rules, take}
use Rattle.std.proofs.lemmas.List.Sorted.{IsPartitionPoint-from_clause, IsPartitionedBy-leb}
use Rattle.serial_set.proofs.RisingLists.{starts_rise}
use Rattle.span_sets.proofs.Parts.{All-back, All-front}
use Rattle.span_vec.proofs.search.count_beginning_by.Goals as goal

point : (c : goal.After-partition_point) → All (λ x. x.lo - 1 ≤ c.args.number) (take c.partition_point.result c.args.spans.now) × All (λ x. c.args.number < x.lo - 1) (drop c.partition_point.result c.args.spans.now)
point c =
    let n = c.args.number in
    let xs = c.args.spans.now in
    let i = c.partition_point.result in
    let at = IsPartitionPoint-from_clause (λ x. leb (x.lo - 1) n) xs i c.partition_point.ensures.partitioned
    (IsPartitionedBy-leb (λ x. x.lo - 1) xs n (starts_rise 0 xs c.requires)) (λ a r f k. search rules) in
    (All-front (λ x. x.lo - 1 ≤ n) xs i (λ k d a b. leb-true _ _ (at.0 k d a b)), All-back (λ x. n < x.lo - 1) xs i (λ k d a b. leb-false _ _ (at.1 k d a b)))

pub returns-clause-by : goal.returns-clause-by
returns-clause-by c = λ k d q. let at = (point c).0 k d q in omega arith

pub returns-clause-rest : goal.returns-clause-rest
returns-clause-rest c = λ k d q. let at = (point c).1 k d q in omega arith
