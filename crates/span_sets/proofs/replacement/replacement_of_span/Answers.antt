use Rattle.span_sets.proofs.Common.{◌+◌, ◌<◌, ◌≡◌, ◌≤◌, arith, Chunk, few_of, hi_of, hi_or, is_span}
use Rattle.span_sets.proofs.Common.{IsTight, lo_of, lo_or, true}
use Rattle.span_sets.proofs.ReplacementMembers.{upper_lies, either_of, lower_lies, some_rest}
use Rattle.span_sets.proofs.ReplacementMembers.{some_weaker, three_all, three_has, three_lie}
use Rattle.span_sets.proofs.replacement.replacement_of_span.Goals as goal

pub returns-clause-lies : goal.returns-clause-lies
returns-clause-lies c =
    let lower = c.args.lower in
    let upper = c.args.upper in
    let span = c.span_between-span.result in
    let few = few_of c.few_chunks.result in
    let low = lower_lies lower.block lower.at c.requires.lower in
    let high = upper_lies upper.block upper.at c.requires.upper in
    let some = some_rest few lower.block span upper.block lower.at upper.at c.few_chunks.ensures c.requires.between c.span_between-span.ensures.some in
    let is_span = some_weaker span _ (λ e. (lower.at ≤ lo_of e) × (hi_of e < upper.at + 1)) (λ e h. (let a = h.0 in omega arith, let b = h.1 in omega arith)) c.span_between-span.ensures.ends in
    rw (c.lo_or.ensures, c.hi_or.ensures)
    (three_lie few lower.block span upper.block (lo_or lower.block lower.at) lower.at (upper.at + 1) (hi_or upper.block upper.at) c.few_chunks.ensures low.0 is_span high.0 low.1 c.requires.order (let end = high.1 in omega arith) c.requires.between some)

pub returns-clause-members : goal.returns-clause-members
returns-clause-members c = λ s.
    either_of (three_has (few_of c.few_chunks.result) c.args.lower.block c.span_between-span.result c.args.upper.block s c.few_chunks.ensures)
    (λ n. n, λ n. n) (c.span_between-span.ensures.members s) (λ n. n, λ n. n)

pub returns-clause-tight : goal.returns-clause-tight
returns-clause-tight c =
    three_all IsTight (few_of c.few_chunks.result) c.args.lower.block c.span_between-span.result c.args.upper.block c.few_chunks.ensures
    (some_weaker c.args.lower.block _ IsTight (λ e h. h.2) c.requires.lower)
    (some_weaker c.span_between-span.result _ IsTight (λ e h. h.2) c.span_between-span.ensures.ends)
    (some_weaker c.args.upper.block _ IsTight (λ e h. h.2) c.requires.upper)

pub returns-clause-spans : goal.returns-clause-spans
returns-clause-spans c =
    let lower = c.args.lower in
    let upper = c.args.upper in
    let P : Chunk → Type 0 = λ e. is_span e ≡ true → (lo_of e ≡ lower.at) × (hi_of e ≡ upper.at) in
    three_all P (few_of c.few_chunks.result) lower.block c.span_between-span.result upper.block c.few_chunks.ensures
    (some_weaker lower.block _ P (λ e h span. absurd (let no = h.1 in cc)) c.requires.lower)
    (some_weaker c.span_between-span.result _ P (λ e h span. (h.0, h.1)) c.span_between-span.ensures.ends)
    (some_weaker upper.block _ P (λ e h span. absurd (let no = h.1 in cc)) c.requires.upper)
