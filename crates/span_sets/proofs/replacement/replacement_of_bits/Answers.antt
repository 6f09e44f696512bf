use Rattle.span_sets.proofs.Common.{◌*◌, ◌+◌, ◌<◌, ◌≡◌, ◌⊎◌, Chunk, few_of, hi_of, hi_or, inl, inr}
use Rattle.span_sets.proofs.Common.{is_span, IsTight, lo_of, lo_or, Some, true}
use Rattle.span_sets.proofs.ReplacementMembers.{either_of, in_singles, some_weaker, three_all}
use Rattle.span_sets.proofs.ReplacementMembers.{three_has, block_tight}
use Rattle.span_sets.proofs.replacement.replacement_of_bits.Goals as goal

pub returns-clause-members : goal.returns-clause-members
returns-clause-members c = λ s.
    either_of (three_has (few_of c.few_chunks.result) c.before-2.result (Some c.block-block.result) c.after.result s c.few_chunks.ensures)
    (c.before-2.ensures.members s) (in_singles c.block-block.result (64 * c.args.window) c.args.bits s c.block-block.ensures.members) (c.after.ensures.members s)

pub returns-clause-tight : goal.returns-clause-tight
returns-clause-tight c =
    let block = c.block-block.ensures in
    three_all IsTight (few_of c.few_chunks.result) c.before-2.result (Some c.block-block.result) c.after.result c.few_chunks.ensures c.before-2.ensures.tight
    (block_tight c.block-block.result (64 * c.args.window) c.args.bits block.members block.lo block.hi c.requires.some c.requires.gap) c.after.ensures.tight

pub returns-clause-spans : goal.returns-clause-spans
returns-clause-spans c =
    let first = 64 * c.args.window in
    let P : Chunk → Type 0 = λ e. is_span e ≡ true
    → ((lo_of e ≡ lo_or c.args.head first) × (hi_of e < first)) ⊎ ((first + 63 < lo_of e) × (hi_of e ≡ hi_or c.args.tail (first + 63))) in
    three_all P (few_of c.few_chunks.result) c.before-2.result (Some c.block-block.result) c.after.result c.few_chunks.ensures
    (some_weaker c.before-2.result _ P (λ e h span. inl h) c.before-2.ensures.ends)
    (λ span. absurd (let no = c.block-block.ensures.block in cc))
    (some_weaker c.after.result _ P (λ e h span. inr h) c.after.ensures.ends)
