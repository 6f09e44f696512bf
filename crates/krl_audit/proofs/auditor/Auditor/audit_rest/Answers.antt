-- One more line is printed, or the audit is stopped at it.
use Rattle.std.proofs.Common.{◌≡◌, ◌+◌, [], rules, ◌∙◌, arith}
use Rattle.std.specs.List.{slice_split}
use Rattle.std.proofs.lemmas.Result.{err_from_is_err_and}
use Rattle.key_text.specs.Lines.{is_newline, lines_left}
use Rattle.krl_audit.proofs.Files.{told_cut, told_next}
use Rattle.krl_audit.proofs.Telling.{told_none}
use Rattle.krl_audit.proofs.auditor.Auditor.audit_rest.Goals as goal

pub returns-in_err-tally-clause-told : goal.returns-in_err-tally-clause-told
returns-in_err-tally-clause-told g c =
    let p = err_from_is_err_and c.from_residual.result c.from_residual.ensures.1 in
    let told = rw c.loop-tally.invariant.judge at c.in_err-tally.ensures.told in
    rw (p.1, p.2) (λ answers judges. c.loop-tally.invariant.told answers judges _ _ _ (told_cut answers _ c.args.before.name.now c.args.fronts c.loop-tally.tally (c.loop-tally.number + 1) c.loop-tally.rest.now c.split_line.result.0.now _ _ _ _ _ _ _ c.split_line.ensures.lines (told answers judges)))

pub returns-in_default-clause-told : goal.returns-in_default-clause-told
returns-in_default-clause-told g c =
    let told = rw c.loop-tally.invariant.judge at c.in_ok-tally.ensures.told in
    let last : lines_left c.split_line.result.1 ≡ [] = search rules in
    let split = rw last at c.split_line.ensures.lines in
    λ answers judges. c.loop-tally.invariant.told answers judges _ _ _ (told_next answers _ c.args.before.name.now c.args.fronts c.loop-tally.tally (c.loop-tally.number + 1) c.loop-tally.rest.now c.split_line.result.0.now [] _ _ _ _ _ _ _ _ split (told answers judges) (told_none answers _ c.args.before.name.now _ _ _))

pub loop-tally-preserved : goal.loop-tally-preserved
loop-tally-preserved g c =
    let told = rw c.loop-tally.invariant.judge at c.in_ok-tally.ensures.told in
    let split = rw c.in-Some.is at c.split_line.ensures.lines in
    let shorter = rw c.in-Some.is at c.split_line.ensures.shorter in
    record {
      told = λ answers judges result new after later.
          c.loop-tally.invariant.told answers judges result new after
          (told_next answers _ c.args.before.name.now c.args.fronts c.loop-tally.tally (c.loop-tally.number + 1) c.loop-tally.rest.now c.split_line.result.0.now (slice_split is_newline c.in-Some.after.now) _ result _ _ new _ _ after split (told answers judges) later);
      judge = c.in_ok-tally.ensures.judge ∙ c.loop-tally.invariant.judge;
      within = let so_far = c.loop-tally.invariant.within in omega arith;
    }
