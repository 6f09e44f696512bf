-- Each line feed ends a line; what is behind the last one begins a line.
use Rattle.std.proofs.Common.{◌≡◌, [], rules}
use Rattle.std.specs.List.{slice_split}
use Rattle.std.proofs.lemmas.Result.{err_from_is_err_and}
use Rattle.key_text.specs.Lines.{is_newline, lines_left}
use Rattle.login_run.specs.Log.{parts_of}
use Rattle.login_run.proofs.Batches.{takes_begin, takes_err, takes_line, takes_stop}
use Rattle.login_run.proofs.batch.audit_batch.Goals as goal

pub parts-init : goal.parts-init
parts-init g c = record { takes = λ next result new takes. takes }

pub returns-in_default : goal.returns-in_default
returns-in_default g c =
    let last : lines_left c.split_at_feed.result.1 ≡ [] = search rules in
    let split = rw last at c.split_at_feed.ensures.lines in
    c.parts.invariant.takes _ _ _ (takes_begin c.args.name.now c.split_at_feed.result.0.now (parts_of c.parts.rest.now) _ _ c.begin_line.result _ split c.begin_line.ensures)

pub returns-in_err-stop : goal.returns-in_err-stop
returns-in_err-stop g c =
    let p = err_from_is_err_and c.from_residual.result c.from_residual.ensures.1 in
    let split = rw c.in-Some.is at c.split_at_feed.ensures.lines in
    rw (p.1, p.2) (c.parts.invariant.takes _ _ _ (takes_err c.args.name.now c.split_at_feed.result.0.now (parts_of c.parts.rest.now) (slice_split is_newline c.in-Some.after.now) _ _ _ _ _ split c.in_err-stop.ensures))

pub returns-in-Some-2 : goal.returns-in-Some-2
returns-in-Some-2 g c =
    let split = rw c.in-Some.is at c.split_at_feed.ensures.lines in
    c.parts.invariant.takes _ _ _ (takes_stop c.args.name.now c.split_at_feed.result.0.now (parts_of c.parts.rest.now) (slice_split is_newline c.in-Some.after.now) _ _ _ _ _ split (rw c.in-Some-2.is at c.in_ok-stop.ensures))

pub parts-preserved : goal.parts-preserved
parts-preserved g c =
    let split = rw c.in-Some.is at c.split_at_feed.ensures.lines in
    record {
      takes = λ next result new later.
          c.parts.invariant.takes next result new
          (takes_line c.args.name.now c.split_at_feed.result.0.now (parts_of c.parts.rest.now) (slice_split is_newline c.in-Some.after.now) _ _ next result _ _ new split (rw c.in_default-2.is at c.in_ok-stop.ensures) later);
    }
