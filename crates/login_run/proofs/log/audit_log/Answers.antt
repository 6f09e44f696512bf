-- Each batch goes on with the lines; the log ends with its last byte, or is not read on.
use Rattle.std.proofs.Common.{◌<◌, length, take, refl, rules}
use Rattle.std.proofs.lemmas.Result.{err_from_is_err_and}
use Rattle.login_run.proofs.Logs.{batch_broken, batch_stopped, batch_taken, log_ended, log_endless, none_came, reader_failed}
use Rattle.login_run.proofs.log.audit_log.Goals as goal

pub batches-init : goal.batches-init
batches-init g c = record {
  at = none_came c.args.name.now (g.R.Source.left c.args.reader.now) (record { number = 0; front = c.new.result }) c.args.auditor.now c.new.ensures.items refl;
  working = c.requires;
  size = refl;
}

pub returns-in_default : goal.returns-in_default
returns-in_default g c =
    reader_failed c.args.name.now (g.R.Source.left c.args.reader.now) (g.R.Source.left c.batches.reader) (g.R.Source.left c.read.new.self) c.batches._batch c.batches.start
    (g.R.Source.has_failed c.read.new.self) c.args.auditor.now c.batches.auditor c.batches.invariant.at c.in_default.ensures.bytes c.in_default.ensures.failed

pub returns-then-count-eq0 : goal.returns-then-count-eq0
returns-then-count-eq0 g c =
    let came = rw c.if-count-eq0.true at c.in-Ok.ensures.bytes in
    let room : 0 < length c.read.new.into = search rules in
    log_ended c.args.name.now (g.R.Source.left c.args.reader.now) (g.R.Source.left c.batches.reader) (g.R.Source.left c.read.new.self) c.batches._batch c.batches.start
    (g.R.Source.has_failed c.read.new.self) c.end_log.result c.args.auditor.now c.batches.auditor c.end_log.new.auditor c.batches.invariant.at came.0 (came.1 refl room) c.in-Ok.ensures.failed
    c.end_log.ensures

pub returns-in_err-stop : goal.returns-in_err-stop
returns-in_err-stop g c =
    let p = err_from_is_err_and c.from_residual.result c.from_residual.ensures.1 in
    rw (p.1, p.2) (batch_broken c.args.name.now (g.R.Source.left c.args.reader.now) (g.R.Source.left c.batches.reader) (g.R.Source.left c.read.new.self) c.batches._batch
    (take c.in-Ok.count c.read.new.into) c.batches.start c.audit_batch.new.start c.args.auditor.now c.batches.auditor c.audit_batch.new.auditor c.batches.invariant.at c.in-Ok.ensures.bytes.0
    c.in_err-stop.field-0.0 (g.R.Source.has_failed c.read.new.self) c.in_err-stop.ensures)

pub returns-in-Some : goal.returns-in-Some
returns-in-Some g c =
    batch_stopped c.args.name.now (g.R.Source.left c.args.reader.now) (g.R.Source.left c.batches.reader) (g.R.Source.left c.read.new.self) c.batches._batch
    (take c.in-Ok.count c.read.new.into) c.batches.start c.audit_batch.new.start c.args.auditor.now c.batches.auditor c.audit_batch.new.auditor c.batches.invariant.at c.in-Ok.ensures.bytes.0
    c.in-Some.stop (g.R.Source.has_failed c.read.new.self) c.say_stop.result c.say_stop.new.auditor (rw c.in-Some.is at c.in_ok-stop.ensures) c.say_stop.ensures.tells c.say_stop.ensures.read

pub batches-preserved : goal.batches-preserved
batches-preserved g c =
    let some : 0 < length (take c.in-Ok.count c.read.new.into) = search rules in
    record {
      at = batch_taken c.args.name.now (g.R.Source.left c.args.reader.now) (g.R.Source.left c.batches.reader) (g.R.Source.left c.read.new.self) c.batches._batch
          (take c.in-Ok.count c.read.new.into) c.batches.start c.audit_batch.new.start c.args.auditor.now c.batches.auditor c.audit_batch.new.auditor c.batches.invariant.at c.in-Ok.ensures.bytes.0
          some (rw c.in_default-2.is at c.in_ok-stop.ensures);
      working = c.in-Ok.ensures.failed;
      size = search rules;
    }

pub returns : goal.returns
returns g c =
    log_endless c.args.name.now (g.R.Source.left c.args.reader.now) (g.R.Source.left c.batches.reader) c.batches._batch c.batches.start (g.R.Source.has_failed c.batches.reader) c.say_rest.result
    c.args.auditor.now c.batches.auditor c.say_rest.new.auditor c.batches.invariant.at c.batches-test.false c.say_rest.ensures.tells c.say_rest.ensures.read
