-- The list is read, or refused.
use Rattle.std.proofs.Common.{[], refl}
use Rattle.any_list.proofs.Telling.{tells_as, told_then}
use Rattle.any_list.specs.List.{IsGiven, IsRefused}
use Rattle.check_run.specs.Run.{read, refused}
use Rattle.check_run.proofs.Ending.{ends_beside, ends_version}
use Rattle.check_run.proofs.run.check_run.Goals as goal

pub returns-in-Err : goal.returns-in-Err
returns-in-Err g c =
    tells_as (λ told. IsRefused told c.args.task.now.list.now c.in-Err.fault) _ _ _ (λ told is.
    refused (record {
      stop = c.in-Err.fault;
      is = is;
      done = c.refused.result;
      result_is = refl;
      fault_is = c.refused.ensures.fault;
      status_is = c.refused.ensures.status;
      after_is = refl;
      works = c.requires;
    })) c.in-Err.ensures.fault

pub returns-then-task : goal.returns-then-task
returns-then-task g c =
    let task = c.args.task.now in
    let given = c.in-Ok.given in
    let print = c.print_version.ensures in
    tells_as (λ told. IsGiven told task.list.now given.bytes given.list) _ _ _ (λ told is.
    let prints = rw is.is.name_is at print in
    read given.bytes [] is.told_is given.list.header is.is.entries is.is.named
    (ends_version task.print_version [] task.list.now given.bytes task c.args.loaded (g.W.Sink.taken c.args.out.now) (g.W.Sink.taken c.print_version.new.out)
    (g.W.Sink.has_failed c.print_version.new.out) c.print_version.result given.list.header c.if-task.true refl prints)) c.in-Ok.ensures.found

pub returns : goal.returns
returns g c =
    let task = c.args.task.now in
    let given = c.in-Ok.given in
    let first = c.in-Ok.ensures.found in
    let is = first.are in
    let beside = rw is.is.name_is at c.check_beside.ensures in
    record {
      told = _;
      after_is = told_then _ _ _ first.told beside.told first.after_is beside.after_is;
      are =
          read given.bytes beside.told (rw is.told_is refl) given.list.header is.is.entries is.is.named
          (ends_beside task.print_version beside.told task.list.now given.bytes task c.args.loaded (g.W.Sink.taken c.args.out.now) (g.W.Sink.taken c.check_beside.new.out)
          (g.W.Sink.has_failed c.check_beside.new.out) c.check_beside.result given.list.header c.if-task.false beside.are);
    }
