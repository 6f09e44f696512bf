-- The other lists are read, if there are any, or one is refused; and the clock is read.
use Rattle.std.proofs.Common.{◌++◌, refl}
use Rattle.any_list.proofs.Telling.{tells_as, told_then}
use Rattle.check_run.specs.Lists.{IsOtherRefused}
use Rattle.check_run.specs.Run.{beside, clockless, lost_unknown, other_refused}
use Rattle.check_run.proofs.run.check_beside.Goals as goal

pub returns-in-Err : goal.returns-in-Err
returns-in-Err g c =
    tells_as (λ told. IsOtherRefused told c.args.job.task.now.newer_than c.in-Err.fault) _ _ _ (λ told is.
    other_refused (record {
      stop = c.in-Err.fault;
      is = is;
      done = c.refused.result;
      result_is = refl;
      fault_is = c.refused.ensures.fault;
      status_is = c.refused.ensures.status;
      after_is = refl;
      works = c.requires.working;
    })) c.in-Err.ensures.fault

pub returns-in-Err-read_lost : goal.returns-in-Err-read_lost
returns-in-Err-read_lost g c =
    let first = c.in-Ok.ensures.found in
    let last = c.in-Err-read_lost.ensures.fault in
    record {
      told = first.told ++ last.told;
      after_is = told_then _ _ _ first.told last.told first.after_is last.after_is;
      are = lost_unknown c.in-Ok.other first.told last.told refl first.are (record {
        stop = c.in-Err-read_lost.fault;
        is = last.are;
        done = c.refused-in-Err-read_lost.result;
        result_is = refl;
        fault_is = c.refused-in-Err-read_lost.ensures.fault;
        status_is = c.refused-in-Err-read_lost.ensures.status;
        after_is = refl;
        works = c.requires.working;
      });
    }

pub returns-in-Ok-age_limit : goal.returns-in-Ok-age_limit
returns-in-Ok-age_limit g c =
    let read = c.requires.read in
    let others = c.in-Ok.ensures.found in
    let losts = c.in-Ok-read_lost.ensures.found in
    let moments = c.in-Ok-age_limit.ensures.limit in
    let files = c.check_by.ensures in
    let lists = others.told ++ losts.told in
    let first = lists ++ moments.told in
    let lists_told = told_then _ _ _ others.told losts.told others.after_is losts.after_is in
    let first_told = told_then _ _ _ lists moments.told lists_told moments.after_is in
    record {
      told = first ++ files.told;
      after_is = told_then _ _ _ first files.told first_told files.after_is;
      are =
          beside _ first files.told refl (record {
            lists = lists;
            moments = moments.told;
            told_is = refl;
            others = record {
              others = others.told;
              losts = losts.told;
              told_is = refl;
              is_other = others.are;
              header = c.args.job.given.now.list.header;
              entries = read.entries;
              names = read.named;
              is_lost = losts.are read.entries read.means;
            };
            age = moments.are;
            sshd_is = refl;
          }) _ refl files.are;
    }

pub returns : goal.returns
returns g c =
    let read = c.requires.read in
    let others = c.in-Ok.ensures.found in
    let losts = c.in-Ok-read_lost.ensures.found in
    let moments = c.in-Err-age_limit.ensures.clock in
    let lists = others.told ++ losts.told in
    let lists_told = told_then _ _ _ others.told losts.told others.after_is losts.after_is in
    record {
      told = lists ++ moments.told;
      after_is = told_then _ _ _ lists moments.told lists_told moments.after_is;
      are =
          clockless c.in-Ok.other c.in-Ok-read_lost.lost lists moments.told refl (record {
            others = others.told;
            losts = losts.told;
            told_is = refl;
            is_other = others.are;
            header = c.args.job.given.now.list.header;
            entries = read.entries;
            names = read.named;
            is_lost = losts.are read.entries read.means;
          }) _ moments.are refl refl c.requires.working;
    }
