-- The list is read, or its first fault is reported: borrowed bytes do not fail.
use Rattle.std.proofs.Common.{refl}
use Rattle.any_list.proofs.Forms.{named_whole, whole_refused}
use Rattle.krl_format.specs.Entries.{entries_of}
use Rattle.any_list.proofs.list.read_whole.Goals as goal

pub returns-in-Ok-clause-found : goal.returns-in-Ok-clause-found
returns-in-Ok-clause-found c =
    let text = c.args.bytes.now in
    let read = rw c.in-Ok.is at c.read_krl-read.ensures in
    let list = read.found text c.new.ensures.bytes in
    record {
      name_is = refl;
      entries = entries_of list.sections;
      named = named_whole text _ _ list (read.no_fault text c.new.ensures.bytes);
      means = list.holds.means;
    }

pub returns-in-Err-clause-fault : goal.returns-in-Err-clause-fault
returns-in-Err-clause-fault c =
    let text = c.args.bytes.now in
    let read = rw c.in-Err.is at c.read_krl-read.ensures in
    rw (c.whole.ensures, c.cause_of.ensures) (whole_refused c.args.name.now text c.in-Err.fault _ (read.fault text c.new.ensures.bytes))
