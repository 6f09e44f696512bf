-- The old list is read, or why not.
use Rattle.std.proofs.Common.{◌∙◌, ap, sym}
use Rattle.text_run.specs.Base.{is_read}
use Rattle.text_run.proofs.Bases.{unread_by, unread_first}
use Rattle.text_run.proofs.base.read_base.Goals as goal

pub returns-in-Ok-Some-clause-unread : goal.returns-in-Ok-Some-clause-unread
returns-in-Ok-Some-clause-unread g c =
    let same = rw c.in-Ok-Some.field-0-is at c.in-Ok-Some.ensures.same in
    unread_by g.R.Source.left c.args.inputs.now.over c.args.inputs.now.version c.args.old c.in-Version-Some.reader _ c.read.result
    (ap is_read c.in-Version-Some.is-0) c.in-Version-Some.is-1 same c.read.ensures.unread

pub returns-in-Err-clause-unread : goal.returns-in-Err-clause-unread
returns-in-Err-clause-unread g c =
    unread_first g.R.Source.left c.args.inputs.now.over c.args.inputs.now.version c.args.old c.in-Version-Some.reader _
    c.in-Version-Some.is-0 c.in-Version-Some.is-1 (sym c.is_some.ensures ∙ c.if-is_some.true) c.cause_of.ensures

pub returns-in-Version-Some-2-clause-unread : goal.returns-in-Version-Some-2-clause-unread
returns-in-Version-Some-2-clause-unread g c =
    unread_by g.R.Source.left c.args.inputs.now.over c.args.inputs.now.version c.args.old c.in-Version-Some.reader _ c.read-in-Version-Some-2.result
    (ap is_read c.in-Version-Some.is-0) c.in-Version-Some.is-1 (λ text has. has) c.read-in-Version-Some-2.ensures.unread

pub returns-in-Contents-Some-clause-unread : goal.returns-in-Contents-Some-clause-unread
returns-in-Contents-Some-clause-unread g c =
    unread_by g.R.Source.left c.args.inputs.now.over c.args.inputs.now.version c.args.old c.in-Contents-Some.reader _ c.read-in-Contents-Some.result
    (ap is_read c.in-Contents-Some.is-0) c.in-Contents-Some.is-1 (λ text has. has) c.read-in-Contents-Some.ensures.unread
