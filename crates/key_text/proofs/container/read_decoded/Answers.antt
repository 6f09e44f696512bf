-- The text is the base64 of these bytes, or is not base64.
use Rattle.std.proofs.Common.{Result, subst, sym}
use Rattle.key_text.specs.ContainerReading.{GivesPrivate, Opened}
use Rattle.key_text.specs.declared.private_fault.PrivateFault.{PrivateFault}
use Rattle.key_text.proofs.ContainerReads.{body_read, body_refused}
use Rattle.key_text.proofs.container.read_decoded.Goals as goal

pub returns-in-Ok : goal.returns-in-Ok
returns-in-Ok c =
    subst (λ (read : Result Opened PrivateFault). GivesPrivate c.read_owned.result read) (sym (body_read c.args.body.now _ c.in-Ok.ensures.ok.0)) c.read_owned.ensures

pub returns-in-Err : goal.returns-in-Err
returns-in-Err c = body_refused c.args.body.now _ c.in-Err.ensures.err
