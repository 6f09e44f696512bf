-- The outcome is that of the blob.
use Rattle.krl_audit.specs.Scan.{blob_outcome}
use Rattle.krl_audit.proofs.auditor.Auditor.say_place.Goals as goal

pub returns-clause-told : goal.returns-clause-told
returns-clause-told g c = λ answers judges. c.say.ensures.told (blob_outcome c.args.place.blob) c.blob_outcome-outcome.ensures answers judges
