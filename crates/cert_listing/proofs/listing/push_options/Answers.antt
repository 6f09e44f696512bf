use Rattle.std.proofs.Common.{arith}
use Rattle.std.proofs.lemmas.Grind.{common_steps}
use Rattle.cert_listing.proofs.listing.push_options.Goals as goal

pub loop-option-preserved : goal.loop-option-preserved
loop-option-preserved c = grind (arith, common_steps) steps 1000000
