use Rattle.cert_listing.proofs.Instants.{instant_text_iff}
use Rattle.cert_listing.proofs.laws.text_of_instant.Goals as goal

pub returns : goal.returns
returns c = λ seconds text. instant_text_iff seconds text
