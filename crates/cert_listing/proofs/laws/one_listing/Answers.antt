use Rattle.cert_listing.proofs.Listings.{listing_of_iff}
use Rattle.cert_listing.proofs.laws.one_listing.Goals as goal

pub returns : goal.returns
returns c = λ hash certificate moment text. listing_of_iff hash certificate moment text
