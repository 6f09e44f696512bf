use Rattle.krl_fingerprints.proofs.printed.add_fact.Goals as goal

pub returns-in-Serials : goal.returns-in-Serials
returns-in-Serials c = rw c.in-Serials.is (rw c.fingerprint_of_authority.ensures at c.add_serials.ensures.means)

pub returns-in-Item : goal.returns-in-Item
returns-in-Item c = rw c.in-Item.is c.add_item.ensures
