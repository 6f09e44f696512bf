use Rattle.krl_fingerprints.proofs.keys_by.list_by.Goals as goal

pub returns-in-Fingerprint : goal.returns-in-Fingerprint
returns-in-Fingerprint c = rw c.in-Fingerprint.is c.fingerprint_list.ensures
