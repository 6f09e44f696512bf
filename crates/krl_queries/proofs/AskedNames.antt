-- Topics that are the names of a subject.
use Rattle.krl_queries.proofs.Common.{Asks, Contains, HasCert, List, None, Option, refl, Revocations, Some, ℕ}
use Rattle.krl_types.specs.Subject.{CertNames}
use Rattle.krl_entries.specs.Reasons.{name_asked}
use Rattle.krl_entries.specs.declared.reasons.Reason.{Reason}
use Rattle.krl_entries.specs.declared.reasons.Reason.TheVariants as reasons
use Rattle.krl_queries.specs.Questions.{EachName, IsAsked}

-- if the plain key and all names of the certificate are topics, the subject is asked about
pub asks_by : (topics : Revocations) (plain : List ℕ) (cert : Option CertNames) → Contains topics.keys plain → HasCert topics cert → Asks topics (record { plain = plain; cert = cert })
asks_by topics plain cert key has = record { names = by cert has }
  where
    by : (cert : Option CertNames) → HasCert topics cert → (reason : Reason) → EachName (IsAsked topics) (name_asked reason (record { plain = plain; cert = cert }))
    by cert has reasons.Key = key
    by cert has reasons.KeySha1 = (plain, (key, refl))
    by cert has reasons.KeySha256 = (plain, (key, refl))
    by None has reason = tt
    by (Some cert) has reasons.Authority = has.0
    by (Some cert) has reasons.AuthoritySha1 = (cert.authority, (has.0, refl))
    by (Some cert) has reasons.AuthoritySha256 = (cert.authority, (has.0, refl))
    by (Some cert) has reasons.Serial = has.1.1.1
    by (Some cert) has reasons.SerialOfAll = has.1.0.1
    by (Some cert) has reasons.KeyId = has.1.1.0
    by (Some cert) has reasons.KeyIdOfAll = has.1.0.0
