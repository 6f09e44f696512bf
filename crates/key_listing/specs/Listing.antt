-- Listing the keys or the certificates of a file (ssh-keygen(1), options -l and -L).
use Rattle.std.specs.Prelude.{ℕ, false, List, [], ◌∷◌, ◌++◌, Option, Some, None}
use Rattle.std.specs.Prelude.{codes, decimal}
use Rattle.std.specs.Result.{result_ok}
use Rattle.ssh_cert.specs.CertReading.{certificate_at}
use Rattle.ssh_cert.specs.Cert.{Cert}
use Rattle.cert_listing.specs.Listing.{listing_of}
use Rattle.krl_types.specs.Subject.{CertNames, Subject}
use Rattle.ssh_key.specs.Key.{PublicKey}
use Rattle.ssh_key.specs.Kind.{short_name_of}
use Rattle.key_text.specs.declared.hash.Hash.{Hash}
use Rattle.key_text.specs.Fingerprints.{fingerprint_text}
use Rattle.key_text.specs.LineReading.{KeyLine}
use Rattle.ssh_cert.specs.Escape.{escaped}
use Rattle.run_faults.specs.declared.file_fault.FileFault.TheVariants as files
use Rattle.run_output.specs.declared.answer.Answer.{Answer}
use Rattle.key_listing.specs.declared.listing.ListMode.{ListMode}
use Rattle.key_listing.specs.declared.listing.ListMode.TheVariants.{Keys, Certs}
use Rattle.run_faults.specs.Keys.{Named}
use Rattle.run_output.specs.Run.{Answering, Item, file_items}

abbrev pub comment_or_none : List ℕ → List ℕ
comment_or_none [] = codes "no comment"
comment_or_none (byte ∷ bytes) = escaped (byte ∷ bytes)

-- the kind in parentheses, which ends the line
abbrev pub kind_part : List ℕ → List ℕ
kind_part kind = codes " (" ++ (kind ++ (codes ")" ++ 10 ∷ []))

-- the size in bits, the fingerprint, the comment and the kind
abbrev pub list_line : ℕ → List ℕ → List ℕ → List ℕ → List ℕ
list_line bits print comment kind =
    decimal bits
    ++ (codes " " ++ (print ++ (codes " " ++ (comment_or_none comment ++ kind_part kind))))

-- the suffix of the kind for a certificate
abbrev pub certificate_mark : Option CertNames → List ℕ
certificate_mark None = []
certificate_mark (Some names) = codes "-CERT"

-- the answer for a key, or for a certificate by its plain key
abbrev pub description : Hash → KeyLine → Subject → PublicKey → Answer
description hash line asked key =
    let print = fingerprint_text hash asked.plain in
    let kind = short_name_of key.kind ++ certificate_mark asked.cert in
    record { text = list_line key.bits print line.comment kind; revoked = false }

-- each key is described
abbrev pub describe : Hash → Answering
describe hash = record {
  say = λ name number line asked key. Some (description hash line asked key);
  unanswered = files.NoKeys;
}

-- the name of a file and the number of a line
abbrev pub location_part : List ℕ → ℕ → List ℕ
location_part name number =
    escaped name ++ (codes ":" ++ (decimal number ++ (codes ":" ++ 10 ∷ [])))

-- the file and the line of a certificate, and its listing
abbrev pub certificate_text : Hash → ℕ → List ℕ → ℕ → Cert → List ℕ
certificate_text hash moment name number certificate =
    location_part name number ++ listing_of hash certificate moment

abbrev pub listed_certificate : Hash → ℕ → List ℕ → ℕ → Cert → Answer
listed_certificate hash moment name number certificate =
    record { text = certificate_text hash moment name number certificate; revoked = false }

-- the answer for the certificate of a line; other keys have none, nor has a container
abbrev pub certificate_answer : Hash → ℕ → List ℕ → Option ℕ → Option Cert → Option Answer
certificate_answer hash moment name (Some number) (Some certificate) =
    Some (listed_certificate hash moment name number certificate)
certificate_answer hash moment name number other = None

-- each certificate is listed at a moment
abbrev pub certify : Hash → ℕ → Answering
certify hash moment = record {
  say = λ name number line asked key.
      certificate_answer hash moment name number (result_ok (certificate_at line.blob));
  unanswered = files.NoCertificate;
}

-- how keys, or certificates alone, are listed
abbrev pub listing : ListMode → Hash → ℕ → Answering
listing Keys hash moment = describe hash
listing Certs hash moment = certify hash moment

-- Each key or certificate of the file is listed, up to the first fault.
unfoldable pub list_run_of : ListMode → Hash → ℕ → Named → List Item
list_run_of mode hash moment file = file_items (listing mode hash moment) file
