-- The items of lines, with the certificate that is read.
use Rattle.std.proofs.Common.{Some, Result, ap, refl, ◌∙◌}
use Rattle.std.specs.Result.{result_ok}
use Rattle.ssh_cert.specs.Cert.{Cert}
use Rattle.ssh_cert.specs.CertReading.{certificate_at}
use Rattle.ssh_cert.specs.SubjectReading.{certified, of_certificate}
use Rattle.ssh_cert.specs.declared.fault.CertFault.{CertFault}
use Rattle.key_text.specs.LineReading.{content}
use Rattle.run_output.specs.Items.{SpellsKey}
use Rattle.key_listing.specs.Listing.{certificate_answer, certify}
use Rattle.run_output.specs.Run.{said}
use Rattle.key_listing.proofs.ListedCertificates.{certificate_answered}
use Rattle.key_listing.proofs.laws.certificates_by_what_is_spelled.Goals as goal

pub returns-clause-listed : goal.returns-clause-listed
returns-clause-listed c = λ hash moment name number text word blob comment certificate has is_line is.
    let line = content word blob comment in
    let asked = of_certificate certificate in
    let spells : SpellsKey text line asked certificate.key = record { is_line = is_line; is_asked = certified certificate is refl; is_key = is.public.is_key } in
    let read = (c.read_where_spelled.ensures blob certificate is_line.bytes).1 is in
    c.items_by_what_is_spelled.ensures.answered (certify hash moment) name number text line asked certificate.key has spells
    ∙ ap (λ (r : Result Cert CertFault). Some (said name (certificate_answer hash moment name (Some number) (result_ok r)))) read

pub returns-clause-only : goal.returns-clause-only
returns-clause-only c = λ hash moment name number text other reply bytes item.
    let found = c.items_by_what_is_spelled.ensures.only (certify hash moment) name number text other reply bytes item in
    let line = found.0 in
    let is_line = found.3.is_line in
    let answered = certificate_answered hash moment name number reply (certificate_at line.blob) found.4 in
    (line, answered.0, is_line, (c.read_where_spelled.ensures line.blob answered.0 is_line.bytes).0 answered.1, answered.2)
