-- Each line is read as it is spelled.
use Rattle.plain_list.proofs.Revoked.{listed_is_revoked, revoked_is_listed}
use Rattle.plain_list.proofs.laws.revokes_the_keys_on_its_lines.Goals as goal

pub returns : goal.returns
returns c = λ lines subject fits.
    let law = c.line_read_as_spelled.ensures.read in
    (revoked_is_listed law lines fits subject, listed_is_revoked law lines fits subject)
