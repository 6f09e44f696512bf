use Rattle.key_text.proofs.PrivateLaws.{private_again, private_found}
use Rattle.key_text.proofs.laws.private_read_where_spelled.Goals as goal

pub returns : goal.returns
returns c = λ text blob comment fits. (private_found text (record { blob = blob; comment = comment }) fits, private_again text blob comment)
