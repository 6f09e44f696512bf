-- Nothing of a line is an escape sequence but its one word in a colour.
use Rattle.audit_text.proofs.Painted.{key_painted, more_painted, same_free, unread_painted}
use Rattle.audit_text.proofs.laws.one_word_is_in_colour.Goals as goal

pub returns-clause-key : goal.returns-clause-key
returns-clause-key c = key_painted c.string_is_read_back.ensures

pub returns-clause-unread : goal.returns-clause-unread
returns-clause-unread c = unread_painted

pub returns-clause-more : goal.returns-clause-more
returns-clause-more c = more_painted

pub returns-clause-same : goal.returns-clause-same
returns-clause-same c = same_free
