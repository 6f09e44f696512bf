-- Each object is nested at most three deep.
use Rattle.audit_text.specs.More.{more_object}
use Rattle.audit_text.specs.Objects.{key_object, unread_object}
use Rattle.audit_text.specs.Same.{same_object}
use Rattle.audit_text.proofs.Shallow.{key_object_fits, more_object_fits, same_object_fits, shallow, unread_object_fits}
use Rattle.audit_text.proofs.laws.objects_are_read_back.Goals as goal

pub returns-clause-key : goal.returns-clause-key
returns-clause-key c = λ place found answer has numbers.
    let fit = key_object_fits place found answer has numbers in c.lines_are_read_back.ensures (key_object place found answer) fit.0 (shallow (key_object place found answer) fit)

pub returns-clause-unread : goal.returns-clause-unread
returns-clause-unread c = λ place why has.
    let fit = unread_object_fits place why has in c.lines_are_read_back.ensures (unread_object place why) fit.0 (shallow (unread_object place why) fit)

pub returns-clause-more : goal.returns-clause-more
returns-clause-more c = λ place kind lines has few.
    let fit = more_object_fits place kind lines has few in c.lines_are_read_back.ensures (more_object place kind lines) fit.0 (shallow (more_object place kind lines) fit)

pub returns-clause-same : goal.returns-clause-same
returns-clause-same c = λ place has.
    let fit = same_object_fits place has in c.lines_are_read_back.ensures (same_object place) fit.0 (shallow (same_object place) fit)
