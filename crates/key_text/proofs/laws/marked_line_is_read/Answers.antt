-- The word before the blanks is the marker.
use Rattle.key_text.proofs.Markers.{marked_again, marked_is}
use Rattle.key_text.proofs.laws.marked_line_is_read.Goals as goal

pub returns-clause-marker : goal.returns-clause-marker
returns-clause-marker c = marked_is

pub returns-clause-read : goal.returns-clause-read
returns-clause-read c = marked_again
