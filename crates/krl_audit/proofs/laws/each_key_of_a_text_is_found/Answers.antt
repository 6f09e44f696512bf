-- Each place of each line is found, and nothing else.
use Rattle.krl_audit.proofs.ScannedKeys.{each_found, none_else}
use Rattle.krl_audit.proofs.laws.each_key_of_a_text_is_found.Goals as goal

pub returns-clause-found : goal.returns-clause-found
returns-clause-found c = each_found c.places_are_those_of_the_line.ensures.all

pub returns-clause-only : goal.returns-clause-only
returns-clause-only c = none_else c.places_are_those_of_the_line.ensures.found
