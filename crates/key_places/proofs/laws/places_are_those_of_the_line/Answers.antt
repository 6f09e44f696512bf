use Rattle.key_places.proofs.PlaceLaws.{place_is, place_read}
use Rattle.key_places.proofs.ReadingLaws.{places_has, places_read}
use Rattle.key_places.proofs.laws.places_are_those_of_the_line.Goals as goal

pub returns-clause-found : goal.returns-clause-found
returns-clause-found c = λ line place has. let read = places_read line place has in place_is line read.at place read.is

pub returns-clause-all : goal.returns-clause-all
returns-clause-all c = λ line place is. places_has line place (place_read line place is)
