use Rattle.text_laws.proofs.JoinedTexts.{joined, stops_first}
use Rattle.text_laws.proofs.laws.texts_join.Goals as goal

pub returns-clause-entries : goal.returns-clause-entries
returns-clause-entries c names front back whole none lacks = (joined names front back whole none lacks).entries

pub returns-clause-fault : goal.returns-clause-fault
returns-clause-fault c names front back whole none lacks = (joined names front back whole none lacks).fault

pub returns-clause-stops : goal.returns-clause-stops
returns-clause-stops c names front back fault whole is = stops_first names front back fault whole is
