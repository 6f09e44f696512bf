use Rattle.text_laws.proofs.HeldTexts.{means_back, read_back, same_back, stops_for_memory}
use Rattle.text_laws.proofs.laws.text_reads_back.Goals as goal

pub returns-clause-read : goal.returns-clause-read
returns-clause-read c names r are stored = read_back names are r stored

pub returns-clause-means : goal.returns-clause-means
returns-clause-means c names r today are stored = means_back names are r today stored

pub returns-clause-same : goal.returns-clause-same
returns-clause-same c names r held are stored into = same_back names are r held stored into

pub returns-clause-stops : goal.returns-clause-stops
returns-clause-stops c names r old new fault are stored stops = stops_for_memory names are r old new fault stored stops
