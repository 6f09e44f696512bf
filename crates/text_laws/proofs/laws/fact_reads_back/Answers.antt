use Rattle.text_laws.proofs.FactLines.{fact_is_line}
use Rattle.text_laws.proofs.laws.fact_reads_back.Goals as goal

pub returns : goal.returns
returns c standing names fact fits = fact_is_line standing names fact fits
