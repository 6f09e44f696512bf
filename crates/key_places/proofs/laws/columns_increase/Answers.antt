use Rattle.key_places.proofs.ColumnLaws.{columns_rise}
use Rattle.key_places.proofs.laws.columns_increase.Goals as goal

pub returns : goal.returns
returns c = columns_rise
