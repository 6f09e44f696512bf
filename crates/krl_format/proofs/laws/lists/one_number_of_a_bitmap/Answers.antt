use Rattle.krl_format.proofs.Bitmaps.{bitmap_number}
use Rattle.krl_format.proofs.laws.lists.one_number_of_a_bitmap.Goals as goal

pub returns : goal.returns
returns c = bitmap_number
