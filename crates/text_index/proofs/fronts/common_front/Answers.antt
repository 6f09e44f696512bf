-- Bits are cut off until both numbers are the same.
use Rattle.text_index.proofs.CommonFronts.{none_cut, one_more_cut}
use Rattle.text_index.proofs.fronts.common_front.Goals as goal

pub cutting-init : goal.cutting-init
cutting-init c = none_cut c.args.first c.args.last c.ranges.first.fits c.ranges.last.fits

pub cutting-preserved : goal.cutting-preserved
cutting-preserved c = one_more_cut c.args.first c.args.last c.cutting.lo c.cutting.hi c.cutting.invariant c.cutting-test.true
