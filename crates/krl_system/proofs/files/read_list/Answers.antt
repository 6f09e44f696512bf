-- All bytes up to the limit are read.
use Rattle.krl_system.proofs.Taken.{all_taken}
use Rattle.krl_system.proofs.files.read_list.Goals as goal

pub returns : goal.returns
returns g c =
    all_taken g.R.Read.remaining c.args.file c.take.result 67108865 _ c.read_rest.result c.take.ensures.limit c.take.ensures.inner c.new.ensures.bytes c.read_rest.ensures
