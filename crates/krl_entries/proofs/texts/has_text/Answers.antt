use Rattle.krl_entries.specs.Texts.{bytes_of}
use Rattle.krl_entries.proofs.Sets.{read_has}
use Rattle.krl_entries.proofs.texts.has_text.Goals as goal

pub returns : goal.returns
returns c = read_has bytes_of c.args.text.now c.args.set.now.keys c.contains.result c.contains.ensures
