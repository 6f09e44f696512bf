use Rattle.std.proofs.Common.{rules}
use Rattle.key_text.proofs.line.words.is_blank.Goals as goal

pub returns-else-byte-eq32 : goal.returns-else-byte-eq32
returns-else-byte-eq32 c = search rules steps 300000
