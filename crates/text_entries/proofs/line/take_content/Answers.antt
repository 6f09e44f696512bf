-- Content without a word has a key.
use Rattle.text_entries.specs.Says.{content_says}
use Rattle.text_entries.proofs.Said.{key_line_is}
use Rattle.text_entries.proofs.line.take_content.Goals as goal

pub returns-in-None-2 : goal.returns-in-None-2
unfolding content_says
returns-in-None-2 g c =
    let adds = c.end_authority.ensures _ _ _ c.add_bare_key.ensures in
    rw (c.in_default.ensures, c.in-None-2.ensures, key_line_is c.args.parts.content.now c.if-is_empty.ensures) adds
