-- The characters that were yielded are all of the text.
use Rattle.std.proofs.Common.{flat_map, sym, ap, ◌∙◌, map-id, ◌++◌}
use Rattle.std.proofs.lemmas.Iterator.{YieldsList-from_chars}
use Rattle.std.proofs.lemmas.Iterator.Consumers.{YieldsList-end}
use Rattle.line_pieces.specs.Visible.{visible_char}
use Rattle.line_pieces.proofs.visible.push_chars.Goals as goal

pub returns : goal.returns
returns c =
    let end = YieldsList-end (YieldsList-from_chars c.args.text.now c.utf8.text cc) c.loop-character.yielded _ c.loop-character.yielded_by _ _ c.in-None.is c.next.ensures.steps in
    c.loop-character.invariant ∙ ap (λ cs. c.args.out.now.items ++ flat_map (visible_char c.args.quoted) cs) (sym (map-id c.loop-character.yielded) ∙ end.0)
