use Rattle.std.proofs.Common.{◌≡◌, true, get_or, sym, ap, ◌∙◌, arith}
use Rattle.std.proofs.lemmas.List.{get_or-take, length-take}
use Rattle.key_text.specs.Blanks.{is_blank}
use Rattle.key_places.proofs.NameLaws.{name_found, name_refused, no_name_before_blank}
use Rattle.key_places.proofs.name.split_name.Goals as goal

pub returns-then-is_type_name : goal.returns-then-is_type_name
returns-then-is_type_name c =
    let size = length-take c.min.result c.args.text.now in
    let blank : is_blank (get_or c.args.text.now c.loop-i.i 0) ≡ true =
    ap is_blank (sym (get_or-take c.min.result c.args.text.now c.loop-i.i 0 (omega arith)))
    ∙ (sym c.is_blank.ensures ∙ c.if-is_blank.true) in
    name_found c.args.text.now c.split_at.result.0.now c.split_at.result.1.now c.loop-i.i
    (omega arith) c.loop-i.invariant blank
    c.split_at.ensures.front c.split_at.ensures.back (sym c.is_type_name.ensures ∙ c.if-is_type_name.true)

pub returns-else-is_type_name : goal.returns-else-is_type_name
returns-else-is_type_name c =
    let size = length-take c.min.result c.args.text.now in
    let blank : is_blank (get_or c.args.text.now c.loop-i.i 0) ≡ true =
    ap is_blank (sym (get_or-take c.min.result c.args.text.now c.loop-i.i 0 (omega arith)))
    ∙ (sym c.is_blank.ensures ∙ c.if-is_blank.true) in
    name_refused c.args.text.now c.split_at.result.0.now c.loop-i.i (omega arith) c.loop-i.invariant blank
    c.split_at.ensures.front (sym c.is_type_name.ensures ∙ c.if-is_type_name.false)

pub returns : goal.returns
returns c =
    let size = length-take c.min.result c.args.text.now in
    sym (no_name_before_blank c.args.text.now c.loop-i.i (omega arith) c.loop-i.invariant)
