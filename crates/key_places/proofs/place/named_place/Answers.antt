use Rattle.std.proofs.Common.{◌≡◌, ℕ, List, IfOk, option_map, sym, ap, subst, ◌∙◌}
use Rattle.key_places.specs.Reading.{content_of, place_of}
use Rattle.key_places.specs.Word.{begins_escaped}
use Rattle.key_places.proofs.WordLaws.{plain_word}
use Rattle.key_places.proofs.place.named_place.Goals as goal

pub returns-then-not-begins_escaped : goal.returns-then-not-begins_escaped
returns-then-not-begins_escaped c =
    let none =
    ap begins_escaped (sym c.split_symbols.ensures.rest)
    ∙ (sym c.begins_escaped.ensures ∙ c.if-not-begins_escaped.true) in
    let word = c.split_symbols.ensures.front ∙ sym (plain_word c.args.text.now none) in
    subst (λ (xs : List ℕ). IfOk c.place_of.result
    (λ read. option_map content_of read ≡ place_of c.args.column c.args.name.now xs)) word c.place_of.ensures
