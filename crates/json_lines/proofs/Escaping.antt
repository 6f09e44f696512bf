-- The steps of the loop that escapes these characters.
use Rattle.std.proofs.Common.{◌≡◌, ℕ, ◌+◌, ◌<◌, ◌≤◌, false, List, [], ◌∷◌, ◌++◌, drop, length, slice_index_or, sym, ap, ◌∙◌, append_assoc, append-nil}
use Rattle.std.specs.List.{list_any}
use Rattle.std.proofs.lemmas.Bool.{or_parts}
use Rattle.std.proofs.lemmas.List.{drop_all, drop_more}
use Rattle.json_lines.specs.Controls.{bytes_of, escaped_from, may_be_control, next_of, written}
use Rattle.json_lines.specs.declared.escapes.Held.{Held}
use Rattle.json_lines.specs.declared.escapes.Held.TheVariants as held
use Rattle.json_lines.proofs.Strings.{Safe, safe_kept}

pub one_more : (out new whole text : List ℕ) (p : Held) (i : ℕ) → i < length text → out ++ escaped_from p (drop i text) ≡ whole → new ≡ out ++ written p (slice_index_or text i 0)
    → new ++ escaped_from (next_of p (slice_index_or text i 0)) (drop (i + 1) text) ≡ whole
unfolding escaped_from
one_more out new whole text p i inside before one =
    let byte = slice_index_or text i 0 in
    let rest = escaped_from (next_of p byte) (drop (i + 1) text) in
    ap (λ l. l ++ rest) one ∙ append_assoc out (written p byte) rest ∙ ap (λ l. out ++ escaped_from p l) (sym (drop_more text i 0 inside)) ∙ before

pub all_written : (out new whole text : List ℕ) (p : Held) (i : ℕ) → length text ≤ i → out ++ escaped_from p (drop i text) ≡ whole → new ≡ out ++ bytes_of p → new ≡ whole
unfolding escaped_from
all_written out new whole text p i past before is = is ∙ ap (λ l. out ++ escaped_from p l) (sym (drop_all i text past)) ∙ before

safe : (text : List ℕ) → list_any may_be_control text ≡ false → Safe text
safe [] none = tt
safe (x ∷ xs) none =
    let parts = or_parts (may_be_control x) (list_any may_be_control xs) none in (parts.0, safe xs parts.1)

pub untouched : (text : List ℕ) → list_any may_be_control text ≡ false → text ≡ escaped_from held.Nothing text
unfolding escaped_from
untouched text none = sym (ap (escaped_from held.Nothing) (sym (append-nil text)) ∙ safe_kept text [] (safe text none) ∙ append-nil text)
