-- Lines that are a name, a colon, a blank and a value.
use Rattle.std.proofs.Common.{◌≡◌, ℕ, ◌+◌, ◌==◌, not, List, ◌∷◌, ◌++◌, drop, None, Some, option_map, refl, ap, ◌∙◌}
use Rattle.std.specs.List.{AllPass, position_or_len, prefix_len}
use Rattle.key_text.specs.Blanks.{after_blanks, is_blank}
use Rattle.krl_spec.specs.Blanks.{bare_line}
use Rattle.krl_spec.specs.Directive.{is_colon}
use Rattle.krl_spec.proofs.LongestParts.{cut_again, front_gone}
use Rattle.text_entries.specs.Day.{until_in}
use Rattle.text_entries.specs.Says.{content_says, line_says, word_says}
use Rattle.text_entries.specs.Word.{order, order_in, word_named}
use Rattle.text_entries.specs.declared.standing.Standing.{Standing}
use Rattle.text_entries.specs.declared.word.Word.{Word}
use Rattle.text_entries.proofs.LastDays.{word_undated}
use Rattle.text_laws.proofs.Contents.{IsName, IsRest, IsValue, content_is, line_of, line_undated, no_blank}
use Rattle.text_laws.proofs.DayWords.{not_misplaced}

-- ---- the name and the value

-- text behind blanks
pub behind_blanks : (blanks text : List ℕ) → AllPass is_blank blanks → prefix_len is_blank text ≡ 0 → after_blanks (blanks ++ text) ≡ text
unfolding after_blanks
behind_blanks blanks text each starts = front_gone is_blank blanks text each starts

pub order_is : (name gap value : List ℕ) → AllPass (λ byte. not (byte == 58)) name → AllPass is_blank gap
    → prefix_len is_blank value ≡ 0
    → order_in (name ++ 58 ∷ (gap ++ value)) ≡ option_map (order value) (word_named name)
unfolding order_in
order_is name gap value clean blanks starts =
    let cut = cut_again 58 name (gap ++ value) clean in
    let following : after_blanks (drop (position_or_len is_colon (name ++ 58 ∷ (gap ++ value)) + 1) (name ++ 58 ∷ (gap ++ value))) ≡ value =
    ap after_blanks cut.after ∙ behind_blanks gap value blanks starts in
    rw (cut.within, following, cut.before) refl

-- ---- the line

-- a line with a word
pub word_line_says : (standing : Standing) (name value rest : List ℕ) (word : Word) → IsName name
    → IsValue value → IsRest rest
    → word_named name ≡ Some word
    → line_says standing (line_of name value rest) ≡ word_says standing.current (line_of name value rest) word value
unfolding line_says content_says
word_line_says standing name value rest word is kept left named =
    let content = content_is name value rest is kept left in
    let found : order_in (bare_line (line_of name value rest)) ≡ Some (order value word) =
    ap order_in content.is ∙ order_is name content.gap value is.no_colon content.blanks (no_blank value kept.starts) ∙ ap (option_map (order value)) named in
    let endless : until_in (bare_line (line_of name value rest)) ≡ None = word_undated _ _ found in
    let placed = not_misplaced (line_of name value rest) (bare_line (line_of name value rest)) (line_undated name value rest is kept left) in
    rw (endless, placed, found) refl
