-- The number of lines that are not read.
use Rattle.std.proofs.Common.{◌≡◌, ℕ, ◌+◌, List, [], ◌∷◌, Option, Some, sym, ap, ◌∙◌, arith}
use Rattle.std.specs.List.{slice_split}
use Rattle.key_text.specs.Lines.{is_newline}
use Rattle.audit_lines.specs.Keyless.{more_unread, unread_alone, unread_with}
use Rattle.audit_lines.specs.Outcome.{Outcomes, outcomes_of, read_all}
use Rattle.audit_lines.specs.declared.front.Fronts.{Fronts}

pub last_more : (count : ℕ) → more_unread count (Some 0) ≡ Some count
last_more count = let same : count + 0 ≡ count = omega arith in ap Some same

-- the outcomes of a text whose first line is this one
pub lines_of_split : (kind : Fronts) (text line : List ℕ) (after : List (List ℕ)) → slice_split is_newline text ≡ line ∷ after → read_all kind (slice_split is_newline text) ≡ outcomes_of kind line ∷ read_all kind after
lines_of_split kind text line after split = ap (read_all kind) split

-- one more line was counted
pub counted_on : (kind : Fronts) (all : Option ℕ) (count more : ℕ) (text line : List ℕ) (after : List (List ℕ)) → all ≡ more_unread count (unread_alone (read_all kind (slice_split is_newline text)))
    → slice_split is_newline text ≡ line ∷ after → ((lines : List Outcomes) → more_unread count (unread_alone (outcomes_of kind line ∷ lines)) ≡ unread_with (Some more) lines)
    → all ≡ more_unread more (unread_alone (read_all kind after))
counted_on kind all count more text line after so_far split counts =
    so_far ∙ ap (λ (lines : List Outcomes). more_unread count (unread_alone lines)) (lines_of_split kind text line after split) ∙ counts (read_all kind after)

-- the last line was counted
pub counted_all : (kind : Fronts) (all : Option ℕ) (count more : ℕ) (text line : List ℕ) → all ≡ more_unread count (unread_alone (read_all kind (slice_split is_newline text)))
    → slice_split is_newline text ≡ line ∷ [] → ((lines : List Outcomes) → more_unread count (unread_alone (outcomes_of kind line ∷ lines)) ≡ unread_with (Some more) lines)
    → Some more ≡ all
counted_all kind all count more text line so_far split counts = sym (counted_on kind all count more text line [] so_far split counts ∙ last_more more)
