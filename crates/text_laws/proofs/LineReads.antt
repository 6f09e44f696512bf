-- Texts of one line that says something.
use Rattle.std.proofs.Common.{◌≡◌, ℕ, ◌<◌, ◌==◌, true, not, List, [], ◌∷◌, ◌++◌, length, All, Ok, refl, sym, ap, ◌∙◌, append-nil, append_assoc}
use Rattle.std.specs.List.{list_all}
use Rattle.std.proofs.lemmas.List.Elements.{All-append, All-cons, All-weaker}
use Rattle.std.proofs.lemmas.List.Sums.{AllPass-from_list_all}
use Rattle.text_entries.specs.Says.{Saying, line_says}
use Rattle.text_entries.specs.declared.standing.Standing.{Standing}
use Rattle.text_laws.proofs.Contents.{IsName, IsRest, IsValue, line_of, solid_value}
use Rattle.text_laws.proofs.SolidBytes.{HasNoFeed, IsKept, is_solid, kept_no_feed}

-- A text is a line and its line feed, and the line says this.
pub record Reads (standing : Standing) (text : List ℕ) (saying : Saying) : Type 0 where
  pub line : List ℕ
  pub ended : text ≡ line ++ 10 ∷ []
  pub no_feed : All HasNoFeed line
  pub says : line_says standing line ≡ Ok saying

pub literal_name : (name : List ℕ) → 0 < length name → list_all is_solid name ≡ true
    → list_all (λ byte. not (byte == 58)) name ≡ true → IsName name
literal_name name some solid clean =
    let value = solid_value name (AllPass-from_list_all is_solid name solid) in
    record { some = some; kept = value.kept; starts = value.starts; no_colon = AllPass-from_list_all (λ byte. not (byte == 58)) name clean }

line_no_feed : (name value rest : List ℕ) → IsName name → IsValue value → IsRest rest
    → All HasNoFeed (line_of name value rest)
line_no_feed name value rest is kept left =
    All-append HasNoFeed name (58 ∷ 32 ∷ (value ++ rest)) (All-weaker IsKept HasNoFeed kept_no_feed name is.kept)
    (All-cons HasNoFeed 58 (32 ∷ (value ++ rest)) refl (All-cons HasNoFeed 32 (value ++ rest) refl
    (All-append HasNoFeed value rest (All-weaker IsKept HasNoFeed kept_no_feed value kept.kept) left.no_feed)))

-- a line of a name and a value that says something
pub line_reads : (standing : Standing) (name value rest text : List ℕ) (saying : Saying) → IsName name
    → IsValue value → IsRest rest
    → text ≡ line_of name value rest ++ 10 ∷ [] → line_says standing (line_of name value rest) ≡ Ok saying
    → Reads standing text saying
line_reads standing name value rest text saying is kept left ended says =
    record { line = line_of name value rest; ended = ended; no_feed = line_no_feed name value rest is kept left; says = says }

-- the text of a line without a comment
pub plain_text : (name value : List ℕ) → name ++ 58 ∷ 32 ∷ (value ++ 10 ∷ []) ≡ line_of name value [] ++ 10 ∷ []
plain_text name value =
    sym (append_assoc name (58 ∷ 32 ∷ (value ++ [])) (10 ∷ []) ∙ ap (λ (xs : List ℕ). name ++ 58 ∷ 32 ∷ (xs ++ 10 ∷ [])) (append-nil value))

-- the text of a line with two words and a comment
pub comment_text : (name front back comment : List ℕ)
    → name ++ 58 ∷ 32 ∷ (front ++ 32 ∷ (back ++ 32 ∷ 35 ∷ 32 ∷ (comment ++ 10 ∷ []))) ≡ line_of name (front ++ 32 ∷ back) (32 ∷ 35 ∷ 32 ∷ comment) ++ 10 ∷ []
comment_text name front back comment = simp append_assoc
