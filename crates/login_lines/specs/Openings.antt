-- How the message of a login begins.
use Rattle.std.specs.Prelude.{◌≡◌, ℕ, List, ◌++◌, codes, Option}
use Rattle.std.specs.Prelude.{option_map}
use Rattle.std.specs.Option.{option_or}
use Rattle.std.specs.Borrow.{Bor}
use Rattle.login_lines.specs.declared.opening.Opening.{Opening}
use Rattle.login_lines.specs.declared.opening.Opening.TheVariants.{Publickey, Hostbased}
use Rattle.login_lines.specs.declared.opening.Step.{Step}
use Rattle.login_lines.specs.declared.opening.Step.TheVariants.{Accepted, Partial}
use Rattle.login_lines.specs.Words.{after}

-- the first words of the message of a login by the key of a user
abbrev pub step_words : Step → List ℕ
step_words Accepted = codes "Accepted publickey for "
step_words Partial = codes "Partial publickey for "

-- the first words of the message of any login by a key
abbrev pub opening_words : Opening → List ℕ
opening_words (Publickey step) = step_words step
opening_words Hostbased = codes "Accepted hostbased for "

abbrev pub BeginsWith : List ℕ → List ℕ → Type 0
BeginsWith text front = (rest : List ℕ) × (text ≡ front ++ rest)

abbrev pub opened : Opening × Bor (List ℕ) → Opening × List ℕ
opened p = (p.0, p.1.now)

abbrev pub opened_by : List ℕ → Opening → Option (Opening × List ℕ)
opened_by message opening =
    option_map (λ text. (opening, text)) (after (opening_words opening) message)

-- what a message reports, and the text after its first words
unfoldable pub opening_at : List ℕ → Option (Opening × List ℕ)
opening_at message =
    option_or (opened_by message (Publickey Accepted))
    (option_or (opened_by message (Publickey Partial)) (opened_by message Hostbased))
