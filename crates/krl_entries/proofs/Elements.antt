-- Elements of lists that are not empty, and sections with a property.
use Rattle.krl_entries.proofs.Common.{[], ◌<◌, ◌∷◌, arith, Contains}
use Rattle.krl_entries.proofs.Common.{Covers, inl, inr, IsRuns, length, List}
use Rattle.krl_entries.proofs.Common.{Section, SomeSection, Span, ℕ}
use Rattle.krl_types.proofs.Elements.{contains_here}

-- ---- elements of a list that is not empty

pub some_text : (texts : List (List ℕ)) → 0 < length texts → (text : List ℕ) × Contains texts text
some_text [] some = absurd (omega arith)
some_text (text ∷ texts) some = (text, contains_here text texts)

pub some_serial : (spans : List Span) → 0 < length spans → IsRuns spans → (s : ℕ) × Covers spans s
some_serial [] some runs = absurd (omega arith)
some_serial (span ∷ spans) some runs = (span.lo, inl (omega arith, runs.1))

-- ---- sections with a property

pub some_weaker : {P Q : Section → Type 0} → ((section : Section) → P section → Q section)
    → (sections : List Section) → SomeSection P sections → SomeSection Q sections
some_weaker weaker [] h = absurd h
some_weaker weaker (section ∷ sections) (inl here) = inl (weaker section here)
some_weaker weaker (section ∷ sections) (inr later) = inr (some_weaker weaker sections later)
