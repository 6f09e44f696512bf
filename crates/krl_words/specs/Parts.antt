-- Words that the program takes, and the option -s and the files in them.
use Rattle.std.specs.Prelude.{◌≡◌, ℕ, List, [], ◌∷◌, None, codes}
use Rattle.std.specs.List.{AllByRecursion}
use Rattle.std.specs.Str.{IsUtf8}
use Rattle.clap.specs.Faults.{fault_of}
use Rattle.clap.specs.Simple.{matches_of}
use Rattle.clap.specs.Walk.{first_of}
use Rattle.option_table.specs.Value.{values_in}
use Rattle.krl_words.specs.Options.{program}

-- The program takes these words after its name, and none of them is `--`.
pub record AreTaken (name : List ℕ) (words : List (List ℕ)) : Type 0 where
  pub texts : AllByRecursion IsUtf8 words
  pub free : fault_of program (name ∷ words) ≡ []
  pub open_ended : AllByRecursion (λ word. word ≡ codes "--" → ⊥) words

-- such words with a use of -s
pub record NameAuthority (name : List ℕ) (words : List (List ℕ)) : Type 0 where
  pub taken : AreTaken name words
  pub some : first_of (codes "authority") (matches_of program (name ∷ words)) ≡ None → ⊥

-- such words with a file
pub record NameFile (name : List ℕ) (words : List (List ℕ)) : Type 0 where
  pub taken : AreTaken name words
  pub some : values_in (codes "files") (matches_of program (name ∷ words)) ≡ [] → ⊥
