-- Numbers of things, in words.
use Rattle.std.specs.Prelude.{ℕ, ◌==◌, List, [], ◌++◌, codes, decimal, if◌then◌else◌}

-- a number, and the noun that it counts, in the singular
abbrev pub amount_text : ℕ → List ℕ → List ℕ
amount_text count word =
    decimal count ++ (codes " " ++ (word ++ (if count == 1 then [] else codes "s")))
