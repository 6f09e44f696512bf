-- The effect of an append on a list of bytes.
use Rattle.std.specs.Prelude.{◌≡◌, List, ℕ, ◌++◌, Result, Ok, Err}

-- At Ok the new bytes are the old ones followed by the text. An error changes nothing.
abbrev pub Appends : {A E : Type 0} → Result A E → List ℕ → List ℕ → List ℕ → Type 0
Appends (Ok value) old new text = new ≡ old ++ text
Appends (Err refused) old new text = new ≡ old
