-- The line about a list that was made (krl(1), KRL MAKE).
use Rattle.std.specs.Prelude.{ℕ, ◌+◌, ◌==◌, false, nat_lt, List, [], ◌++◌, codes, decimal, drop}
use Rattle.std.specs.Prelude.{if◌then◌else◌, length}
use Rattle.line_pieces.specs.Amount.{amount_text}
use Rattle.line_pieces.specs.Visible.{visible}
use Rattle.list_text.specs.declared.counts.Counts.{Counts}

-- a number of things after a comma, if there are any
abbrev pub part : ℕ → List ℕ → List ℕ
part count word = if count == 0 then [] else codes ", " ++ amount_text count word

-- how much there is of each kind, each after a comma
abbrev pub amounts : Counts → List ℕ
amounts counts =
    part counts.authorities (codes "CA")
    ++ (part counts.serials (codes "serial number")
    ++ (part counts.ids (codes "key ID")
    ++ (part counts.keys (codes "key") ++ part counts.hashes (codes "hashed key"))))

-- the amounts without the first comma, or that there is nothing
abbrev pub words : List ℕ → List ℕ
words amounts = if nat_lt (length amounts) 2 then codes "nothing" else drop 2 amounts

-- the numbers of serial numbers, key IDs, keys and hashes
abbrev pub names_in : Counts → ℕ
names_in counts = counts.serials + (counts.ids + (counts.keys + counts.hashes))

-- that what only the list before has is no longer revoked, if there is any
abbrev pub lost_part : Counts → List ℕ
lost_part lost =
    if names_in lost == 0 then []
    else codes "; " ++ (words (amounts (record lost { authorities = 0 }))
    ++ ((if names_in lost == 1 then codes " is" else codes " are") ++ codes " no longer revoked"))

-- that entries are over, if there are any
abbrev pub over_part : ℕ → List ℕ
over_part over =
    if over == 0 then []
    else codes "; " ++ (if over == 1 then codes "1 entry is over"
    else decimal over ++ codes " entries are over")

abbrev pub made_line : List ℕ → ℕ → (named lost : Counts) → (over : ℕ) → List ℕ
made_line name version named lost over =
    codes "krl make: " ++ (visible false name
    ++ (codes ": version " ++ (decimal version
    ++ (codes ": " ++ (words (amounts named)
    ++ (lost_part lost ++ (over_part over ++ codes "\n")))))))
