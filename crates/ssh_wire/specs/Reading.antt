-- Reading a field from the front of bytes: its value and the bytes after it, or the fault.
use Rattle.std.specs.Prelude.{◌≡◌, ℕ, zero, suc, List, [], ◌∷◌, length, take, drop, Result, Ok, Err}
use Rattle.std.specs.Prelude.{nat_lt, if◌then◌else◌}
use Rattle.std.specs.Borrow.{Bor}
use Rattle.byteorder.specs.Endian.{big_number}
use Rattle.ssh_wire.specs.declared.fault.WireFault.{WireFault}
use Rattle.ssh_wire.specs.declared.fault.WireFault.TheVariants.{Short, Negative, NotShortest}

-- the number of the first k bytes
unfoldable pub number_at : ℕ → List ℕ → Result (ℕ × List ℕ) WireFault
number_at k bytes =
    if nat_lt (length bytes) k then Err Short else Ok (big_number k bytes, drop k bytes)

-- the first `size` bytes
unfoldable pub front_at : ℕ → List ℕ → Result (List ℕ × List ℕ) WireFault
front_at size bytes =
    if nat_lt (length bytes) size then Err Short else Ok (take size bytes, drop size bytes)

-- as many bytes as the length that was read
abbrev pub content_at : Result (ℕ × List ℕ) WireFault → Result (List ℕ × List ℕ) WireFault
content_at (Err fault) = Err fault
content_at (Ok (size, rest)) = front_at size rest

unfoldable pub string_at : List ℕ → Result (List ℕ × List ℕ) WireFault
string_at bytes = content_at (number_at 4 bytes)

-- the magnitude of a number in two's complement
unfoldable pub magnitude_of : List ℕ → Result (List ℕ) WireFault
magnitude_of [] = Ok []
magnitude_of (zero ∷ []) = Err NotShortest
magnitude_of (zero ∷ next ∷ bytes) = if nat_lt next 128 then Err NotShortest else Ok (next ∷ bytes)
magnitude_of (suc byte ∷ bytes) =
    if nat_lt (suc byte) 128 then Ok (suc byte ∷ bytes) else Err Negative

-- a magnitude, and the bytes after its string
abbrev pub magnitude_before
    : Result (List ℕ) WireFault → List ℕ → Result (List ℕ × List ℕ) WireFault
magnitude_before (Err fault) rest = Err fault
magnitude_before (Ok magnitude) rest = Ok (magnitude, rest)

abbrev pub magnitude_at : Result (List ℕ × List ℕ) WireFault → Result (List ℕ × List ℕ) WireFault
magnitude_at (Err fault) = Err fault
magnitude_at (Ok (bytes, rest)) = magnitude_before (magnitude_of bytes) rest

unfoldable pub mpint_at : List ℕ → Result (List ℕ × List ℕ) WireFault
mpint_at bytes = magnitude_at (string_at bytes)

-- ---- readers with any faults

infixl 10 ◌>>=◌
-- continues with what was read; a fault ends the reading
abbrev pub ◌>>=◌ : {A B E : Type 0} → Result A E → (A → Result B E) → Result B E
(Ok x) >>= f = f x
(Err fault) >>= f = Err fault

-- what was read, or the fault as another fault
abbrev pub in_fault : {A E F : Type 0} → (E → F) → Result A E → Result A F
in_fault words (Ok x) = Ok x
in_fault words (Err fault) = Err (words fault)

-- A function returns what reading gives, seen by a view, or reports its fault in a stated way.
abbrev pub Answers
    : {X Y E : Type 0} → (E → Result Y E → Type 0) → (X → Y) → Result X E → Result Y E → Type 0
Answers Reports view (Ok x) read = read ≡ Ok (view x)
Answers Reports view (Err fault) read = Reports fault read

-- A read returns what reading gives and leaves the bytes after it. An error leaves all of them.
abbrev pub Reads
    : {X Y E : Type 0} → (X → Y) → Result X E → List ℕ → List ℕ → Result (Y × List ℕ) E → Type 0
Reads view (Ok x) old new read = read ≡ Ok (view x, new)
Reads view (Err fault) old new read = (read ≡ Err fault) × (new ≡ old)

-- A function returns what reading gives, with the bytes after it.
abbrev pub Gives
    : {X Y E : Type 0} → (X → Y) → Result X E → List ℕ → Result (Y × List ℕ) E → Type 0
Gives view (Ok x) rest read = read ≡ Ok (view x, rest)
Gives view (Err fault) rest read = read ≡ Err fault

-- A function returns borrowed bytes that are what a function on lists gives.
abbrev pub Lends : {E : Type 0} → Result (Bor (List ℕ)) E → Result (List ℕ) E → Type 0
Lends (Ok lent) read = read ≡ Ok lent.now
Lends (Err fault) read = read ≡ Err fault
