-- Parts that a writer took, one after another.
use Rattle.std.proofs.Common.{◌≡◌, ℕ, ◌+◌, ◌-◌, List, ◌++◌, length, take, drop, Option, None, Some, refl, sym, ap, ◌∙◌, append_assoc, arith}
use Rattle.std.proofs.lemmas.List.{take_all, length-drop}
use Rattle.std.proofs.Math.Seq.{take-add}
use Rattle.std.specs.Io.KnownBytes.{Appends}

-- the front of the bytes, followed by a front of the slice after it
pub Appends-take : (first second third : Option (List ℕ)) (bytes : List ℕ) (i n : ℕ) → Appends first second (take i bytes) → Appends second third (take n (take (length bytes - i) (drop i bytes))) → Appends first third (take (i + n) bytes)
Appends-take None second third bytes i n out more = tt
Appends-take (Some xs) None third bytes i n out more = absurd out
Appends-take (Some xs) (Some ys) None bytes i n out more = more
Appends-take (Some xs) (Some ys) (Some zs) bytes i n out more =
    let rest : take (length bytes - i) (drop i bytes) ≡ drop i bytes = take_all _ _ (omega (arith, length-drop i bytes)) in
    let both : zs ≡ (xs ++ take i bytes) ++ take n (drop i bytes) = more ∙ rw (rest, out) refl in
    both ∙ append_assoc xs (take i bytes) (take n (drop i bytes)) ∙ ap (λ (part : List ℕ). xs ++ part) (sym (take-add i n bytes))
