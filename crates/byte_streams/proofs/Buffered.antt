-- Bytes in the buffer of a buffered reader.
use Rattle.std.proofs.Common.{◌≡◌, ℕ, ◌≤◌, Bool, true, false, cond, List, ◌++◌, length, take, drop, Option, None, Some, sym, subst, ap, ◌∙◌}
use Rattle.std.proofs.lemmas.List.{take-append-drop}
use Rattle.std.specs.Io.KnownBytes.{Consumes, prepend_known}
use Rattle.std.specs.Io.BufRead.{DropsConsumable}
use lib.Seq.{take-append-le, take-length}

-- the front of the buffer was consumed
pub Consumes-held : (hides : Bool) (held : List ℕ) (later new : Option (List ℕ)) (count : ℕ) → count ≤ length held → DropsConsumable (cond hides None (prepend_known held later)) new (Some (length held)) count → Consumes (cond hides None (prepend_known held later)) new (take count held)
Consumes-held true held later new count fits drops = tt
Consumes-held false held None new count fits drops = tt
Consumes-held false held (Some later) new count fits drops =
    let whole : held ++ later ≡ take count held ++ drop count (held ++ later) = sym (take-append-drop count (held ++ later)) ∙ ap (λ (l : List ℕ). l ++ drop count (held ++ later)) (take-append-le count held later fits) in
    subst (λ (n : Option (List ℕ)). Consumes (Some (held ++ later)) n (take count held)) (sym (drops fits)) whole

-- The whole slice is what was copied into it.
pub take-copied : (slice held : List ℕ) (count : ℕ) → length slice ≡ count → slice ≡ take count held → take count slice ≡ take count held
take-copied slice held count size copied =
    let whole : take count slice ≡ slice = subst (λ (n : ℕ). take n slice ≡ slice) size (take-length slice) in
    whole ∙ copied
