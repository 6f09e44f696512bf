-- The first bytes of a reader.
use Rattle.std.proofs.Common.{◌≡◌, ◌∙◌, ℕ, List, Option, Some, None, IfSome, ap, option_map, subst, take, Result, Ok, Err}
use Rattle.std.specs.Prelude.{IfOk}
use Rattle.run_faults.specs.declared.cause.Cause.{Cause}
use Rattle.std.specs.Io.Take.{take_inner, take_limit, take_remaining}
use Rattle.std.specs.declared.io.traits.Take.{Take}

mapped : (most : ℕ) (before : Option (List ℕ)) (bytes : List ℕ) → IfSome (option_map (take most) before) (λ left. bytes ≡ left) → IfSome before (λ left. bytes ≡ take most left)
mapped most None bytes same = tt
mapped most (Some text) bytes same = same

taken : {R : Type 0} → (remaining : R → Option (List ℕ)) (file : R) (part : Take R) (most : ℕ) (left : Option (List ℕ)) (bytes : List ℕ)
    → take_limit part ≡ most → take_inner part ≡ file → left ≡ take_remaining remaining part
    → IfSome left (λ rest. bytes ≡ rest) → IfSome (remaining file) (λ rest. bytes ≡ take most rest)
taken {R} remaining file part most left bytes limit inner is same =
    let whole = is ∙ ap (λ (n : ℕ). option_map (take n) (remaining part.inner)) limit ∙ ap (λ (r : R). option_map (take most) (remaining r)) inner in
    mapped most (remaining file) bytes (subst (λ (rest : Option (List ℕ)). IfSome rest (λ text. bytes ≡ text)) whole same)

pub all_taken : {R : Type 0} → (remaining : R → Option (List ℕ)) (file : R) (part : Take R) (most : ℕ) (left : Option (List ℕ)) (result : Result (List ℕ) Cause)
    → take_limit part ≡ most → take_inner part ≡ file → left ≡ take_remaining remaining part
    → IfOk result (λ bytes. IfSome left (λ rest. bytes ≡ rest)) → IfOk result (λ bytes. IfSome (remaining file) (λ rest. bytes ≡ take most rest))
all_taken remaining file part most left (Ok bytes) limit inner is same = taken remaining file part most left bytes limit inner is same
all_taken remaining file part most left (Err cause) limit inner is same = tt
