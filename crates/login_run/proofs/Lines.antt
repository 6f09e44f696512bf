-- The findings of lines, told one line after another.
use Rattle.std.proofs.Common.{◌≡◌, ℕ, List, [], ◌∷◌, ◌++◌, Result, Ok, Err, refl, ap, subst, sym, ◌∙◌}
use Rattle.run_faults.specs.RunFault.{RunFault, run_fault_of}
use Rattle.run_faults.specs.declared.cause.Cause.TheVariants as causes
use Rattle.krl_audit.specs.declared.auditor.Auditor.{Auditor}
use Rattle.login_text.specs.Outcome.{IsOutcome, Outcome}
use Rattle.login_text.proofs.Outcomes.{some_outcome}
use Rattle.login_run.specs.Finding.{AreOutcomes, Placed, Tells, TellsLines, finding_of, next_number, number_after, place, placed_after}
use Rattle.login_run.specs.Log.{AreText}
use Rattle.login_run.proofs.Telling.{tells_as, tells_err, tells_memory, tells_none, tells_then}

-- ---- lines have outcomes

pub some_outcomes : (lines : List (List ℕ)) → (outcomes : List Outcome) × AreOutcomes lines outcomes
some_outcomes [] = ([], tt)
some_outcomes (line ∷ lines) =
    let first = some_outcome line in
    let rest = some_outcomes lines in
    (first.0 ∷ rest.0, (first.1, rest.1))

-- ---- no line, one line, and a line before others

pub lines_none : {W A : Type 0} (name : List ℕ) (number : ℕ) (value : A) (now : Auditor W) → TellsLines now name number [] (Ok value) now
lines_none name number value now [] are = tells_none value now
lines_none name number value now (outcome ∷ outcomes) are = absurd are

pub one_line : {W A : Type 0} (name : List ℕ) (number : ℕ) (line : List ℕ) (result : Result A RunFault) (old new : Auditor W)
    → ((outcome : Outcome) → IsOutcome line outcome → Tells old (place name (next_number number) (finding_of outcome) ∷ []) result new)
    → TellsLines old name number (line ∷ []) result new
one_line name number line result old new told [] are = absurd are
one_line name number line result old new told (outcome ∷ []) are = told outcome are.0
one_line name number line result old new told (outcome ∷ _ ∷ outcomes) are = absurd are.1

-- one line, whose bytes and number are known by equations
pub line_as : {W A : Type 0} (name : List ℕ) (number next : ℕ) (line bytes : List ℕ) (result : Result A RunFault) (old new : Auditor W) → next ≡ next_number number → bytes ≡ line
    → ((outcome : Outcome) → IsOutcome bytes outcome → Tells old (place name next (finding_of outcome) ∷ []) result new)
    → TellsLines old name number (line ∷ []) result new
line_as {W} {A} name number next line bytes result old new numbered same told =
    one_line {W = W} {A = A} name number line result old new
    (λ outcome is. subst (λ (n : ℕ). Tells old (place name n (finding_of outcome) ∷ []) result new) numbered (told outcome (subst (λ (b : List ℕ). IsOutcome b outcome) (sym same) is)))

pub line_memory : {W A : Type 0} (name : List ℕ) (number : ℕ) (line : List ℕ) (stop : RunFault) (now : Auditor W) → stop ≡ run_fault_of name causes.NoMemory
    → TellsLines now name number (line ∷ []) {A = A} (Err stop) now
line_memory {W} {A} name number line stop now lacks =
    one_line {W = W} {A = A} name number line (Err stop) now now (λ outcome is. tells_memory name (place name (next_number number) (finding_of outcome)) [] stop now refl lacks)

pub lines_then : {W A B : Type 0} (name : List ℕ) (number : ℕ) (line : List ℕ) (lines : List (List ℕ)) (value : A) (result : Result B RunFault) (old mid new : Auditor W)
    → TellsLines old name number (line ∷ []) (Ok value) mid → TellsLines mid name (next_number number) lines result new
    → TellsLines old name number (line ∷ lines) result new
lines_then name number line lines value result old mid new first later [] are = absurd are
lines_then name number line lines value result old mid new first later (outcome ∷ outcomes) are =
    tells_then (place name (next_number number) (finding_of outcome) ∷ []) (placed_after name (next_number number) outcomes) value result old mid new
    (first (outcome ∷ []) (are.0, tt)) (later outcomes are.1)

-- the same lines with another value
pub lines_as : {W A B : Type 0} (name : List ℕ) (number : ℕ) (lines : List (List ℕ)) (value : A) (other : B) (old new : Auditor W)
    → TellsLines old name number lines (Ok value) new → TellsLines old name number lines (Ok other) new
lines_as name number lines value other old new tells outcomes are = tells_as (placed_after name number outcomes) value other old new (tells outcomes are)

pub lines_err : {W A B : Type 0} (name : List ℕ) (number : ℕ) (lines : List (List ℕ)) (stop : RunFault) (old new : Auditor W)
    → TellsLines old name number lines {A = A} (Err stop) new → TellsLines old name number lines {A = B} (Err stop) new
lines_err {W} {A} {B} name number lines stop old new tells outcomes are = tells_err {W = W} {A = A} {B = B} (placed_after name number outcomes) stop old new (tells outcomes are)

-- ---- lines after others

record Parted (first later : List (List ℕ)) (outcomes : List Outcome) : Type 0 where
  front : List Outcome
  back : List Outcome
  parts : outcomes ≡ front ++ back
  fronts : AreOutcomes first front
  backs : AreOutcomes later back

parted : (first later : List (List ℕ)) (outcomes : List Outcome) → AreOutcomes (first ++ later) outcomes → Parted first later outcomes
parted [] later outcomes are = record { front = []; back = outcomes; parts = refl; fronts = tt; backs = are }
parted (line ∷ first) later [] are = absurd are
parted (line ∷ first) later (outcome ∷ outcomes) are =
    let rest = parted first later outcomes are.1 in
    record { front = outcome ∷ rest.front; back = rest.back; parts = ap (λ (os : List Outcome). outcome ∷ os) rest.parts; fronts = (are.0, rest.fronts); backs = rest.backs }

placed_append : (name : List ℕ) (number : ℕ) (lines : List (List ℕ)) (front back : List Outcome) → AreOutcomes lines front
    → placed_after name number (front ++ back) ≡ placed_after name number front ++ placed_after name (number_after number lines) back
placed_append name number [] [] back are = refl
placed_append name number [] (outcome ∷ front) back are = absurd are
placed_append name number (line ∷ lines) [] back are = absurd are
placed_append name number (line ∷ lines) (outcome ∷ front) back are =
    ap (λ (rest : List Placed). place name (next_number number) (finding_of outcome) ∷ rest) (placed_append name (next_number number) lines front back are.1)

pub lines_append : {W A B : Type 0} (name : List ℕ) (number : ℕ) (first later : List (List ℕ)) (value : A) (result : Result B RunFault) (old mid new : Auditor W)
    → TellsLines old name number first (Ok value) mid → TellsLines mid name (number_after number first) later result new
    → TellsLines old name number (first ++ later) result new
lines_append {W} name number first later value result old mid new one other outcomes are =
    let part = parted first later outcomes are in
    let front = placed_after name number part.front in
    let back = placed_after name (number_after number first) part.back in
    let is : placed_after name number outcomes ≡ front ++ back = ap (placed_after name number) part.parts ∙ placed_append name number first part.front part.back part.fronts in
    subst (λ (placed : List Placed). Tells old placed result new) (sym is) (tells_then front back value result old mid new (one part.front part.fronts) (other part.back part.backs))

pub number_append : (number : ℕ) (first later : List (List ℕ)) → number_after number (first ++ later) ≡ number_after (number_after number first) later
number_append number [] later = refl
number_append number (line ∷ first) later = number_append (next_number number) first later

pub text_append : (number : ℕ) (first later : List (List ℕ)) → AreText number first → AreText (number_after number first) later → AreText number (first ++ later)
text_append number [] later one other = other
text_append number (line ∷ first) later one other = (one.0, text_append (next_number number) first later one.1 other)
