-- The lines of a list's contents that are printed so far.
use Rattle.krl_runs.proofs.Common.{[], ◌++◌, ◌==◌, ◌∙◌, ◌∷◌, ◌≡◌, all_said, ap, append_assoc, arith}
use Rattle.krl_runs.proofs.Common.{carries_more, carries_none, carries_then, comment_line}
use Rattle.krl_runs.proofs.Common.{comment_lines, contents_lines, date_line, Err, false, Header}
use Rattle.krl_runs.proofs.Common.{header_lines, Item, Known, known_lines, length, List, Ok, refl}
use Rattle.krl_runs.proofs.Common.{Result, RunFault, said_of, subst, sym, true, version_line, ℕ}
use Rattle.std.proofs.lemmas.List.{map-append}
use Rattle.std.proofs.lemmas.Bool.Decides.{nat_tests}
use Rattle.run_output.specs.Carries.{Carries}
use Rattle.run_output.specs.Printer.{Printer}

abbrev said : Result (Unit {0}) RunFault
said = Ok tt

-- All the lines are those that are printed so far and those that are left.
pub record IsSaid (name : List ℕ) (all left : List (List ℕ)) (old now : Printer) : Type 0 where
  pub done : List (List ℕ)
  pub parts : all ≡ done ++ left
  pub carried : Carries (all_said name done) said old now

pub none_said : (name : List ℕ) (all : List (List ℕ)) (now : Printer) → IsSaid name all all now now
none_said name all now = record { done = []; parts = refl; carried = carries_none tt now }

both_said : (name : List ℕ) (xs ys : List (List ℕ)) → all_said name (xs ++ ys) ≡ all_said name xs ++ all_said name ys
both_said name xs ys = map-append (said_of name) xs ys

-- some more lines are printed
pub more_said : (name : List ℕ) (all lines left : List (List ℕ)) (old mid new : Printer) → IsSaid name all (lines ++ left) old mid
    → Carries (all_said name lines) said mid new → IsSaid name all left old new
more_said name all lines left old mid new is carries = record {
  done = is.done ++ lines;
  parts = is.parts ∙ sym (append_assoc is.done lines left);
  carried =
      subst (λ (items : List Item). Carries items said old new) (sym (both_said name is.done lines)) (carries_then (all_said name is.done) (all_said name lines) tt said old mid new is.carried carries);
}

-- the next of them ended the run
pub saying_stops : {A B : Type 0} (name : List ℕ) (all lines left : List (List ℕ)) (stop : RunFault) (old mid new : Printer) → IsSaid name all (lines ++ left) old mid
    → Carries {A = A} (all_said name lines) (Err stop) mid new → Carries {A = B} (all_said name all) (Err stop) old new
saying_stops {A} {B} name all lines left stop old mid new is carries =
    let front = carries_then {B = A} (all_said name is.done) (all_said name lines) tt (Err stop) old mid new is.carried carries in
    let more = carries_more {A = A} {B = B} (all_said name is.done ++ all_said name lines) (all_said name left) stop old new front in
    let items : all_said name all ≡ (all_said name is.done ++ all_said name lines) ++ all_said name left =
    ap (all_said name) is.parts ∙ both_said name is.done (lines ++ left) ∙ ap (λ (items : List Item). all_said name is.done ++ items) (both_said name lines left)
    ∙ sym (append_assoc (all_said name is.done) (all_said name lines) (all_said name left)) in
    subst (λ (items : List Item). Carries {A = B} items (Err stop) old new) (sym items) more

-- the last of them, whatever its result is
pub last_said : {B : Type 0} (name : List ℕ) (all lines : List (List ℕ)) (result : Result B RunFault) (old mid new : Printer) → IsSaid name all lines old mid
    → Carries (all_said name lines) result mid new → Carries (all_said name all) result old new
last_said {B} name all lines result old mid new is carries =
    let items : all_said name all ≡ all_said name is.done ++ all_said name lines = ap (all_said name) is.parts ∙ both_said name is.done lines in
    subst (λ (items : List Item). Carries {A = B} items result old new) (sym items) (carries_then (all_said name is.done) (all_said name lines) tt result old mid new is.carried carries)

-- the lines of a header are those of its version, its date and its comment
pub header_started : (name : List ℕ) (header : Header) (now : Printer)
    → IsSaid name (header_lines header) (version_line header.version ∷ date_line header.date ∷ comment_lines header.comment) now now
unfolding header_lines
header_started name header now = none_said name (header_lines header) now

-- a comment without bytes has no line, and any other has one
pub no_comment : (comment : List ℕ) → (length comment == 0) ≡ true → comment_lines comment ≡ []
no_comment [] none = refl
no_comment (byte ∷ bytes) none = absurd (grind (arith, nat_tests))

pub some_comment : (comment : List ℕ) → (length comment == 0) ≡ false → comment_lines comment ≡ comment_line comment ∷ []
some_comment [] some = absurd cc
some_comment (byte ∷ bytes) some = refl

-- ---- the contents

pub contents_said : {B : Type 0} (name : List ℕ) (known : Known) (result : Result B RunFault) (old mid new : Printer)
    → Carries (all_said name (header_lines known.header)) said old mid → Carries (all_said name (contents_lines known.contents)) result mid new
    → Carries (all_said name (known_lines known)) result old new
contents_said {B} name known result old mid new first second =
    subst (λ (items : List Item). Carries {A = B} items result old new) (sym (both_said name (header_lines known.header) (contents_lines known.contents)))
    (carries_then (all_said name (header_lines known.header)) (all_said name (contents_lines known.contents)) tt result old mid new first second)

pub contents_stop : {A B : Type 0} (name : List ℕ) (known : Known) (stop : RunFault) (old new : Printer)
    → Carries {A = A} (all_said name (header_lines known.header)) (Err stop) old new → Carries {A = B} (all_said name (known_lines known)) (Err stop) old new
contents_stop {A} {B} name known stop old new first =
    subst (λ (items : List Item). Carries {A = B} items (Err stop) old new) (sym (both_said name (header_lines known.header) (contents_lines known.contents)))
    (carries_more {A = A} {B = B} (all_said name (header_lines known.header)) (all_said name (contents_lines known.contents)) stop old new first)
