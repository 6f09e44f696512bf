-- The logs that are visited, one after another, and what is found in each.
use Rattle.std.specs.Prelude.{◌≡◌, ◌<◌, ◌+◌, ℕ, Bool, true, false, List, [], ◌∷◌, ◌++◌, Option}
use Rattle.std.specs.Prelude.{Some, None, Result, Ok, Err, IfOk, length}
use Rattle.std.specs.Borrow.{Bor}
use Rattle.std.specs.List.{flat_map}
use Rattle.run_faults.specs.RunFault.{RunFault}
use Rattle.audit_lines.specs.declared.why.Refusal.{Refusal}
use Rattle.audit_run.specs.Fact.{Fact, Fails, Opens, open_file}
use Rattle.audit_run.specs.Named.{input_after, is_input}
use Rattle.audit_run.specs.Reading.{InputFails}
use Rattle.audit_run.specs.declared.file_kind.Identity.{Identity}
use Rattle.krl_audit.specs.declared.auditor.Auditor.{Auditor}
use Rattle.login_text.specs.Outcome.{Outcome}
use Rattle.login_run.specs.Finding.{AreOutcomes, Lacks, Nothing, Placed, Tells, number_after}
use Rattle.login_run.specs.Finding.{place}
use Rattle.login_run.specs.Log.{IsBroken, ReadsLog, log_findings}
use Rattle.login_run.specs.declared.judging.NotRead.TheVariants as reasons

-- the log as a whole is not read
abbrev pub refused : (name : List ℕ) → Refusal → List Placed
refused name refusal = place name 0 (Lacks (reasons.File refusal)) ∷ []

-- ---- one log

-- A log whose reader had these bytes left, as far as it knew them: the findings are those of its
-- lines and of its end. If its reader failed, this is why.
pub data IsLog (Fails : Refusal → Type 0) (name : List ℕ) (first : Option (List ℕ))
    (findings : List Placed) : Type 0 where
  came : (now : Option (List ℕ)) (failed : Bool) (result : Result Bool RunFault)
      → (result ≡ Ok false → ⊥) → (reads : ReadsLog first now failed result)
      → (outcomes : List Outcome) → AreOutcomes reads.lines outcomes
      → findings ≡ log_findings name outcomes (number_after 0 reads.lines) reads.end
      → IsLog Fails name first findings
  failed : (now : Option (List ℕ)) (failed : Bool) → (reads : ReadsLog first now failed (Ok false))
      → (outcomes : List Outcome) → AreOutcomes reads.lines outcomes
      → (refusal : Refusal) → Fails refusal
      → findings ≡ log_findings name outcomes (number_after 0 reads.lines) reads.end
      ++ refused name refusal
      → IsLog Fails name first findings

-- The file of this name cannot be opened, or is a log; or the run was stopped before it was opened.
pub data IsFile (Broken : Type 0) (Knows : Fact → Type 0) (name : List ℕ)
    (findings : List Placed) : Type 0 where
  unopened : Broken → findings ≡ place name 0 Nothing ∷ [] → IsFile Broken Knows name findings
  closed : (refusal : Refusal) → Knows (Opens name None (Err refusal))
      → findings ≡ refused name refusal → IsFile Broken Knows name findings
  opened : (is_file : Bool) (identity : Identity) (first : Option (List ℕ))
      → Knows (Opens name None (Ok (open_file is_file identity first)))
      → IsLog (λ refusal. Knows (Fails name refusal)) name first findings
      → IsFile Broken Knows name findings

-- Standard input is a log, or was read before.
abbrev pub IsInput : (InputFailed : Type 0) → (name : List ℕ) → Option (Option (List ℕ))
    → (findings : List Placed) → Type 0
IsInput InputFailed name None findings = findings ≡ []
IsInput InputFailed name (Some first) findings =
    IsLog (InputFails InputFailed) name first findings

abbrev pub IsVisitIf : (input : Bool) → (Broken : Type 0) → (Fact → Type 0)
    → (InputFailed : Type 0) → (name : List ℕ) → Option (Option (List ℕ))
    → (findings : List Placed) → Type 0
IsVisitIf true Broken Knows InputFailed name input findings =
    IsInput InputFailed name input findings
IsVisitIf false Broken Knows InputFailed name input findings = IsFile Broken Knows name findings

-- ---- all logs

-- each of the logs has its findings; the run was stopped in the last one, or not
abbrev pub AreVisits : (Broken : Type 0) → (Fact → Type 0) → (InputFailed : Type 0)
    → Option (Option (List ℕ)) → List (Bor (List ℕ)) → List (List Placed) → Type 0
AreVisits Broken Knows InputFailed input [] [] = Unit {0}
AreVisits Broken Knows InputFailed input [] (findings ∷ found) = ⊥
AreVisits Broken Knows InputFailed input (name ∷ names) [] = ⊥
AreVisits Broken Knows InputFailed input (name ∷ names) (findings ∷ found) =
    IsVisitIf (is_input name.now) Broken Knows InputFailed name.now input findings
    × AreVisits Broken Knows InputFailed (input_after name.now input) names found

abbrev pub all_of : List (List Placed) → List Placed
all_of found = flat_map (λ findings. findings) found

-- A log was read, or the run was stopped in it, and its findings were told.
pub record TellsLog {W : Type 0} (Fails : Refusal → Type 0) (name : List ℕ)
    (first : Option (List ℕ)) {A : Type 0} (result : Result A RunFault) (old new : Auditor W)
    : Type 0 where
  pub findings : List Placed
  pub is : IsLog Fails name first findings
  pub tells : Tells old findings result new

-- The file of this name was visited, and its findings were told.
pub record VisitsFile {W : Type 0} (Knows : Fact → Type 0) (name : List ℕ) {A : Type 0}
    (result : Result A RunFault) (old new : Auditor W) : Type 0 where
  pub findings : List Placed
  pub is : IsFile (IsBroken result) Knows name findings
  pub tells : Tells old findings result new

-- The log of this name was visited, and its findings were told.
pub record Visits {W : Type 0} (Knows : Fact → Type 0) (InputFailed : Type 0) (name : List ℕ)
    (input next : Option (Option (List ℕ))) {A : Type 0} (result : Result A RunFault)
    (old new : Auditor W) : Type 0 where
  pub findings : List Placed
  pub is : IsVisitIf (is_input name) (IsBroken result) Knows InputFailed name input findings
  pub next_is : next ≡ input_after name input
  pub tells : Tells old findings result new

-- The names that may be left: none, unless the run was stopped, or nothing is printed and something
-- is revoked.
abbrev pub MayBeLeft : (quiet : Bool) → (revoked : ℕ) → {A : Type 0} → Result A RunFault
    → List (Bor (List ℕ)) → Type 0
MayBeLeft quiet revoked result [] = Unit {0}
MayBeLeft true revoked (Ok done) (name ∷ names) = 0 < revoked
MayBeLeft false revoked (Ok done) (name ∷ names) = ⊥
MayBeLeft quiet revoked (Err stop) (name ∷ names) = Unit {0}

-- The first of these logs were visited, after this many others, and their findings were told.
pub record VisitsAll {W : Type 0} (Knows : Fact → Type 0) (InputFailed : Type 0) (quiet : Bool)
    (before : ℕ) (names : List (Bor (List ℕ))) (input : Option (Option (List ℕ)))
    (result : Result ℕ RunFault) (old new : Auditor W) : Type 0 where
  pub visited : List (Bor (List ℕ))
  pub left : List (Bor (List ℕ))
  pub names_are : names ≡ visited ++ left
  pub found : List (List Placed)
  pub are : AreVisits (IsBroken result) Knows InputFailed input visited found
  pub tells : Tells old (all_of found) result new
  pub rest : MayBeLeft quiet new.counts.revoked result left
  pub counted : IfOk result (λ count. count ≡ before + length visited)
