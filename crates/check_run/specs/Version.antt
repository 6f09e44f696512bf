-- The version of a list, printed alone.
use Rattle.std.specs.Prelude.{◌≡◌, ℕ, Bool, false, List, [], ◌∷◌, ◌++◌, decimal, Option, Some, None}
use Rattle.std.specs.Prelude.{Result, Ok, Err}
use Rattle.run_output.specs.Done.{Ends}
use Rattle.run_output.specs.Run.{said_of}
use Rattle.run_output.specs.declared.done.Done.{Done}
use Rattle.krl_format.specs.declared.header.Stated.{Stated}
use Rattle.check_run.specs.declared.limits.Unanswered.{Unanswered}
use Rattle.check_run.specs.declared.limits.Unanswered.TheVariants as unanswered

-- the number and the end of its line
abbrev pub version_text : ℕ → List ℕ
version_text version = decimal version ++ 10 ∷ []

-- Nothing was printed, for this reason.
pub record SaysNothing (reason : Unanswered) (before after : Option (List ℕ)) (failed : Bool)
    (why : Unanswered) : Type 0 where
  pub why_is : why ≡ reason
  pub after_is : after ≡ before
  pub works : failed ≡ false

-- The version that a list states is printed. A plain list states none.
abbrev pub PrintsVersion : (name : List ℕ) → Option Stated → (before after : Option (List ℕ))
    → (failed : Bool) → Result Done Unanswered → Type 0
PrintsVersion name (Some stated) before after failed (Ok done) =
    Ends (said_of name (version_text stated.version) ∷ []) before after failed done.status
    done.fault
PrintsVersion name (Some stated) before after failed (Err why) = ⊥
PrintsVersion name None before after failed (Ok done) = ⊥
PrintsVersion name None before after failed (Err why) =
    SaysNothing unanswered.Version before after failed why
