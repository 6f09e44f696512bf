-- The list that is made (krl(1), KRL MAKE).
use Rattle.std.specs.Prelude.{◌≡◌, ℕ, Bool, true, false, List, map}
use Rattle.krl.specs.Names.{name_of, now_of}
use Rattle.krl_arguments.specs.declared.task.Make.{Make}
use Rattle.krl_entries.specs.Revocations.{Revocations}
use Rattle.list_making.specs.Target.{Old}
use Rattle.text_run.specs.Making.{Text}
use Rattle.text_run.specs.Over.{MakesOver}
use Rattle.text_run.specs.declared.inputs.Inputs.{Inputs}
use Rattle.text_run.specs.declared.inputs.Over.{Over}
use Rattle.text_run.specs.declared.inputs.Over.TheVariants.{Nothing, Version, Contents}

-- what the list has of the one under its name, by `-u` and `--replace`
abbrev pub over_of : (update replace : Bool) → Over
over_of true replace = Contents
over_of false true = Nothing
over_of false false = Version

-- These inputs are those of the task, with this date and these texts.
pub record IsAsked (task : Make) (date : ℕ) (texts : List Text) (inputs : Inputs) : Type 0 where
  pub name : inputs.name.now ≡ task.list.now
  pub over : inputs.over ≡ over_of task.update task.replace
  pub version : inputs.version ≡ task.version
  pub date_is : inputs.date ≡ date
  pub comment : inputs.comment ≡ task.comment
  pub allow_empty : inputs.allow_empty ≡ task.allow_empty
  pub texts_are : inputs.texts.now ≡ texts

-- A list was made of the texts, over an old one or none.
pub record IsListOver (inputs : Inputs) : Type 0 where
  pub old : Old
  pub bytes : List ℕ
  pub version : ℕ
  pub contents : Revocations
  pub lost : Revocations
  pub makes : MakesOver inputs old bytes version contents lost

-- The list of the task was made: of texts with the names that it gives, over what was under its
-- name.
pub record IsMade (task : Make) : Type 0 where
  pub date : ℕ
  pub texts : List Text
  pub named : map name_of texts ≡ map now_of task.files.items
  pub inputs : Inputs
  pub asked : IsAsked task date texts inputs
  pub list : IsListOver inputs
