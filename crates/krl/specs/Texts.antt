-- The texts of an audit, and the list that they make (krl(1), KRL AUDIT).
use Rattle.std.specs.Prelude.{◌≡◌, ℕ, false, List, [], ◌∷◌, map, Option, Some, None}
use Rattle.std.specs.Borrow.{Bor}
use Rattle.krl.specs.Names.{name_of, now_of}
use Rattle.krl_entries.specs.Revocations.{Revocations}
use Rattle.krl_fingerprints.specs.declared.keys_by.KeysBy.{KeysBy}
use Rattle.text_index.specs.declared.indexing.TextIndex.{TextIndex}
use Rattle.text_run.specs.Indexed.{IndexesTexts}
use Rattle.text_run.specs.Making.{Text, day_at}
use Rattle.text_run.specs.Over.{MakesOver}
use Rattle.text_run.specs.declared.inputs.Inputs.{Inputs}
use Rattle.text_run.specs.declared.inputs.Over.TheVariants.{Nothing}

-- The texts are indexed, with what their lines say on the day of this date, for queries that give
-- keys so. Without a text there is no index.
abbrev pub AreIndexed : KeysBy → (date : ℕ) → List Text → Option TextIndex → Type 0
AreIndexed by date [] index = index ≡ None
AreIndexed by date (text ∷ texts) None = ⊥
AreIndexed by date (text ∷ texts) (Some index) =
    IndexesTexts by (day_at date) (text ∷ texts) index

-- These inputs ask for a new list of the texts.
pub record AreInputs (name : List ℕ) (date : ℕ) (texts : List Text) (inputs : Inputs)
    : Type 0 where
  pub name_is : inputs.name.now ≡ name
  pub over : inputs.over ≡ Nothing
  pub version : inputs.version ≡ None
  pub date_is : inputs.date ≡ date
  pub comment : inputs.comment ≡ None
  pub allow_empty : inputs.allow_empty ≡ false
  pub texts_are : inputs.texts.now ≡ texts

-- The list with these bytes was made of the texts, and of nothing more.
pub record IsListOf (name : List ℕ) (date : ℕ) (texts : List Text) (bytes : List ℕ) : Type 0 where
  pub inputs : Inputs
  pub asked : AreInputs name date texts inputs
  pub version : ℕ
  pub contents : Revocations
  pub lost : Revocations
  pub makes : MakesOver inputs None bytes version contents lost

-- nothing is claimed about the bytes of a given list; otherwise the texts make the list
abbrev pub IsListBy : Option (Bor (List ℕ)) → (name : List ℕ) → (date : ℕ) → List Text
    → (bytes : List ℕ) → Type 0
IsListBy None name date texts bytes = IsListOf name date texts bytes
IsListBy (Some list) name date texts bytes = Unit {0}

-- Texts with these names were read. They are indexed for queries that give keys so, and make the list
-- if no other is given.
pub record AreAsked (by : KeysBy) (names : List (Bor (List ℕ))) (given : Option (Bor (List ℕ)))
    (list : List ℕ) (bytes : List ℕ) (index : Option TextIndex) : Type 0 where
  pub date : ℕ
  pub texts : List Text
  pub named : map name_of texts ≡ map now_of names
  pub indexed : AreIndexed by date texts index
  pub made : IsListBy given list date texts bytes
