-- The stored list, by the entries that it means.
use Rattle.std.specs.Prelude.{◌≡◌, ℕ, ℤ, Bool, true, false, List}
use Rattle.krl_entries.specs.Revocations.{Revocations, Means, nothing}
use Rattle.krl_types.specs.Entry.{Entry}
use Rattle.krl_core.specs.Reading.{HoldsAll}
use Rattle.krl_c.specs.Answer.{IsCompared, IsRefusal}
use Rattle.krl_c.specs.Number.{fine, not_loaded, refusal_number}
use Rattle.krl_c.specs.declared.refusal.Refusal.{Refusal}
use Rattle.krl_c.specs.declared.stored.Stored.{Stored}

-- a list was read, and the stored list means these entries
pub record Holds (loaded : Bool) (contents : Revocations) (entries : List Entry) : Type 0 where
  pub is_loaded : loaded ≡ true
  pub means : Means contents entries

-- The stored list answers by the entries that it means, or says that no list was read.
pub record AnswersStored (Told : List Entry → ℤ → Type 0) (stored : Stored) (number : ℤ)
    : Type 0 where
  pub answer : (entries : List Entry) → Holds stored.loaded stored.list entries
      → Told entries number
  pub none : stored.loaded ≡ false → number ≡ not_loaded

-- no list was read
abbrev pub unloaded : Stored
unloaded = record { loaded = false; list = nothing }

-- The result of reading a list into a handle: the stored list means the entries of the list, and
-- has at most four intervals of serials for each of its bytes, and no more bytes than it. If the
-- list is refused for its first fault, a failed allocation or an authority, the stored list stays
-- unchanged.
pub data Loads (list : List ℕ) (old new : Stored) (number : ℤ) : Type 0 where
  loaded : (entries : List Entry) → IsCompared list entries → Holds new.loaded new.list entries
      → HoldsAll list new.list entries → number ≡ fine → Loads list old new number
  not_loaded_for : (refusal : Refusal) → IsRefusal ⊥ list refusal → number ≡ refusal_number refusal
      → new ≡ old → Loads list old new number
