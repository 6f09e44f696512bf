-- The numbers of lines that are found for reasons.
use Rattle.std.specs.Prelude.{◌≡◌, ℕ, Bool, ◌&&◌, ◌||◌, ◌==◌, nat_eq, List, [], length, map}
use Rattle.std.specs.Prelude.{Option, Some, None}
use Rattle.std.specs.List.{list_any}
use Rattle.krl_types.specs.Naming.{Name}
use Rattle.krl_types.specs.Subject.{Subject}
use Rattle.krl_entries.specs.Reasons.{bits_in, every_reason, has_reason, name_asked}
use Rattle.krl_entries.specs.declared.reasons.Reason.{Reason}
use Rattle.krl_entries.specs.declared.reasons.Reasons.{Reasons}
use Rattle.text_index.specs.NameIndex.{numbers}
use Rattle.text_index.specs.declared.name_index.NameIndex.{NameIndex}

-- the numbers of the lines that have a name, if there is one
abbrev pub asked_numbers : NameIndex → Option Name → List ℕ
asked_numbers names None = []
asked_numbers names (Some name) = numbers names name

-- A set of numbers has these beside those that it had.
pub record HasMore (more old new : List ℕ) : Type 0 where
  pub at_each : (i : ℕ) → list_any (nat_eq i) new
      ≡ (list_any (nat_eq i) old || list_any (nat_eq i) more)

-- the name is asked for, and no line has it
abbrev pub lacks : NameIndex → (asked : Bool) → Option Name → Bool
lacks names asked name = asked && (length (asked_numbers names name) == 0)

-- line number i has a name that is asked for
abbrev pub finds : NameIndex → (asked : Bool) → Option Name → (i : ℕ) → Bool
finds names asked name i = asked && list_any (nat_eq i) (asked_numbers names name)

-- The lines that have a name are found, if it is asked for.
pub record FindsAsked (names : NameIndex) (asked : Bool) (name : Option Name) (missing : Bool)
    (old new : List ℕ) : Type 0 where
  pub missing_is : missing ≡ lacks names asked name
  pub at_each : (i : ℕ) → list_any (nat_eq i) new
      ≡ (list_any (nat_eq i) old || finds names asked name i)

abbrev pub lacks_reason : NameIndex → Subject → Reasons → Reason → Bool
lacks_reason names asked reasons reason =
    lacks names (has_reason reasons reason) (name_asked reason asked)

abbrev pub finds_reason : NameIndex → Subject → Reasons → (i : ℕ) → Reason → Bool
finds_reason names asked reasons i reason =
    finds names (has_reason reasons reason) (name_asked reason asked) i

-- The lines that give some of these reasons are found, and the reasons that none gives.
pub record FindsSome (names : NameIndex) (asked : Subject) (reasons : Reasons) (some : List Reason)
    (bits : ℕ) (old new : List ℕ) : Type 0 where
  pub bits_are : bits ≡ bits_in (map (lacks_reason names asked reasons) some)
  pub at_each : (i : ℕ) → list_any (nat_eq i) new
      ≡ (list_any (nat_eq i) old || list_any (finds_reason names asked reasons i) some)

-- The lines that give these reasons are found.
abbrev pub FindsAll : NameIndex → Subject → Reasons → (unnamed : Reasons) → (old new : List ℕ)
    → Type 0
FindsAll names asked reasons unnamed =
    FindsSome names asked reasons every_reason unnamed.bits
