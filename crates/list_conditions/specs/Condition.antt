-- The conditions that a list must meet, and whether one fails.
use Rattle.std.specs.Prelude.{ℕ, ◌-◌, ◌&&◌, nat_le, nat_lt, not, is_some, Bool, true, false}
use Rattle.std.specs.Prelude.{List, codes}
use Rattle.list_conditions.specs.Role.{is_met, role_word}
use Rattle.list_conditions.specs.declared.condition.Condition.{Condition}
use Rattle.list_conditions.specs.declared.condition.Condition.TheVariants as conditions
use Rattle.list_conditions.specs.declared.condition.SshdUse.{SshdUse}
use Rattle.list_conditions.specs.declared.condition.SshdUse.TheVariants as uses

-- how many seconds after the present moment a list may have been made, since clocks differ
abbrev pub most_ahead : ℕ
most_ahead = 300

-- A list that was made at this moment is not too old and not from the future. The moments are in
-- seconds since 1970.
abbrev pub is_fresh : (generated now max_age : ℕ) → Bool
is_fresh generated now max_age =
    nat_le (generated - now) most_ahead && nat_le (now - generated) max_age

-- The sshd does not use the list that is checked.
abbrev pub use_fails : SshdUse → Bool
use_fails uses.This = false
use_fails uses.Nothing = true
use_fails uses.Other = true

-- what the sshd does
abbrev pub use_words : SshdUse → List ℕ
use_words uses.This = codes "uses this list"
use_words uses.Nothing = codes "uses no list"
use_words uses.Other = codes "uses another list"

-- The condition fails by what was found.
abbrev pub fails : Condition → Bool
fails (conditions.OpenSsh difference) = is_some difference
fails (conditions.OpenSshLines line) = is_some line
fails (conditions.Empty nobody) = nobody
fails (conditions.Slow authorities most) = nat_lt most authorities
fails (conditions.Version version least) = nat_lt version least
fails conditions.NoVersion = true
fails (conditions.Age generated now max_age) = not (is_fresh generated now max_age)
fails conditions.NoDate = true
fails (conditions.NothingLost other) = false
fails (conditions.Lost other entries) = true
fails (conditions.Sshd output found) = use_fails found
fails (conditions.Keys role counts) = not (is_met role counts)

abbrev pub condition_word : Condition → List ℕ
condition_word (conditions.OpenSsh difference) = codes "openssh"
condition_word (conditions.OpenSshLines line) = codes "openssh"
condition_word (conditions.Empty nobody) = codes "empty"
condition_word (conditions.Slow authorities most) = codes "slow"
condition_word (conditions.Version version least) = codes "version"
condition_word conditions.NoVersion = codes "version"
condition_word (conditions.Age generated now max_age) = codes "age"
condition_word conditions.NoDate = codes "age"
condition_word (conditions.NothingLost other) = codes "lost"
condition_word (conditions.Lost other entries) = codes "lost"
condition_word (conditions.Sshd output found) = codes "sshd"
condition_word (conditions.Keys role counts) = role_word role
