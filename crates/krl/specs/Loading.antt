-- The result of reading a file.
use Rattle.std.specs.Prelude.{◌≡◌, ℕ, ◌≤◌, ◌<◌, Bool, true, false, List, Option, Result, Ok, Err}
use Rattle.std.specs.Io.KnownBytes.{IsAtEnd}
use Rattle.run_faults.specs.Named.{file_limit}
use Rattle.audit_lines.specs.declared.why.Refusal.{Refusal}
use Rattle.audit_lines.specs.declared.why.Refusal.TheVariants.{Missing, Denied, Irregular, Loop}
use Rattle.audit_lines.specs.declared.why.Refusal.TheVariants.{DirectoryLink, NoFile, LongName}
use Rattle.audit_lines.specs.declared.why.Refusal.TheVariants.{NotAsked, Slow, Kernel, Open, Read}
use Rattle.audit_lines.specs.declared.why.Refusal.TheVariants.{TooLong, Wildcards}

-- This many bytes came from a reader that has these bytes left and failed or not: all that it had,
-- or too many, or those before it failed.
abbrev pub IsRead : Option (List ℕ) → Bool → ℕ → {A : Type 0} → Result A Refusal → Type 0
IsRead left failed size (Ok done) = (size ≤ file_limit) × IsAtEnd left × (failed ≡ false)
IsRead left failed size (Err TooLong) = (file_limit < size) × (failed ≡ false)
IsRead left failed size (Err Read) = (size ≤ file_limit) × (failed ≡ true)
IsRead left failed size (Err Missing) = ⊥
IsRead left failed size (Err Denied) = ⊥
IsRead left failed size (Err Irregular) = ⊥
IsRead left failed size (Err Loop) = ⊥
IsRead left failed size (Err DirectoryLink) = ⊥
IsRead left failed size (Err NoFile) = ⊥
IsRead left failed size (Err LongName) = ⊥
IsRead left failed size (Err Slow) = ⊥
IsRead left failed size (Err Kernel) = ⊥
IsRead left failed size (Err Open) = ⊥
IsRead left failed size (Err NotAsked) = ⊥
IsRead left failed size (Err Wildcards) = ⊥
