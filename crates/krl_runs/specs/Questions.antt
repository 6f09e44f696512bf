-- How much is asked about the keys of files.
use Rattle.std.specs.Prelude.{ℕ, ◌+◌, ◌*◌, ◌≤◌, length}
use Rattle.krl_entries.specs.Revocations.{Revocations, held, stored}
use Rattle.krl_queries.specs.Questions.{serials_in}

-- At most this much more is asked: a serial number or a key counts 50, and a byte counts 2.
pub record AsksAtMost (room : ℕ) (old new : Revocations) : Type 0 where
  pub serials_is : 50 * serials_in new.sections ≤ 50 * serials_in old.sections + room
  pub keys_is : 50 * length new.keys ≤ 50 * length old.keys + room
  pub stored_is : 2 * stored new ≤ 2 * stored old + room

-- The findings for files of this many bytes are few: at most three runs of serial numbers for 50
-- bytes of the files, and fewer than five bytes for each.
pub record IsFewFor (bytes : ℕ) (found : Revocations) : Type 0 where
  pub held_is : 50 * held found ≤ 3 * bytes
  pub stored_is : 50 * stored found ≤ 231 * bytes
