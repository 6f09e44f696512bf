-- How much is asked about files, and how much is found.
use Rattle.krl_runs.proofs.Common.{◌*◌, ◌+◌, ◌∷◌, ◌≡◌, ◌≤◌, arith, blob_room, CertNames, FileKey}
use Rattle.krl_runs.proofs.Common.{key_room, keys_room, length, List, names_size, None, nothing, Ok}
use Rattle.krl_runs.proofs.Common.{Option, refl, Result, Revocations, RunFault, serials_in, Some}
use Rattle.krl_runs.proofs.Common.{stored, Subject, subject_size, ℕ}
use Rattle.std.proofs.lemmas.List.Sums.{sum_by-cons}
use Rattle.ssh_cert.specs.Sizes.{IsWithinBlob, names_length}
use Rattle.krl_queries.specs.Questions.{IsSmall}
use Rattle.krl_runs.specs.Questions.{AsksAtMost, IsFewFor}

subject_room : (blob : List ℕ) (asked : Subject) → IsWithinBlob blob asked → subject_size asked ≤ 2 * length blob
subject_room blob asked within = by asked.cert within.together
  where
    by : (cert : Option CertNames) → length asked.plain + names_length cert ≤ length blob → length asked.plain + names_size cert ≤ 2 * length blob
    by None h = omega (arith, h)
    by (Some names) h = omega (arith, h)

-- A key is asked about.
pub asks_key : (blob : List ℕ) (asked : Subject) (old new : Revocations) → IsWithinBlob blob asked → serials_in new.sections ≤ serials_in old.sections + 2 → length new.keys ≤ length old.keys + 2
    → stored new ≤ stored old + subject_size asked → AsksAtMost (blob_room blob) old new
asks_key blob asked old new within serials keys bytes = record {
  serials_is = omega (arith, within.least, serials);
  keys_is = omega (arith, within.least, keys);
  stored_is = omega (arith, subject_room blob asked within, bytes);
}

pub asks_none : (room : ℕ) (topics : Revocations) → AsksAtMost room topics topics
asks_none room topics = record { serials_is = omega arith; keys_is = omega arith; stored_is = omega arith }

pub asks_then : (one two room : ℕ) (old mid new : Revocations) → one + two ≤ room → AsksAtMost one old mid → AsksAtMost two mid new → AsksAtMost room old new
asks_then one two room old mid new fits first second = record {
  serials_is = omega (arith, fits, first.serials_is, second.serials_is);
  keys_is = omega (arith, fits, first.keys_is, second.keys_is);
  stored_is = omega (arith, fits, first.stored_is, second.stored_is);
}

pub asks_more : (less room : ℕ) (old new : Revocations) → less ≤ room → AsksAtMost less old new → AsksAtMost room old new
asks_more less room old new fits asks = asks_then less 0 room old new new (omega (arith, fits)) asks (asks_none 0 new)

-- A file has room for what was asked and for the keys that are left.
pub record LeavesRoom (size : ℕ) (left : List (Result FileKey RunFault)) (old new : Revocations) : Type 0 where
  pub room : ℕ
  pub fits : room + keys_room left ≤ 3 * size
  pub asks : AsksAtMost room old new

pub room_next : (size : ℕ) (key : FileKey) (keys : List (Result FileKey RunFault)) (old mid new : Revocations) → LeavesRoom size (Ok key ∷ keys) old mid → AsksAtMost (blob_room key.line.blob) mid new
    → LeavesRoom size keys old new
room_next size key keys old mid new before asks = record {
  room = before.room + blob_room key.line.blob;
  fits = omega (arith, before.fits, sum_by-cons key_room (Ok key) keys);
  asks = asks_then before.room (blob_room key.line.blob) (before.room + blob_room key.line.blob) old mid new (omega arith) before.asks asks;
}

-- The findings for files are few.
pub few_found : (bytes : ℕ) (topics found : Revocations) → AsksAtMost (3 * bytes) nothing topics → IsSmall topics found → IsFewFor bytes found
few_found bytes topics found asks small =
    let no_serials : serials_in nothing.sections ≡ 0 = refl in
    let no_bytes : stored nothing ≡ 0 = refl in record {
      held_is = omega (arith, no_serials, small.held_is, asks.serials_is);
      stored_is = omega (arith, no_bytes, small.stored_is, asks.keys_is, asks.stored_is);
    }
