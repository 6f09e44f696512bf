-- Lines of a plain list, read one after another.
use Rattle.std.proofs.Common.{◌≡◌, ℕ, ◌+◌, ◌≤◌, List, [], ◌∷◌, ◌++◌, length, refl, sym, ◌∙◌, arith, append_assoc}
use Rattle.std.proofs.lemmas.List.{append-nil, flat_map_more, length-append}
use Rattle.std.proofs.lemmas.List.Elements.{All-append, All-cons, All-nil}
use Rattle.std.specs.Result.{IsOk}
use Rattle.krl_entries.specs.Changes.{MeansMore}
use Rattle.krl_entries.specs.Revocations.{Means, Revocations}
use Rattle.plain_list.specs.Key.{Reports, line_key}
use Rattle.krl_format.specs.Front.{limit}
use Rattle.plain_list.specs.List.{AreRead, HasFault, entries_of, line_entries, lines_of}
use Rattle.plain_list.specs.declared.fault.PlainFault.{PlainFault}
use Rattle.plain_list.specs.declared.fault.PlainFault.TheVariants as faults

abbrev IsRead : List ℕ → Type 0
IsRead line = IsOk (line_key line)

-- The lines before were read, and exactly their entries were added.
pub record IsAt (lines : List (List ℕ)) (passed : ℕ) (rest : List (List ℕ)) (revoked : Revocations) : Type 0 where
  pub before : List (List ℕ)
  pub parts : lines ≡ before ++ rest
  pub counted : length before ≡ passed
  pub are_read : AreRead before
  pub means : Means revoked (entries_of before)

pub none_read : (lines : List (List ℕ)) (revoked : Revocations) → Means revoked [] → IsAt lines 0 lines revoked
unfolding entries_of
none_read lines revoked means = record { before = []; parts = refl; counted = refl; are_read = All-nil IsRead; means = means }

-- a line was read, and its entry, if it has one, was added
pub next_line : (lines : List (List ℕ)) (passed : ℕ) (line : List ℕ) (rest : List (List ℕ)) (old new : Revocations)
    → IsAt lines passed (line ∷ rest) old → IsOk (line_key line) → MeansMore old new (line_entries line) → IsAt lines (passed + 1) rest new
unfolding entries_of
next_line lines passed line rest old new at is adds = record {
  before = at.before ++ line ∷ [];
  parts = at.parts ∙ sym (append_assoc at.before (line ∷ []) rest);
  counted = omega (arith, at.counted, length-append at.before (line ∷ []));
  are_read = All-append IsRead at.before (line ∷ []) at.are_read (All-cons IsRead line [] is (All-nil IsRead));
  means = rw (← flat_map_more line_entries [] at.before line) (adds (entries_of at.before) at.means);
}

-- all lines were read
pub all_read : (text : List ℕ) (passed : ℕ) (revoked : Revocations) → IsAt (lines_of text) passed [] revoked
    → AreRead (lines_of text) × Means revoked (entries_of (lines_of text))
all_read text passed revoked at =
    let whole : lines_of text ≡ at.before = at.parts ∙ append-nil at.before in
    rw whole (at.are_read, at.means)

-- A line is refused, or an allocation failed.
pub refused : (text : List ℕ) (passed : ℕ) (line : List ℕ) (rest : List (List ℕ)) (revoked : Revocations) (fault : PlainFault) → length text ≤ limit
    → IsAt (lines_of text) passed (line ∷ rest) revoked → Reports (passed + 1) fault (line_key line) → HasFault text fault
refused text passed line rest revoked faults.TooLong within at reports = absurd reports
refused text passed line rest revoked (faults.Line number cause) within at (numbered, is) = (
  within,
  record {
    before = at.before;
    line = line;
    after = rest;
    parts = at.parts;
    counted = omega (arith, numbered, at.counted);
    are_read = at.are_read;
    fault = is;
  },
)
refused text passed line rest revoked faults.NoMemory within at reports = within
