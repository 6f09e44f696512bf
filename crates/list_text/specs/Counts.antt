-- How many facts were printed.
use Rattle.std.specs.Prelude.{ℕ, ◌+◌, ◌-◌, ◌^◌, List, [], ◌∷◌, min}
use Rattle.list_text.specs.declared.counts.Counts.{Counts}
use Rattle.list_text.specs.Facts.{Fact, ListFact, HeldFact}
use Rattle.krl_entries.specs.Facts.{AuthorityFact, SerialsFact, ItemFact}
use Rattle.krl_types.specs.declared.item_kind.ItemKind.TheVariants as kinds

abbrev pub nothing_counted : Counts
nothing_counted = record {
  lists = 0;
  authorities = 0;
  entries = 0;
  serials = 0;
  ids = 0;
  keys = 0;
  hashes = 0;
}

-- this many more, but at most 2^64-1
abbrev pub plus : (count more : ℕ) → ℕ
plus count more = min (count + more) (2 ^ 64 - 1)

-- this many more serial numbers, but at most 2^128-1
abbrev pub plus_serials : (count more : ℕ) → ℕ
plus_serials count more = min (count + more) (2 ^ 128 - 1)

-- one more entry: one line of the text, whose span or name is counted too
abbrev pub and_entry : Counts → Counts
and_entry counts = record counts { entries = plus counts.entries 1 }

-- the counts after one more fact; a span counts as its serial numbers
abbrev pub counted : Counts → Fact → Counts
counted counts (ListFact name header) = record counts { lists = plus counts.lists 1 }
counted counts (HeldFact (AuthorityFact authority)) =
    record counts { authorities = plus counts.authorities 1 }
counted counts (HeldFact (SerialsFact authority span)) =
    record (and_entry counts) {
      serials = plus_serials (plus_serials counts.serials (span.hi - span.lo)) 1;
    }
counted counts (HeldFact (ItemFact kinds.Id authority id)) =
    record (and_entry counts) { ids = plus counts.ids 1 }
counted counts (HeldFact (ItemFact kinds.Key authority blob)) =
    record (and_entry counts) { keys = plus counts.keys 1 }
counted counts (HeldFact (ItemFact kinds.Sha1 authority hash)) =
    record (and_entry counts) { hashes = plus counts.hashes 1 }
counted counts (HeldFact (ItemFact kinds.Sha256 authority hash)) =
    record (and_entry counts) { hashes = plus counts.hashes 1 }

-- how many serial numbers a fact has, and how many all facts have
abbrev pub serials_in : Fact → ℕ
serials_in (ListFact name header) = 0
serials_in (HeldFact (AuthorityFact authority)) = 0
serials_in (HeldFact (SerialsFact authority span)) = span.hi - span.lo + 1
serials_in (HeldFact (ItemFact kind authority bytes)) = 0

abbrev pub serials_of : List Fact → ℕ
serials_of [] = 0
serials_of (fact ∷ facts) = serials_in fact + serials_of facts

abbrev pub counted_all : Counts → List Fact → Counts
counted_all counts [] = counts
counted_all counts (fact ∷ facts) = counted_all (counted counts fact) facts
