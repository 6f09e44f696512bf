-- The count of serial numbers is exact below 2^128.
use Rattle.std.proofs.Common.{◌≡◌, ◌∙◌, ◌≤◌, ◌<◌, ◌+◌, ◌-◌, ◌*◌, ◌^◌, ℕ, List, [], ◌∷◌, length, ap, arith}
use Rattle.std.specs.List.{AllByRecursion}
use Rattle.std.proofs.Math.Nat.{min-eq_left}
use Rattle.list_text.specs.Counts.{counted, counted_all, plus_serials, serials_in, serials_of}
use Rattle.krl_entries.specs.Facts.{AuthorityFact, ItemFact, SerialsFact}
use Rattle.krl_types.specs.declared.item_kind.ItemKind.TheVariants as kinds
use Rattle.list_text.specs.Facts.{Fact, HeldFact, ListFact}
use Rattle.list_text.specs.declared.counts.Counts.{Counts}

one_more : (count more : ℕ) → count + more + 1 < 2 ^ 128 → plus_serials (plus_serials count more) 1 ≡ count + (more + 1)
one_more count more fits =
    let first : plus_serials count more ≡ count + more = min-eq_left (omega (arith, fits)) in
    let second : plus_serials (count + more) 1 ≡ count + more + 1 = min-eq_left (omega (arith, fits)) in
    ap (λ (n : ℕ). plus_serials n 1) first ∙ second ∙ omega arith

pub exact_from : (counts : Counts) (facts : List Fact) → counts.serials + length facts * 2 ^ 64 < 2 ^ 128 → AllByRecursion (λ fact. serials_in fact ≤ 2 ^ 64) facts
    → (counted_all counts facts).serials ≡ counts.serials + serials_of facts
exact_from counts [] room small = omega arith
exact_from counts (ListFact name header ∷ facts) room small = exact_from (counted counts (ListFact name header)) facts (omega (arith, room)) small.1 ∙ omega arith
exact_from counts (HeldFact (AuthorityFact authority) ∷ facts) room small = exact_from (counted counts (HeldFact (AuthorityFact authority))) facts (omega (arith, room)) small.1 ∙ omega arith
exact_from counts (HeldFact (SerialsFact authority span) ∷ facts) room small =
    let size = span.hi - span.lo in
    let now : plus_serials (plus_serials counts.serials size) 1 ≡ counts.serials + (size + 1) = one_more counts.serials size (omega (arith, room, small.0)) in
    let later = exact_from (counted counts (HeldFact (SerialsFact authority span))) facts (omega (arith, now, room, small.0)) small.1 in
    later ∙ omega (arith, now)
exact_from counts (HeldFact (ItemFact kinds.Id authority id) ∷ facts) room small = exact_from (counted counts (HeldFact (ItemFact kinds.Id authority id))) facts (omega (arith, room)) small.1 ∙ omega arith
exact_from counts (HeldFact (ItemFact kinds.Key authority blob) ∷ facts) room small = exact_from (counted counts (HeldFact (ItemFact kinds.Key authority blob))) facts (omega (arith, room)) small.1 ∙ omega arith
exact_from counts (HeldFact (ItemFact kinds.Sha1 authority hash) ∷ facts) room small = exact_from (counted counts (HeldFact (ItemFact kinds.Sha1 authority hash))) facts (omega (arith, room)) small.1 ∙ omega arith
exact_from counts (HeldFact (ItemFact kinds.Sha256 authority hash) ∷ facts) room small = exact_from (counted counts (HeldFact (ItemFact kinds.Sha256 authority hash))) facts (omega (arith, room)) small.1 ∙ omega arith
