-- The names of a directory, one after another.
use Rattle.std.proofs.Common.{◌≡◌, ◌∙◌, ap, refl, subst, sym, true, false, ℕ, ◌+◌, ◌≤◌, Bool, List, [], ◌∷◌, ◌++◌, arith, inl, inr}
use Rattle.std.proofs.Common.{IsPermutation, IsSorted, IfSome, append-nil, length, take}
use Rattle.std.proofs.KnownBytes.{Consumes-whole}
use Rattle.std.proofs.lemmas.Bool.{cases_lt}
use Rattle.std.proofs.Math.Nat.{min-eq_left, min-eq_right}
use Rattle.std.specs.Cmp.Lexicographic.{slice_cmp}
use Rattle.std.specs.Global.{Vec}
use Rattle.std.specs.Io.KnownBytes.{IsAtEnd}
use Rattle.std.specs.Ordering.{nat_cmp}
use Rattle.audit_run.specs.Fact.{Fact}
use Rattle.audit_run.specs.Names.{AreFound, AreWanted, AreWantedInOrder, IsWanted, capped, left_out, no_name, passed_over, taken}
use Rattle.audit_run.specs.ZeroEnded.{Gives, Unread}
use Rattle.audit_run.specs.declared.names.Listing.{Listing}
use Rattle.audit_run.proofs.ZeroEnded.{whole_name}

wanted_then : (K : Fact → Type 0) (every : Bool) (path : List ℕ) (names more : List (List ℕ)) (wanted found : List (Vec ℕ))
    (count others : ℕ) → AreWanted K every path names wanted count → AreWanted K every path more found others
    → AreWanted K every path (names ++ more) (wanted ++ found) (count + others)
wanted_then K every path _ more _ found _ others no_name are =
    let sum : others ≡ 0 + others = omega arith in
    subst (λ (n : ℕ). AreWanted K every path more found n) sum are
wanted_then K every path _ more _ found _ others (taken name names wanted count is was) are =
    taken name (names ++ more) (wanted ++ found) (count + others) is
    (wanted_then K every path names more wanted found count others was are)
wanted_then K every path _ more _ found _ others (left_out name names wanted count is was) are =
    let sum : count + others + passed_over name ≡ count + passed_over name + others = omega arith in
    subst (λ (n : ℕ). AreWanted K every path (name ∷ (names ++ more)) (wanted ++ found) n) sum
    (left_out name (names ++ more) (wanted ++ found) (count + others) is
    (wanted_then K every path names more wanted found count others was are))

capped_twice : (before passed : ℕ) → capped (capped before + passed) ≡ capped (before + passed)
capped_twice before passed =
    elim (cases_lt 18446744073709551615 before) [
      | inr fits ↦ rw (min-eq_left fits) refl
      | inl above ↦
          let most : 18446744073709551615 ≤ before = omega (arith, above) in
          let one : 18446744073709551615 ≤ 18446744073709551615 + passed = omega arith in
          let all : 18446744073709551615 ≤ before + passed = omega (arith, most) in
          rw (min-eq_right most, min-eq_right one, min-eq_right all) refl
    ]

pub found_taken : (K : Fact → Type 0) (every : Bool) (path : List ℕ) (names : List (List ℕ)) (name : Vec ℕ) (old new : Listing)
    → AreFound K every path names old → IsWanted K every path true name.items → new.names.items ≡ old.names.items ++ name ∷ []
    → new.skipped ≡ old.skipped → AreFound K every path (names ++ name.items ∷ []) new
found_taken K every path names name old new was is grown same = record {
  count = was.count + 0;
  are_wanted = rw grown (wanted_then K every path names (name.items ∷ []) old.names.items (name ∷ []) was.count 0 was.are_wanted
      (taken name [] [] 0 is no_name));
  skipped_is = same ∙ was.skipped_is ∙ ap (λ (n : ℕ). capped n) (omega arith);
}

pub found_left : (K : Fact → Type 0) (every : Bool) (path : List ℕ) (names : List (List ℕ)) (name : List ℕ) (old new : Listing)
    → AreFound K every path names old → IsWanted K every path false name → new.names.items ≡ old.names.items
    → new.skipped ≡ capped (old.skipped + passed_over name) → AreFound K every path (names ++ name ∷ []) new
found_left K every path names name old new was is same grown =
    let row : AreWanted K every path (names ++ name ∷ []) (old.names.items ++ []) (was.count + (0 + passed_over name)) =
    wanted_then K every path names (name ∷ []) old.names.items [] was.count (0 + passed_over name) was.are_wanted
    (left_out name [] [] 0 is no_name) in
    let all : old.names.items ++ [] ≡ new.names.items = append-nil old.names.items ∙ sym same in
    let sum : 0 + passed_over name ≡ passed_over name = omega arith in
    record {
      count = was.count + passed_over name;
      are_wanted = rw (all, sum) at row;
      skipped_is = grown ∙ ap (λ (n : ℕ). capped (n + passed_over name)) was.skipped_is ∙ capped_twice was.count (passed_over name);
    }

-- no name is so long that only its front is kept
pub found_whole : (K : Fact → Type 0) (every : Bool) (path : List ℕ) (names : List (List ℕ)) (name : Vec ℕ) (full : List ℕ)
    (found : Listing) → name.items ≡ take (18446744073709551615 + 1) full → AreFound K every path (names ++ name.items ∷ []) found
    → AreFound K every path (names ++ full ∷ []) found
found_whole K every path names name full found is are =
    let fits : length name.items ≤ 18446744073709551615 = omega (arith, name.ok.0, name.ok.1, name.small) in
    let same = whole_name 18446744073709551615 name.items full is fits in
    subst (λ (n : List ℕ). AreFound K every path (names ++ n ∷ []) found) same are

-- no more bytes come
pub all_found : (K : Fact → Type 0) (every : Bool) (path : List ℕ) (begun now : Unread) (names : List (List ℕ)) (front : List ℕ)
    (found : Listing) (sorted : List (Vec ℕ)) → Gives begun now names front → IsAtEnd now.left → AreFound K every path names found
    → IsPermutation found.names.items sorted → IsSorted (λ (x y : Vec ℕ). slice_cmp nat_cmp x.items y.items) sorted
    → IfSome begun.left (λ bytes. AreWantedInOrder K every path bytes sorted found.skipped)
all_found K every path begun now names front found sorted gives end are same ordered =
    Consumes-whole begun.left now.left gives.came (λ bytes. AreWantedInOrder K every path bytes sorted found.skipped)
    gives.comes.consumed end (record {
      wanted = found.names.items;
      count = are.count;
      are_wanted = rw gives.names_are are.are_wanted;
      same = same;
      ordered = ordered;
      skipped_is = are.skipped_is;
    })
