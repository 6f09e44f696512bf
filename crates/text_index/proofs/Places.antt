-- A map from numbers to postings, after a change at one of them.
use Rattle.std.proofs.Common.{◌≡◌, ℕ, List, [], ◌∷◌, ◌++◌, Bool, true, false, nat_eq, Option, Some, None, refl, sym, ap, subst, ◌∙◌, cond, arith, if◌then◌else◌}
use Rattle.std.specs.BTreeMap.{insert_entry, is_at}
use Rattle.std.specs.Global.{Vec}
use Rattle.std.specs.Map.{lookup, set_value}
use Rattle.std.specs.Ordering.{is_eq, match_ordering, nat_cmp}
use Rattle.std.specs.declared.cmp.Ordering.{Ordering}
use Rattle.std.specs.declared.cmp.Ordering.TheVariants.{Equal, Greater, Less}
use Rattle.std.proofs.lemmas.Bool.{eqb-true, false≢true}
use Rattle.std.proofs.lemmas.Bool.Decides.{nat_tests}
use Rattle.text_index.specs.NameIndex.{Puts, all_of, postings_at}
use Rattle.text_index.specs.declared.name_index.NameIndex.{NameIndex}
use Rattle.text_index.specs.declared.posting.Posting.{Posting}

abbrev Places : Type 0
Places = List (ℕ × Vec Posting)

-- the test by which a number is looked up
abbrev test : ℕ → ℕ → Bool
test key = is_at (nat_cmp key)

-- ---- tests of numbers

test_is : (a k : ℕ) → test a k ≡ nat_eq a k
test_is a k = grind (arith, nat_tests)

flipped : (a b : ℕ) → nat_eq a b ≡ nat_eq b a
flipped a b = grind (arith, nat_tests)

-- two tests that do not both pass may change places
exchanged : {A : Type 0} (a b : Bool) (x y z : A) → (a ≡ true → b ≡ true → ⊥) → cond a x (cond b y z) ≡ cond b y (cond a x z)
exchanged true true x y z not_both = absurd (not_both refl refl)
exchanged true false x y z not_both = refl
exchanged false true x y z not_both = refl
exchanged false false x y z not_both = refl

-- ---- a value that is set

-- the key is not there, where another key is that compares otherwise
apart : (key other k : ℕ) → test key k ≡ false → test other k ≡ true → nat_eq key other ≡ true → ⊥
apart key other k fails holds same =
    let is : key ≡ other = eqb-true key other same in
    false≢true (sym fails ∙ subst (λ (number : ℕ). test number k ≡ true) (sym is) holds)

pub found_set : (key other : ℕ) (v w : Vec Posting) (places : Places) → lookup (test key) places ≡ Some v
    → lookup (test other) (set_value (test key) places w) ≡ cond (nat_eq key other) (Some w) (lookup (test other) places)
found_set key other v w [] is = absurd (cc)
found_set key other v w (e ∷ es) is = by (test key e.0) refl is (λ later. found_set key other v w es later)
  where
    here : test key e.0 ≡ true → test other e.0 ≡ nat_eq key other
    here at =
        let same : key ≡ e.0 = eqb-true key e.0 (sym (test_is key e.0) ∙ at) in
        test_is other e.0 ∙ ap (nat_eq other) (sym same) ∙ flipped other key

    at_first : (x : Bool) → cond x (Some w) (lookup (test other) es) ≡ cond x (Some w) (cond x (Some e.1) (lookup (test other) es))
    at_first true = refl
    at_first false = refl

    by : (b : Bool) → test key e.0 ≡ b → cond b (Some e.1) (lookup (test key) es) ≡ Some v
        → (lookup (test key) es ≡ Some v → lookup (test other) (set_value (test key) es w) ≡ cond (nat_eq key other) (Some w) (lookup (test other) es))
        → lookup (test other) (cond b ((e.0, w) ∷ es) (e ∷ set_value (test key) es w))
        ≡ cond (nat_eq key other) (Some w) (cond (test other e.0) (Some e.1) (lookup (test other) es))
    by true at found step =
        subst (λ (x : Bool). cond (test other e.0) (Some w) (lookup (test other) es) ≡ cond x (Some w) (cond (test other e.0) (Some e.1) (lookup (test other) es))) (here at) (at_first (test other e.0))
    by false fails found step =
        ap (cond (test other e.0) (Some e.1)) (step found)
        ∙ exchanged (test other e.0) (nat_eq key other) (Some e.1) (Some w) (lookup (test other) es) (λ holds same. apart key other e.0 fails holds same)

-- ---- a value that is inserted

no_longer : (x : Bool) (v : Vec Posting) (rest : Option (Vec Posting)) → cond x (Some v) rest ≡ None → (x ≡ false) × (rest ≡ None)
no_longer true v rest none = absurd (cc)
no_longer false v rest none = (refl, none)

pub found_inserted : (key other : ℕ) (w : Vec Posting) (places : Places) → lookup (test key) places ≡ None
    → lookup (test other) (insert_entry nat_cmp places key w) ≡ cond (nat_eq key other) (Some w) (lookup (test other) places)
found_inserted key other w [] none = ap (λ (x : Bool). cond x (Some w) None) (test_is other key ∙ flipped other key)
found_inserted key other w (e ∷ es) none =
    let parts = no_longer (test key e.0) e.1 (lookup (test key) es) none in
    by (nat_cmp key e.0) refl parts.0 (found_inserted key other w es parts.1)
  where
    by : (o : Ordering) → nat_cmp key e.0 ≡ o → test key e.0 ≡ false
        → lookup (test other) (insert_entry nat_cmp es key w) ≡ cond (nat_eq key other) (Some w) (lookup (test other) es)
        → lookup (test other) (match_ordering o ((key, w) ∷ e ∷ es) ((e.0, w) ∷ es) (e ∷ insert_entry nat_cmp es key w))
        ≡ cond (nat_eq key other) (Some w) (cond (test other e.0) (Some e.1) (lookup (test other) es))
    by Less is fails step = ap (λ (x : Bool). cond x (Some w) (cond (test other e.0) (Some e.1) (lookup (test other) es))) (test_is other key ∙ flipped other key)
    by Equal is fails step = absurd (false≢true (sym fails ∙ ap is_eq is))
    by Greater is fails step =
        ap (cond (test other e.0) (Some e.1)) step
        ∙ exchanged (test other e.0) (nat_eq key other) (Some e.1) (Some w) (lookup (test other) es) (λ holds same. apart key other e.0 fails holds same)

-- ---- what is under a key

-- one more posting, as the look-ups give it
pub put_after : (key other : ℕ) (posting : Posting) (w : Vec Posting) (before at_key : Option (Vec Posting))
    → (key ≡ other → before ≡ at_key) → w.items ≡ all_of at_key ++ posting ∷ []
    → all_of (cond (nat_eq key other) (Some w) before) ≡ (if nat_eq key other then all_of before ++ posting ∷ [] else all_of before)
put_after key other posting w before at_key same is = by (nat_eq key other) refl
  where
    by : (x : Bool) → nat_eq key other ≡ x → all_of (cond x (Some w) before) ≡ (if x then all_of before ++ posting ∷ [] else all_of before)
    by true at = is ∙ ap (λ (o : Option (Vec Posting)). all_of o ++ posting ∷ []) (sym (same (eqb-true key other at)))
    by false fails = refl

-- A posting is put behind others.
pub puts_set : (key : ℕ) (posting : Posting) (old new : NameIndex) (v w : Vec Posting) → lookup (test key) old.entries ≡ Some v
    → new.entries ≡ set_value (test key) old.entries w → w.items ≡ v.items ++ posting ∷ [] → Puts key posting old new
unfolding postings_at
puts_set key posting old new v w found set is = record {
  at_each = λ other.
      ap all_of (ap (lookup (test other)) set ∙ found_set key other v w old.entries found)
      ∙ put_after key other posting w (lookup (test other) old.entries) (Some v)
      (λ same. ap (λ (number : ℕ). lookup (test number) old.entries) (sym same) ∙ found) is;
}

-- A posting is the first one under its key.
pub puts_inserted : (key : ℕ) (posting : Posting) (old new : NameIndex) (w : Vec Posting) → lookup (test key) old.entries ≡ None
    → new.entries ≡ insert_entry nat_cmp old.entries key w → w.items ≡ posting ∷ [] → Puts key posting old new
unfolding postings_at
puts_inserted key posting old new w none inserted is = record {
  at_each = λ other.
      ap all_of (ap (lookup (test other)) inserted ∙ found_inserted key other w old.entries none)
      ∙ put_after key other posting w (lookup (test other) old.entries) None
      (λ same. ap (λ (number : ℕ). lookup (test number) old.entries) (sym same) ∙ none) is;
}
