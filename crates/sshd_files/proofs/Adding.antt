-- Files are added one after another.
use Rattle.std.proofs.Common.{◌≡◌, ◌∙◌, ℕ, ◌+◌, ◌<◌, ◌≤◌, ◌||◌, true, false, List, [], ◌∷◌, ◌++◌, ap, sym, refl, drop}
use Rattle.std.proofs.Common.{get_or, length, map}
use Rattle.std.proofs.lemmas.List.{at_drop_all, at_drop_more}
use Rattle.std.specs.BTreeSet.{insert_key}
use Rattle.std.specs.declared.cmp.Ordering.{Ordering}
use Rattle.std.specs.declared.cmp.Ordering.TheVariants.{Less, Equal, Greater}
use Rattle.std.specs.List.{flat_map, list_any}
use Rattle.std.specs.Ordering.{eq_by_cmp, match_ordering}
use Rattle.sshd_files.specs.Files.{File, Listed, added, all_added, bytes_cmp, key_of}

pub append : (listed : Listed) (xs ys : List File)
    → all_added listed (xs ++ ys) ≡ all_added (all_added listed xs) ys
unfolding all_added
append listed [] ys = refl
append listed (x ∷ xs) ys = append (added listed x) xs ys

pub none_added : (listed : Listed) → all_added listed [] ≡ listed
unfolding all_added
none_added listed = refl

-- ---- the files of each of a list

module _ {X Y : Type 0} (v : X → Y) (f : Y → List File) where
  pub added_more : (listed new : Listed) (xs : List X) (i : ℕ) (x : X) → i < length xs → x ≡ get_or xs i x
      → new ≡ all_added listed (f (v x))
      → all_added listed (flat_map f (map v (drop i xs))) ≡ all_added new (flat_map f (map v (drop (i + 1) xs)))
  added_more listed new xs i x lt is e =
      let rest : List File = flat_map f (map v (drop (i + 1) xs)) in
      ap (all_added listed) (at_drop_more (λ (ys : List X). flat_map f (map v ys)) xs i x lt)
      ∙ append listed (f (v (get_or xs i x))) rest
      ∙ ap (λ (l : Listed). all_added l rest) (ap (λ (y : X). all_added listed (f (v y))) (sym is) ∙ sym e)

  pub added_all : (listed : Listed) (xs : List X) (i : ℕ) → length xs ≤ i
      → all_added listed (flat_map f (map v (drop i xs))) ≡ listed
  added_all listed xs i le =
      ap (all_added listed) (at_drop_all (λ (ys : List X). flat_map f (map v ys)) xs i le) ∙ none_added listed

-- ---- the set of keys, whose keys are read as bytes

module _ {K : Type 0} (read : K → List ℕ) where
  abbrev pub by_read : K → K → Ordering
  by_read x y = bytes_cmp (read x) (read y)

  read_insert : (ks : List K) (k : K) → map read (insert_key by_read ks k) ≡ insert_key bytes_cmp (map read ks) (read k)
  read_insert [] k = refl
  read_insert (x ∷ ks) k = by (bytes_cmp (read k) (read x)) (read_insert ks k)
    where
      by : (o : Ordering) → map read (insert_key by_read ks k) ≡ insert_key bytes_cmp (map read ks) (read k)
          → map read (match_ordering o (k ∷ x ∷ ks) (x ∷ ks) (x ∷ insert_key by_read ks k))
          ≡ match_ordering o (read k ∷ read x ∷ map read ks) (read x ∷ map read ks)
          (read x ∷ insert_key bytes_cmp (map read ks) (read k))
      by Less h = refl
      by Equal h = refl
      by Greater h = ap (λ l. read x ∷ l) h

  read_any : (k : K) (ks : List K)
      → list_any (eq_by_cmp by_read k) ks ≡ list_any (eq_by_cmp bytes_cmp (read k)) (map read ks)
  read_any k [] = refl
  read_any k (x ∷ ks) = ap (λ b. eq_by_cmp bytes_cmp (read k) (read x) || b) (read_any k ks)

  -- a file that is not there
  pub added_new : (files now : List File) (old new : List K) (k : K) (one : File) → read k ≡ key_of one
      → list_any (eq_by_cmp by_read k) old ≡ false → new ≡ insert_key by_read old k → now ≡ files ++ one ∷ []
      → record { files = now; keys = map read new } ≡ added (record { files = files; keys = map read old }) one
  unfolding added
  added_new files now old new k one is none keys more =
      let absent : list_any (eq_by_cmp bytes_cmp (key_of one)) (map read old) ≡ false =
      ap (λ (q : List ℕ). list_any (eq_by_cmp bytes_cmp q) (map read old)) (sym is) ∙ sym (read_any k old) ∙ none in
      rw absent (same more (ap (map read) keys ∙ read_insert old k ∙ ap (insert_key bytes_cmp (map read old)) is))
    where
      same : {a b : List File} {c d : List (List ℕ)} → a ≡ b → c ≡ d
          → ◌≡◌ {A = Listed} (record { files = a; keys = c }) (record { files = b; keys = d })
      same p q = cc

  -- a file that is there
  pub added_again : (files : List File) (old new : List K) (k : K) (one : File) → read k ≡ key_of one
      → list_any (eq_by_cmp by_read k) old ≡ true → new ≡ old
      → record { files = files; keys = map read new } ≡ added (record { files = files; keys = map read old }) one
  unfolding added
  added_again files old new k one is some same =
      let there : list_any (eq_by_cmp bytes_cmp (key_of one)) (map read old) ≡ true =
      ap (λ (q : List ℕ). list_any (eq_by_cmp bytes_cmp q) (map read old)) (sym is) ∙ sym (read_any k old) ∙ some in
      rw there (ap (λ (ks : List K). record { files = files; keys = map read ks }) same)
