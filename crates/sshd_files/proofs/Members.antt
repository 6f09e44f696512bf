-- No file of the settings is missed.
use Rattle.std.proofs.Common.{◌≡◌, ℕ, Bool, List, [], ◌∷◌, Ok, Some, None, Option, ◌⊎◌, inl, inr, zero, suc}
use Rattle.std.proofs.Common.{ap, arith, map, subst, sym}
use Rattle.std.proofs.lemmas.List.Elements.{Contains-append_left, Contains-append_right}
use Rattle.std.specs.List.{Contains, flat_map}
use Rattle.sshd_files.specs.declared.files.SshdFileKind.TheVariants.{Keys}
use Rattle.sshd_files.specs.Files.{File, all_files, distinct, file, files_at, files_in, files_unless, host_files}
use Rattle.sshd_files.specs.Files.{unknown_word, user_files, users_files}
use Rattle.sshd_files.specs.Pattern.{path_of, patterns_of}
use Rattle.sshd_files.specs.Settings.{Configuration}
use Rattle.sshd_files.specs.Users.{Account}
use Rattle.sshd_files.proofs.Distinct.{distinct_members}

contains_cases : {X : Type 0} (x y : X) (xs : List X) → Contains (x ∷ xs) y → (x ≡ y) ⊎ Contains xs y
contains_cases x y xs (zero, h, e) = inl e
contains_cases x y xs (suc k, h, e) = inr (k, omega arith, e)

contains_later : {X : Type 0} (x y : X) (xs : List X) → Contains xs y → Contains (x ∷ xs) y
contains_later x y xs (k, h, e) = (suc k, omega arith, e)

contains_none : {X : Type 0} (y : X) → Contains [] y → ⊥
contains_none y (k, h, e) = omega arith

in_flat_map : {X Y : Type 0} (f : X → List Y) (xs : List X) (x : X) (y : Y) → Contains xs x → Contains (f x) y
    → Contains (flat_map f xs) y
in_flat_map f [] x y there is = absurd (contains_none x there)
in_flat_map f (z ∷ xs) x y there is = elim (contains_cases z x xs there) [
  | inl here ↦ Contains-append_left (f z) (flat_map f xs) y (subst (λ (w : _). Contains (f w) y) (sym here) is)
  | inr later ↦ Contains-append_right (f z) (flat_map f xs) y (in_flat_map f xs x y later is)
]

in_map : {X Y : Type 0} (f : X → Y) (xs : List X) (x : X) → Contains xs x → Contains (map f xs) (f x)
in_map f [] x there = absurd (contains_none x there)
in_map f (z ∷ xs) x there = elim (contains_cases z x xs there) [
  | inl here ↦ (zero, omega arith, ap f here)
  | inr later ↦ contains_later (f z) (f x) (map f xs) (in_map f xs x later)
]

listed : (settings : List Configuration) (users : List Account) (asked : Bool) (files : List File)
    → files_at settings users asked ≡ Ok files → files ≡ distinct (all_files settings users asked)
unfolding files_at
listed settings users asked files is = by (unknown_word settings) is
  where
    by : (unknown : Option (List ℕ)) → files_unless unknown (distinct (all_files settings users asked)) ≡ Ok files
        → files ≡ distinct (all_files settings users asked)
    by None e = cc
    by (Some word) e = absurd cc

has : (settings : List Configuration) (users : List Account) (asked : Bool) (files : List File)
    → files_at settings users asked ≡ Ok files → (one : Configuration) (other : File) → Contains settings one
    → Contains (files_in users asked one) other → Contains files other
unfolding all_files
has settings users asked files is one other there in_one =
    subst (λ (xs : List File). Contains xs other) (sym (listed settings users asked files is))
    ((distinct_members (all_files settings users asked) other).1
    (in_flat_map (files_in users asked) settings one other there in_one))

pub users_not_missed : (settings : List Configuration) (users : List Account) (asked : Bool) (files : List File)
    → files_at settings users asked ≡ Ok files → (one : Configuration) (user : Account) (word : List ℕ)
    → Contains settings one → Contains users user → Contains (patterns_of one.files) word
    → Contains files (file Keys (path_of user word))
unfolding files_in
users_not_missed settings users asked files is one user word there known given =
    let patterns : List (List ℕ) = patterns_of one.files in
    let path : File = file Keys (path_of user word) in
    has settings users asked files is one path there
    (Contains-append_left (users_files patterns users) (host_files one asked) path
    (in_flat_map (user_files patterns) users user path known
    (in_map (λ word. file Keys (path_of user word)) patterns word given)))

pub hosts_not_missed : (settings : List Configuration) (users : List Account) (asked : Bool) (files : List File)
    → files_at settings users asked ≡ Ok files → (one : Configuration) (other : File) → Contains settings one
    → Contains (host_files one asked) other → Contains files other
unfolding files_in
hosts_not_missed settings users asked files is one other there given =
    has settings users asked files is one other there
    (Contains-append_right (users_files (patterns_of one.files) users) (host_files one asked) other given)
