-- The values of options that are read, and those of standard input among them.
use Rattle.std.proofs.Common.{◌≡◌, ◌∙◌, ◌<◌, ◌+◌, ℕ, suc, Bool, true, false, List, [], ◌∷◌, ◌++◌, Bor, map, take, get_or, length, filter, refl, sym, ap, ap₂}
use Rattle.std.specs.List.{flat_map}
use Rattle.std.proofs.lemmas.List.{append-nil, map-append, take_more}
use Rattle.std.proofs.lemmas.Grind.{flat_map-append}
use Rattle.clap.specs.Walk.{Row}
use Rattle.option_table.specs.Value.{values_in}

abbrev pub texts : List (Bor (List ℕ)) → List (List ℕ)
texts names = map (λ name. name.now) names

abbrev pub values_of : List Row → List (List ℕ) → List (List ℕ)
values_of rows options = flat_map (λ option. values_in option rows) options

-- as many names pass a test as of those that the program has
pub same_count : (test : List ℕ → Bool) (names : List (Bor (List ℕ))) → length (filter (λ name. test name.now) names) ≡ length (filter test (texts names))
same_count test [] = refl
same_count test (name ∷ names) = by_test (test name.now) refl (same_count test names)
  where
    by_test : (is : Bool) → test name.now ≡ is → length (filter (λ one. test one.now) names) ≡ length (filter test (texts names)) → length (filter (λ one. test one.now) (name ∷ names)) ≡ length (filter test (texts (name ∷ names)))
    by_test true is more = rw (is) (ap suc more)
    by_test false is more = rw (is) more

-- the values of one more option
pub more_names : (rows : List Row) (options : List (Bor (List ℕ))) (i : ℕ) (d : Bor (List ℕ)) (was now more : List (Bor (List ℕ))) → i < length options → texts was ≡ values_of rows (texts (take i options)) → now ≡ was ++ more → texts more ≡ values_in (get_or options i d).now rows → texts now ≡ values_of rows (texts (take (i + 1) options))
more_names rows options i d was now more in_range so_far is found =
    let f : List ℕ → List (List ℕ) = λ option. values_in option rows in
    let front = texts (take i options) in
    let option = get_or options i d in
    let next : texts (take (i + 1) options) ≡ front ++ option.now ∷ [] =
    ap texts (take_more options i d in_range) ∙ map-append (λ name. name.now) (take i options) (option ∷ []) in
    let one : flat_map f (option.now ∷ []) ≡ texts more = append-nil (f option.now) ∙ sym found in
    ap texts is ∙ map-append (λ name. name.now) was more ∙ ap₂ (λ xs ys. xs ++ ys) so_far (sym one)
    ∙ sym (flat_map-append f front (option.now ∷ [])) ∙ sym (ap (values_of rows) next)
