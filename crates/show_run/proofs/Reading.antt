-- Lists that were read, one after the other.
use Rattle.std.specs.Borrow.{Bor}
use Rattle.show_run.proofs.Common.{[], ◌++◌, ◌+◌, ◌<◌, ◌∷◌, ◌≡◌, add-one, ap, drop, drop-cons}
use Rattle.show_run.proofs.Common.{get_or, length, List, refl, RunFault, sym, take, take_more, ◌∙◌, ℕ}
use Rattle.std.proofs.Common.{take-append-drop}
use Rattle.any_list.specs.List.{IsGiven}
use Rattle.any_list.specs.Told.{Reading}
use Rattle.any_list.specs.declared.list.List.{List as ListOf}
use Rattle.show_run.specs.Lists.{AreGiven, IsLast, StopsReading}

-- one more list
given_last : (told : List Reading) (one : Reading) (names : List (Bor (List ℕ))) (name : Bor (List ℕ)) (lists : List ListOf) (list : ListOf) (bytes : List ℕ)
    → AreGiven told names lists → IsGiven (one ∷ []) name.now bytes list → AreGiven (told ++ one ∷ []) (names ++ name ∷ []) (lists ++ list ∷ [])
given_last [] one [] name [] list bytes are is = ((bytes, is), tt)
given_last (first ∷ told) one (other ∷ names) name (before ∷ lists) list bytes are is = (are.0, given_last told one names name lists list bytes are.1 is)
given_last told one names name lists list bytes are is = absurd are

pub given_more : (told one : List Reading) (names : List (Bor (List ℕ))) (i : ℕ) (d : Bor (List ℕ)) (lists more : List ListOf) (list : ListOf) (bytes : List ℕ) → i < length names
    → more ≡ lists ++ list ∷ [] → AreGiven told (take i names) lists → IsGiven one (get_or names i d).now bytes list → AreGiven (told ++ one) (take (i + 1) names) more
given_more told one names i d lists more list bytes lt also are is =
    rw (take_more names i d lt, also, is.told_is) (given_last told _ (take i names) (get_or names i d) lists list bytes are (rw is.told_is at is))

-- a list after those that were read
pub stops_next : (told last : List Reading) (names : List (Bor (List ℕ))) (i : ℕ) (d : Bor (List ℕ)) (lists : List ListOf) (stop : RunFault) → i < length names
    → AreGiven told (take i names) lists → IsLast last (get_or names i d).now stop → StopsReading (told ++ last) names stop
stops_next told last names i d lists stop lt are is =
    let here : drop i names ≡ get_or names i d ∷ drop (i + 1) names = rw add-one (drop-cons names i d lt) in
    record {
      before = take i names;
      name = get_or names i d;
      after = drop (i + 1) names;
      names_are = sym (take-append-drop i names) ∙ ap (λ (xs : List (Bor (List ℕ))). take i names ++ xs) here;
      lists = lists;
      first = told;
      last = last;
      told_is = refl;
      are_given = are;
      is_last = is;
    }
