-- A walk holds nothing of an argument that it does not use.
use Rattle.std.proofs.Common.{◌≡◌, ◌||◌, ◌+◌, ◌++◌, ◌∷◌, [], ℕ, Bool, true, false, cond, refl, sym, subst, List, None, Option, Some}
use Rattle.std.specs.Prelude.{find, min}
use Rattle.std.specs.Option.{option_map_or}
use Rattle.std.specs.Str.{bytes_eq}
use Rattle.std.proofs.lemmas.Bool.{or_from, or_parts}
use Rattle.std.proofs.lemmas.Slice.Eq.{bytes_eq-Decides}
use Rattle.clap.specs.Walk.{Held, Row, Rule, Text, action_of, arg_by_id, at_row, count_of, default_rows, has_row, more_values, new_count, reacted, reading_by, settled, settled_rows, used_as, used_by_id, values_or_missing, with_count, with_default, with_values, without}
use Rattle.clap.specs.declared.parser.matches.ValueSource.{ValueSource}
use Rattle.clap.specs.declared.parser.matches.ValueSource.TheVariants.{CommandLine, DefaultValue}
use Rattle.clap.specs.declared.builder.value_parser.Reading.{Reading}
use Rattle.clap.specs.declared.builder.action.ArgAction.{ArgAction}
use Rattle.clap.specs.declared.builder.action.ArgAction.TheVariants.{Append, Count, Set, SetFalse, SetTrue}

-- there is a row of the argument, or its values are being read
abbrev pub is_pending_for : Text → Option (Text × List Text) → Bool
is_pending_for id pending = option_map_or (λ p. bytes_eq p.0 id) pending false

abbrev pub holds : Text → Held → Bool
holds id h = has_row id h.rows || is_pending_for id h.pending

append_none : (id : Text) (rs ss : List Row) → has_row id rs ≡ false → has_row id ss ≡ false → has_row id (rs ++ ss) ≡ false
append_none id [] ss a b = b
append_none id (r ∷ rs) ss a b =
    let p = or_parts (bytes_eq r.id id) (has_row id rs) a in
    or_from (bytes_eq r.id id) (has_row id (rs ++ ss)) p.0 (append_none id rs ss p.1 b)

at_row_none : (id other : Text) (change : Row → List Row) (missing : List Row) → ((r : Row) → bytes_eq r.id id ≡ false → has_row id (change r) ≡ false) → has_row id missing ≡ false
    → (rows : List Row) → has_row id rows ≡ false → has_row id (at_row other change missing rows) ≡ false
at_row_none id other change missing kept none [] is = none
at_row_none id other change missing kept none (r ∷ rs) is =
    let parts = or_parts (bytes_eq r.id id) (has_row id rs) is in
    go parts.0 parts.1 (at_row_none id other change missing kept none rs parts.1) (bytes_eq r.id other)
  where
    go : bytes_eq r.id id ≡ false → has_row id rs ≡ false → has_row id (at_row other change missing rs) ≡ false → (b : Bool) → has_row id (cond b (change r ++ rs) (r ∷ at_row other change missing rs)) ≡ false
    go first later changed true = append_none id (change r) rs (kept r first) later
    go first later changed false = or_from (bytes_eq r.id id) (has_row id (at_row other change missing rs)) first changed

without_none : (id other : Text) (rows : List Row) → has_row id rows ≡ false → has_row id (without other rows) ≡ false
without_none id other rows is = at_row_none id other (λ _. []) [] (λ r differs. refl) refl rows is

values_none : (id other : Text) (how : Reading) (s : ValueSource) (values : List Text) (rows : List Row) → bytes_eq other id ≡ false → has_row id rows ≡ false → has_row id (with_values other how s values rows) ≡ false
values_none id other how s values rows differs is = at_row_none id other (more_values s values) _ (λ r not. or_from (bytes_eq r.id id) false not refl) (or_from (bytes_eq other id) false differs refl) rows is

count_none : (id other : Text) (how : Reading) (s : ValueSource) (n : ℕ) (rows : List Row) → bytes_eq other id ≡ false → has_row id rows ≡ false → has_row id (with_count other how s n rows) ≡ false
count_none id other how s n rows differs is = at_row_none id other (new_count s n) _ (λ r not. or_from (bytes_eq r.id id) false not refl) (or_from (bytes_eq other id) false differs refl) rows is

used_as_none : (id : Text) (action : ArgAction) (other : Text) (how : Reading) (values : List Text) (rows : List Row) → bytes_eq other id ≡ false → has_row id rows ≡ false → has_row id (used_as action other how values rows) ≡ false
used_as_none id Set other how values rows differs is = values_none id other how CommandLine values (without other rows) differs (without_none id other rows is)
used_as_none id SetTrue other how values rows differs is = values_none id other how CommandLine values (without other rows) differs (without_none id other rows is)
used_as_none id SetFalse other how values rows differs is = values_none id other how CommandLine values (without other rows) differs (without_none id other rows is)
used_as_none id Append other how values rows differs is = values_none id other how CommandLine values rows differs is
used_as_none id Count other how [] rows differs is = count_none id other how CommandLine (min (count_of other rows + 1) 255) (without other rows) differs (without_none id other rows is)
used_as_none id Count other how (v ∷ vs) rows differs is = values_none id other how CommandLine (v ∷ vs) (without other rows) differs (without_none id other rows is)
used_as_none id _ other how values rows differs is = is

found_passes : {X : Type 0} (p : X → Bool) (xs : List X) (x : X) → find p xs ≡ Some x → p x ≡ true
found_passes p [] x is = absurd (cc is)
found_passes {X} p (y ∷ ys) x is = go (found_passes p ys x) (p y) refl is
  where
    go : (find p ys ≡ Some x → p x ≡ true) → (b : Bool) → p y ≡ b → cond b (Some y) (find p ys) ≡ Some x → p x ≡ true
    go later true passes is = let same : y ≡ x = cc is in subst (λ (z : X). p z ≡ true) same passes
    go later false fails is = later is

pub settled_rows_none : (c : List Rule) (id : Text) (pending : Option (Text × List Text)) (rows : List Row) → has_row id rows ≡ false → is_pending_for id pending ≡ false → has_row id (settled_rows c pending rows) ≡ false
settled_rows_none c id None rows is differs = is
settled_rows_none c id (Some p) rows is differs = go (arg_by_id c p.0) refl
  where
    go : (found : Option Rule) → arg_by_id c p.0 ≡ found → has_row id (used_by_id found p.1 rows) ≡ false
    go None none = is
    go (Some a) some =
        let same : a.id ≡ p.0 = (bytes_eq-Decides a.id p.0).0 (found_passes (λ (b : Rule). bytes_eq b.id p.0) c a some) in
        used_as_none id (action_of a) a.id (reading_by a) (values_or_missing a p.1) rows (subst (λ (t : Text). bytes_eq t id ≡ false) (sym same) differs) is

pub settled_none : (c : List Rule) (id : Text) (h : Held) → holds id h ≡ false → has_row id (settled c h).rows ≡ false
settled_none c id h is = let parts = or_parts (has_row id h.rows) (is_pending_for id h.pending) is in settled_rows_none c id h.pending h.rows parts.0 parts.1

pub reacted_none : (c : List Rule) (a : Rule) (values : List Text) (id : Text) (h : Held) → bytes_eq a.id id ≡ false → holds id h ≡ false → holds id (reacted c a values h) ≡ false
reacted_none c a values id h differs is =
    or_from (has_row id (reacted c a values h).rows) false (used_as_none id (action_of a) a.id (reading_by a) (values_or_missing a values) (settled c h).rows differs (settled_none c id h is)) refl

-- ---- the defaults

default_none : (id : Text) (rows : List Row) (a : Rule) (values : List Text) → bytes_eq a.id id ≡ false → has_row id rows ≡ false → has_row id (default_rows a.id (reading_by a) values rows) ≡ false
default_none id rows a [] differs is = is
default_none id rows a (v ∷ vs) differs is = values_none id a.id (reading_by a) DefaultValue (v ∷ vs) rows differs is

pub with_default_none : (id : Text) (rows : List Row) (a : Rule) → has_row id rows ≡ false → (has_row a.id rows ≡ false → has_row id (default_rows a.id (reading_by a) a.defaults rows) ≡ false) → has_row id (with_default rows a) ≡ false
with_default_none id rows a is then = go (has_row a.id rows) refl
  where
    go : (b : Bool) → has_row a.id rows ≡ b → has_row id (cond b rows (default_rows a.id (reading_by a) a.defaults rows)) ≡ false
    go true some = is
    go false none = then none

pub other_default : (id : Text) (rows : List Row) (a : Rule) → bytes_eq a.id id ≡ false → has_row id rows ≡ false → has_row id (with_default rows a) ≡ false
other_default id rows a differs is = with_default_none id rows a is (λ none. default_none id rows a a.defaults differs is)

pub no_default : (id : Text) (rows : List Row) (a : Rule) → a.defaults ≡ [] → has_row id rows ≡ false → has_row id (with_default rows a) ≡ false
no_default id rows a none is = with_default_none id rows a is (λ also. subst (λ (d : List Text). has_row id (default_rows a.id (reading_by a) d rows) ≡ false) (sym none) is)
