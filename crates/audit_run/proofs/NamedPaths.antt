-- The paths that the command names, one after another, and standard input between them.
use Rattle.std.proofs.Common.{◌≡◌, ℕ, ◌<◌, ◌+◌, Bool, true, false, List, [], ◌∷◌, ◌++◌, length, take, drop, get_or, Option}
use Rattle.std.proofs.Common.{refl, sym, ap, subst, ◌∙◌, append_assoc}
use Rattle.std.proofs.lemmas.List.{take_more, take-append-drop}
use Rattle.std.specs.Borrow.{Bor}
use Rattle.audit_run.specs.Named.{Each, NamedPath, input_after, stopped, with_input}
use Rattle.audit_run.specs.Visits.{Visit}
use Rattle.audit_run.proofs.Rows.{each_one, each_then}

-- standard input after these paths, if it was not read before
abbrev pub input_past : Option (Option (List ℕ)) → List (Bor (List ℕ)) → Option (Option (List ℕ))
input_past input [] = input
input_past input (path ∷ paths) = input_past (input_after path.now input) paths

pub past_append : (input : Option (Option (List ℕ))) (xs ys : List (Bor (List ℕ)))
    → input_past input (xs ++ ys) ≡ input_past (input_past input xs) ys
past_append input [] ys = refl
past_append input (x ∷ xs) ys = past_append (input_after x.now input) xs ys

pub with_append : (input : Option (Option (List ℕ))) (xs ys : List (Bor (List ℕ)))
    → with_input input (xs ++ ys) ≡ with_input input xs ++ with_input (input_past input xs) ys
with_append input [] ys = refl
with_append input (x ∷ xs) ys =
    ap (λ (rest : List NamedPath). (record { path = x.now; input = input }) ∷ rest) (with_append (input_after x.now input) xs ys)

-- a path and standard input at an index
abbrev pub named_at : Option (Option (List ℕ)) → List (Bor (List ℕ)) → ℕ → Bor (List ℕ) → NamedPath
named_at input paths i path = record { path = path.now; input = input_past input (take i paths) }

pub past_more : (input now : Option (Option (List ℕ))) (paths : List (Bor (List ℕ))) (i : ℕ) (path : Bor (List ℕ)) → i < length paths
    → path ≡ get_or paths i path → now ≡ input_after path.now (input_past input (take i paths))
    → now ≡ input_past input (take (i + 1) paths)
past_more input now paths i path lt item is =
    let taken : take (i + 1) paths ≡ take i paths ++ path ∷ [] =
    take_more paths i path lt ∙ ap (λ (y : Bor (List ℕ)). take i paths ++ y ∷ []) (sym item) in
    is ∙ sym (past_append input (take i paths) (path ∷ []))
    ∙ ap (λ (ps : List (Bor (List ℕ))). input_past input ps) (sym taken)

pub named_more : (Is : Bool → NamedPath → List Visit → Type 0) (input : Option (Option (List ℕ))) (paths : List (Bor (List ℕ))) (i : ℕ)
    (path : Bor (List ℕ)) (visits more : List Visit) → i < length paths → path ≡ get_or paths i path
    → Each Is true (with_input input (take i paths)) visits → Is true (named_at input paths i path) more
    → Each Is true (with_input input (take (i + 1) paths)) (visits ++ more)
named_more Is input paths i path visits more lt item each is =
    let taken : take (i + 1) paths ≡ take i paths ++ path ∷ [] =
    take_more paths i path lt ∙ ap (λ (y : Bor (List ℕ)). take i paths ++ y ∷ []) (sym item) in
    let all : with_input input (take (i + 1) paths) ≡ with_input input (take i paths) ++ named_at input paths i path ∷ [] =
    ap (λ (ps : List (Bor (List ℕ))). with_input input ps) taken ∙ with_append input (take i paths) (path ∷ []) in
    subst (λ (ns : List NamedPath). Each Is true ns (visits ++ more)) (sym all)
    (each_then Is true (with_input input (take i paths)) (named_at input paths i path ∷ []) visits more each
    (each_one Is true (named_at input paths i path) more is))

pub named_stops : (Is : Bool → NamedPath → List Visit → Type 0) (input : Option (Option (List ℕ))) (paths : List (Bor (List ℕ))) (i : ℕ)
    (path : Bor (List ℕ)) (visits more : List Visit) → i < length paths → path ≡ get_or paths i path
    → Each Is true (with_input input (take i paths)) visits → Is false (named_at input paths i path) more
    → Each Is false (with_input input paths) (visits ++ more)
named_stops Is input paths i path visits more lt item each is =
    let taken : take (i + 1) paths ≡ take i paths ++ path ∷ [] =
    take_more paths i path lt ∙ ap (λ (y : Bor (List ℕ)). take i paths ++ y ∷ []) (sym item) in
    let rest = drop (i + 1) paths in
    let all : paths ≡ take i paths ++ path ∷ rest =
    sym (take-append-drop (i + 1) paths) ∙ ap (λ (ps : List (Bor (List ℕ))). ps ++ rest) taken ∙ append_assoc (take i paths) (path ∷ []) rest in
    let named : with_input input paths
    ≡ with_input input (take i paths) ++ named_at input paths i path ∷ with_input (input_after path.now (input_past input (take i paths))) rest =
    ap (λ (ps : List (Bor (List ℕ))). with_input input ps) all ∙ with_append input (take i paths) (path ∷ rest) in
    subst (λ (ns : List NamedPath). Each Is false ns (visits ++ more)) (sym named)
    (each_then Is false (with_input input (take i paths)) _ visits more each
    (stopped (named_at input paths i path) (with_input (input_after path.now (input_past input (take i paths))) rest) more refl is))
