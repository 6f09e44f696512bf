-- Facts that were shown, one part after another.
use Rattle.show_run.proofs.Common.{[], ◌++◌, ◌+◌, ◌<◌, ◌∙◌, ◌∷◌, ◌≡◌, add-one, ap, append_assoc}
use Rattle.show_run.proofs.Common.{carries_more, carries_none, carries_then, Carries, counted}
use Rattle.show_run.proofs.Common.{counted_all, Counts, drop, drop-cons, Err, Fact, fact_item}
use Rattle.show_run.proofs.Common.{fact_items, Form, get_or, Item, length, List, map-append, Ok}
use Rattle.show_run.proofs.Common.{OnOk, Option, Printer, refl, Result, RunFault, Shows}
use Rattle.show_run.proofs.Common.{subst, sym, ℕ}
use Rattle.show_run.proofs.Common.{drop_all, fact_of, flat_map, list_facts}
use Rattle.show_run.proofs.Common.{ListFact, lists_facts, ◌≤◌}
use Rattle.std.specs.Borrow.{Bor}
use Rattle.std.specs.Prelude.{option_map}
use Rattle.krl_format.specs.declared.header.Header.{Header}
use Rattle.list_text.specs.declared.fact.Fact.TheVariants as facts
use Rattle.any_list.specs.declared.list.List.{List as ListOf}

abbrev fine : Result (Unit {0}) RunFault
fine = Ok tt

both_items : (form : Form) (xs ys : List Fact) → fact_items form (xs ++ ys) ≡ fact_items form xs ++ fact_items form ys
both_items form xs ys = map-append (fact_item form) xs ys

pub both_counted : (counts : Counts) (xs ys : List Fact) → counted_all (counted_all counts xs) ys ≡ counted_all counts (xs ++ ys)
both_counted counts [] ys = refl
both_counted counts (x ∷ xs) ys = both_counted (counted counts x) xs ys

count_then : (result : Result (Unit {0}) RunFault) (xs ys : List Fact) (before between after : Counts) → between ≡ counted_all before xs
    → OnOk result (after ≡ counted_all between ys) → OnOk result (after ≡ counted_all before (xs ++ ys))
count_then (Ok done) xs ys before between after first second = second ∙ ap (λ (counts : Counts). counted_all counts ys) first ∙ both_counted before xs ys
count_then (Err stop) xs ys before between after first second = tt

pub shows_none : (form : Form) (now : Printer) (counts : Counts) → Shows form [] fine now now counts counts
shows_none form now counts = record { carries = carries_none tt now; count = refl }

pub shows_then : (form : Form) (xs ys : List Fact) (result : Result (Unit {0}) RunFault) (old mid new : Printer) (before between after : Counts)
    → Shows form xs fine old mid before between → Shows form ys result mid new between after → Shows form (xs ++ ys) result old new before after
shows_then form xs ys result old mid new before between after first second = record {
  carries = subst (λ (items : List Item). Carries items result old new) (sym (both_items form xs ys)) (carries_then (fact_items form xs) (fact_items form ys) tt result old mid new first.carries second.carries);
  count = count_then result xs ys before between after first.count second.count;
}

pub shows_stop : (form : Form) (xs ys : List Fact) (stop : RunFault) (old new : Printer) (before after other : Counts)
    → Shows form xs (Err stop) old new before after → Shows form (xs ++ ys) (Err stop) old new before other
shows_stop form xs ys stop old new before after other first = record {
  carries = subst (λ (items : List Item). Carries {A = Unit {0}} items (Err stop) old new) (sym (both_items form xs ys)) (carries_more {A = Unit {0}} (fact_items form xs) (fact_items form ys) stop old new first.carries);
  count = tt;
}

-- All the facts are those that are shown so far and those that are left.
pub record IsShown (form : Form) (all left : List Fact) (old now : Printer) (before after : Counts) : Type 0 where
  pub done : List Fact
  pub parts : all ≡ done ++ left
  pub shown : Shows form done fine old now before after

pub none_shown : (form : Form) (all : List Fact) (now : Printer) (counts : Counts) → IsShown form all all now now counts counts
none_shown form all now counts = record { done = []; parts = refl; shown = shows_none form now counts }

-- some more facts are shown
pub more_shown : (form : Form) (all facts left : List Fact) (old mid new : Printer) (before between after : Counts) → IsShown form all (facts ++ left) old mid before between
    → Shows form facts fine mid new between after → IsShown form all left old new before after
more_shown form all facts left old mid new before between after is more = record {
  done = is.done ++ facts;
  parts = is.parts ∙ sym (append_assoc is.done facts left);
  shown = shows_then form is.done facts fine old mid new before between after is.shown more;
}

-- the next of them ended the run
pub showing_stops : (form : Form) (all facts left : List Fact) (stop : RunFault) (old mid new : Printer) (before between after other : Counts) → IsShown form all (facts ++ left) old mid before between
    → Shows form facts (Err stop) mid new between after → Shows form all (Err stop) old new before other
showing_stops form all facts left stop old mid new before between after other is more =
    subst (λ (xs : List Fact). Shows form xs (Err stop) old new before other) (sym (is.parts ∙ sym (append_assoc is.done facts left)))
    (shows_stop form (is.done ++ facts) left stop old new before after other (shows_then form is.done facts (Err stop) old mid new before between after is.shown more))

-- none is left
pub all_shown : (form : Form) (all : List Fact) (old new : Printer) (before after : Counts) → IsShown form all [] old new before after → Shows form all fine old new before after
all_shown form all old new before after is =
    let whole : all ≡ is.done ++ [] = is.parts in
    subst (λ (xs : List Fact). Shows form xs fine old new before after) (sym whole) (shows_then form is.done [] fine old new new before after after is.shown (shows_none form new after))

-- ---- what is left

-- the lists from a place on are the one there and the others
pub lists_next : (lists : List ListOf) (i : ℕ) (list : ListOf) → list ≡ get_or lists i list → i < length lists
    → lists_facts (drop i lists) ≡ list_facts list ++ lists_facts (drop (i + 1) lists)
unfolding lists_facts
lists_next lists i list is lt =
    let parts : drop i lists ≡ get_or lists i list ∷ drop (i + 1) lists = rw add-one (drop-cons lists i list lt) in
    ap (λ (xs : List ListOf). flat_map list_facts xs) (parts ∙ ap (λ (one : ListOf). one ∷ drop (i + 1) lists) (sym is))

pub lists_end : (lists : List ListOf) (i : ℕ) → length lists ≤ i → lists_facts (drop i lists) ≡ []
unfolding lists_facts
lists_end lists i le = ap (λ (xs : List ListOf). flat_map list_facts xs) (drop_all i lists le)

-- ---- facts, as the code has them

pub list_shown : (form : Form) (name : Bor (List ℕ)) (header : Option (Bor Header)) (is : Option Header) (result : Result (Unit {0}) RunFault) (old new : Printer) (before after : Counts) → option_map (λ header. header.now) header ≡ is
    → Shows form (fact_of (facts.List name header) ∷ []) result old new before after → Shows form (ListFact name.now is ∷ []) result old new before after
list_shown form name header is result old new before after same shows =
    subst (λ (h : Option Header). Shows form (ListFact name.now h ∷ []) result old new before after) same shows
