-- The end of a run.
use Rattle.show_run.proofs.Common.{[], ◌++◌, ◌∷◌, ◌≡◌, counted_all, Fact, fact_items, false, Form, line_item, List, lists_facts, refl, ℕ}
use Rattle.run_output.specs.Run.{outcome_of}
use Rattle.list_text.specs.Forms.{last_line}
use Rattle.list_text.specs.Counts.{nothing_counted}
use Rattle.show_run.specs.Run.{run_items}
use Rattle.any_list.specs.declared.list.List.{List as ListOf}

-- No line reports a revoked key.
plain_items : (form : Form) (facts : List Fact) (last : List ℕ) → (outcome_of (fact_items form facts ++ line_item last ∷ [])).revoked ≡ false
plain_items form [] last = refl
plain_items form (fact ∷ facts) last = plain_items form facts last

pub plain_run : (form : Form) (lists : List ListOf) → (outcome_of (run_items form lists)).revoked ≡ false
unfolding run_items
plain_run form lists = plain_items form (lists_facts lists) (last_line form (counted_all nothing_counted (lists_facts lists)))
