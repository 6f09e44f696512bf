-- The facts about a list, in the order in which they are printed (krl(1), KRL SHOW).
use Rattle.std.specs.Prelude.{ℕ, List, ◌∷◌, map, Option, option_map}
use Rattle.krl_entries.specs.Facts as held
use Rattle.krl_entries.specs.Revocations.{Revocations}
use Rattle.krl_format.specs.declared.header.Header.{Header}
use Rattle.list_text.specs.declared.fact.Fact.{Fact as FactOf}
use Rattle.list_text.specs.declared.fact.Fact.TheVariants as facts

-- A fact about a list.
pub data Fact : Type 0 where
  -- the name of the list's file, and its header, which a plain list does not have
  ListFact : (name : List ℕ) → Option Header → Fact
  -- a fact about its entries
  HeldFact : held.Fact → Fact

-- everything that is held: all authorities, keys and hashes
abbrev pub facts_of : Revocations → List Fact
facts_of all = map HeldFact (held.facts_of all)

-- a fact, as the code has it
abbrev pub fact_of : FactOf → Fact
fact_of (facts.List name header) = ListFact name.now (option_map (λ header. header.now) header)
fact_of (facts.Held fact) = HeldFact (held.fact_of fact)
