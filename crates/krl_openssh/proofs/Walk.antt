-- Items that are spelled one after another, and what each of them must meet.
use Rattle.std.proofs.Common.{◌≡◌, ℕ, ◌<◌, Bool, true, false, List, [], ◌∷◌, ◌++◌, length, refl, sym, ap, subst, arith, length-append}
use Rattle.std.proofs.lemmas.Bool.{false≢true}
use Rattle.std.specs.List.{AllByRecursion}
use Rattle.std.specs.Prelude.{◌↔◌}
use Rattle.krl_format.specs.Krl.{SpellsEach}
use Rattle.krl_openssh.specs.Comparable.{IsJudged}

-- Some items are left, and all of them are valid exactly if all items are.
pub record Remains {X : Type 0} (Spelling : List ℕ → X → Type 0) (Valid : X → Type 0) (items : List X) (left : List ℕ) : Type 0 where
  pub todo : List X
  pub spelled : SpellsEach Spelling left todo
  pub same : AllByRecursion Valid todo ↔ AllByRecursion Valid items

-- an item at the front was judged, and the bytes after it are left if it is valid
abbrev pub Judges : {X : Type 0} → (List ℕ → X → Type 0) → (X → Type 0) → (old new : List ℕ) (fine : Bool) → Type 0
Judges {X} Spelling Valid old new fine = (item : X) (first rest : List ℕ) → Spelling first item → old ≡ first ++ rest → IsJudged (Valid item) fine new rest

-- Each item has a byte.
abbrev pub HasBytes : {X : Type 0} → (List ℕ → X → Type 0) → Type 0
HasBytes {X} Spelling = (item : X) (first : List ℕ) → Spelling first item → 0 < length first

module _ {X : Type 0} (Spelling : List ℕ → X → Type 0) (Valid : X → Type 0) (items : List X) where
  pub begins : (left : List ℕ) → SpellsEach Spelling left items → Remains Spelling Valid items left
  begins left spelled = record { todo = items; spelled = spelled; same = (λ all. all, λ all. all) }

  module _ (old new : List ℕ) (some : old ≡ [] → ⊥) where
    goes_on_to : (todo : List X) → SpellsEach Spelling old todo → AllByRecursion Valid todo ↔ AllByRecursion Valid items → Judges Spelling Valid old new true → Remains Spelling Valid items new
    goes_on_to [] none same judges = absurd (some none)
    goes_on_to (item ∷ others) (first, (rest, (parts, one, later))) same judges =
        let is = judges item first rest one parts in
        record {
          todo = others;
          spelled = subst (λ (left : List ℕ). SpellsEach Spelling left others) (sym (is.left_is refl)) later;
          same = (λ all. same.0 (is.judged.0 refl, all), λ all. (same.1 all).1);
        }

    refuses_at : (todo : List X) → SpellsEach Spelling old todo → AllByRecursion Valid todo ↔ AllByRecursion Valid items → Judges Spelling Valid old new false → AllByRecursion Valid items → ⊥
    refuses_at [] none same judges all = some none
    refuses_at (item ∷ others) (first, (rest, (parts, one, later))) same judges all =
        false≢true ((judges item first rest one parts).judged.1 (same.1 all).0)

    pub goes_on : Remains Spelling Valid items old → Judges Spelling Valid old new true → Remains Spelling Valid items new
    goes_on is judges = goes_on_to is.todo is.spelled is.same judges

    pub refuses : Remains Spelling Valid items old → Judges Spelling Valid old new false → AllByRecursion Valid items → ⊥
    refuses is judges all = refuses_at is.todo is.spelled is.same judges all

  ends_at : (todo : List X) (left : List ℕ) → HasBytes Spelling → left ≡ [] → SpellsEach Spelling left todo → AllByRecursion Valid todo ↔ AllByRecursion Valid items → AllByRecursion Valid items
  ends_at [] left bytes none spelled same = same.0 tt
  ends_at (item ∷ others) left bytes none (first, (rest, (parts, one, later))) same =
      absurd (omega (arith, ap length none, ap length parts, bytes item first one, length-append first rest))

  -- nothing is left
  pub ends : (left : List ℕ) → HasBytes Spelling → Remains Spelling Valid items left → left ≡ [] → AllByRecursion Valid items
  ends left bytes is none = ends_at is.todo left bytes none is.spelled is.same
