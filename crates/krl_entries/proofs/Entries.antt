-- The names that a section holds after an addition.
use Rattle.krl_entries.proofs.Common.{[], ◌↔◌, ◌∙◌, ◌∷◌, ◌≡◌, added_entries, Addition, ap, Bor}
use Rattle.krl_entries.proofs.Common.{Contains, Covers, empty_section, EntryNames, IdEntry, IsOneChange}
use Rattle.krl_entries.proofs.Common.{IdOf, inl, inr, Item, List, Name, RangeEntry, run_entries, Section}
use Rattle.krl_entries.proofs.Common.{SerialOf, Serials, SomeNames, Span, subst, sym, TakesAddition}
use Rattle.krl_entries.proofs.Common.{ℕ}
use Rattle.krl_types.specs.declared.item_kind.ItemKind.TheVariants as kinds
use Rattle.krl_entries.proofs.AddedSections.{put_held}
use Rattle.krl_entries.proofs.Runs.{run_entries-name}
use Rattle.krl_types.proofs.Equivalences.{iff_none, iff_or}
use Rattle.krl_entries.proofs.SomeSections.{HeldIn, AddsProperty}
use Rattle.krl_types.proofs.Elements.{contains_none}
use Rattle.std.proofs.Math.Logic.Iff as Iff

-- a part of a section that an addition does not change is held as before
stays : (addition : Addition) (b a : List ℕ) (Q : Section → Type 0) → ((from to : Section) → TakesAddition addition from to → (to.authority ≡ from.authority) × (Q to ↔ Q from)) → (Q (empty_section b) → ⊥)
    → AddsProperty addition b (λ section. (section.authority ≡ a) × Q section) ⊥
stays addition b a Q same none = record {
  one = λ from to under t. let k = same from to t in Iff.trans (λ h. (sym k.0 ∙ h.0, k.1.0 h.1), λ h. (k.0 ∙ h.0, k.1.1 h.1)) (iff_none (λ no. no));
  none = λ h. none h.1;
}

nothing_new : (addition : Addition) (b : List ℕ) → AddsProperty addition b (λ section. ⊥) ⊥
nothing_new addition b = record { one = λ from to under t. iff_none (λ no. no); none = λ h. h }

-- the entries of spans name only serials
pub runs_name_none : (b : List ℕ) (runs : List Span) (name : Name) → ((lo hi : ℕ) → EntryNames (RangeEntry b lo hi) name → ⊥) → SomeNames (run_entries b runs) name → ⊥
runs_name_none b [] name none h = h
runs_name_none b (x ∷ xs) name none h = elim h [ inl here ↦ none x.lo x.hi here | inr later ↦ runs_name_none b xs name none later ]

-- an addition that changes nothing here, for an entry that names nothing here
step_none : (addition : Addition) (b : List ℕ) (P : Section → Type 0) (Q : Type 0) → (Q → ⊥) → AddsProperty addition b P ⊥ → AddsProperty addition b P Q
step_none addition b P Q none step = record {
  one = λ from to under t. Iff.trans (step.one from to under t) (Iff.trans (Iff.symm (iff_none (λ no. no))) (iff_none none));
  none = step.none;
}

serials_step : (near : Bor (List Span)) (b : List ℕ) (name : Name) → AddsProperty (Serials near) b (HeldIn name) (SomeNames (run_entries b near.now) name)
serials_step near b (SerialOf a s) = record {
  one = λ from to under t.
      let same : to.authority ≡ from.authority = ap (λ (x : Section). x.authority) t.same in
      let names = run_entries-name b near.now a s in (
        λ h. elim ((t.runs.1 s).0 h.1) [
          | inl was ↦ inl (sym same ∙ h.0, was)
          | inr new ↦ inr (names.1 ((sym under ∙ sym same ∙ h.0, (t.serials s h.1).0), new))
        ],
        λ h. elim h [
          | inl was ↦ (same ∙ was.0, (t.runs.1 s).1 (inl was.1))
          | inr new ↦ (let k = names.0 new in (same ∙ under ∙ k.0.0, (t.runs.1 s).1 (inr k.1)))
        ],
      );
  none = λ h. absurd h.1;
}
serials_step near b (IdOf a text) =
    step_none (Serials near) b (HeldIn (IdOf a text)) (SomeNames (run_entries b near.now) (IdOf a text)) (runs_name_none b near.now (IdOf a text) (λ lo hi no. no))
    (stays (Serials near) b a (λ section. Contains section.ids text) (λ from to t.
    (ap (λ (x : Section). x.authority) t.same, subst (λ (l : List (List ℕ)). Contains to.ids text ↔ Contains l text) (ap (λ (x : Section). x.ids) t.same) Iff.rfl)) (contains_none text))
serials_step near b name =
    step_none (Serials near) b (HeldIn name) (SomeNames (run_entries b near.now) name) (runs_name_none b near.now name (λ lo hi no. no)) (nothing_new (Serials near) b)

id_step : (added : Bor (List ℕ)) (b : List ℕ) (name : Name) → AddsProperty (Item kinds.Id added) b (HeldIn name) (EntryNames (IdEntry b added.now) name)
id_step added b (SerialOf a s) =
    stays (Item kinds.Id added) b a (λ section. Covers section.spans s) (λ from to t.
    (ap (λ (x : Section). x.authority) t.same, subst (λ (l : List Span). Covers to.spans s ↔ Covers l s) (ap (λ (x : Section). x.spans) t.same) Iff.rfl)) (λ none. none)
id_step added b (IdOf a text) = record {
  one = λ from to under t.
      let same : to.authority ≡ from.authority = ap (λ (x : Section). x.authority) t.same in
      let put = put_held from.ids added.now to.ids t.put text in (
        λ h. elim (put.0 h.1) [ inl was ↦ inl (sym same ∙ h.0, was) | inr is ↦ inr (sym under ∙ sym same ∙ h.0, is) ],
        λ h. elim h [ inl was ↦ (same ∙ was.0, put.1 (inl was.1)) | inr is ↦ (same ∙ under ∙ is.0, put.1 (inr is.1)) ],
      );
  none = λ h. contains_none text h.1;
}
id_step added b name = nothing_new (Item kinds.Id added) b

-- what an addition changes is what its entries name
pub addition_step : (addition : Addition) (b : List ℕ) (name : Name) → IsOneChange addition → AddsProperty addition b (HeldIn name) (SomeNames (added_entries b addition) name)
addition_step (Serials near) b name one = serials_step near b name
addition_step (Item kind text) b name one =
    let step = id_step text b name in
    rw one (record { one = λ from to under t. Iff.trans (step.one from to under t) (iff_or Iff.rfl (iff_none (λ no. no))); none = step.none })
