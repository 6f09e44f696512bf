-- Entries and revocations of which something is lost.
use Rattle.list_diff.proofs.Common.{[], ◌++◌, ◌∷◌, ◌≡◌, ◌↔◌, ◌⊎◌, AreSerials, Covers, entries_in}
use Rattle.list_diff.proofs.Common.{Entry, EntryNames, Gains, HoldsName, HoldsSerial, HoldsWithout}
use Rattle.list_diff.proofs.Common.{IdOf, iff_none, inl, inr, IsOrderly, item_entry, item_name}
use Rattle.list_diff.proofs.Common.{ItemKind, KeyOf, List, Lost, LostSerial, Means, MeansMore}
use Rattle.list_diff.proofs.Common.{MeansWithout, Name, NamesSame, nothing, refl, Revocations}
use Rattle.list_diff.proofs.Common.{run_entries, SerialOf, SerialWith, Sha1Of, Sha256Of, Span, subst}
use Rattle.list_diff.proofs.Common.{sym, ℕ, ap}
use Rattle.list_diff.proofs.Gains.{gains_as, gains_entry, gains_none, gains_then}
use Rattle.krl_types.specs.declared.item_kind.ItemKind.TheVariants as kinds
use Rattle.krl_types.proofs.Equivalences.{iff_swap}
use Rattle.krl_types.proofs.SameNames.{some_append}
use Rattle.krl_entries.proofs.Entries.{runs_name_none}
use Rattle.krl_entries.proofs.NameTests.{name_tested}
use Rattle.krl_entries.proofs.OneMeaning.{one_meaning}
use Rattle.krl_entries.proofs.OwnEntries.{means_itself}
use Rattle.krl_entries.proofs.Runs.{run_entries-name}
use Rattle.krl_entries.proofs.SameMeaning.{nothing_meant}
use Rattle.krl_entries.specs.Tested.{holds_name}
use Rattle.std.proofs.Common.{Bool, false, true, ◌∙◌}
use Rattle.std.proofs.lemmas.Bool.{false≢true}
use Rattle.std.proofs.Math.Logic.Iff as Iff

-- ---- entries

-- the names of some entries, and of those after them
pub lost_joined : (old : Revocations) (xs ys : List Entry) (name : Name) → Lost old (xs ++ ys) name ↔ (Lost old xs name ⊎ Lost old ys name)
lost_joined old xs ys name = (
  λ h. elim ((some_append xs ys name).0 h.0) [ inl here ↦ inl (here, h.1) | inr later ↦ inr (later, h.1) ],
  λ h. elim h [
    | inl here ↦ ((some_append xs ys name).1 (inl here.0), here.1)
    | inr later ↦ ((some_append xs ys name).1 (inr later.0), later.1)
  ],
)

pub gains_joined : (old first mid last : Revocations) (xs ys : List Entry) → Gains first (Lost old xs) mid → Gains mid (Lost old ys) last → Gains first (Lost old (xs ++ ys)) last
gains_joined old first mid last xs ys one two = gains_then first mid last (Lost old xs) (Lost old ys) (Lost old (xs ++ ys)) one two (lost_joined old xs ys)

pub lost_none : (old : Revocations) (name : Name) → Lost old [] name → ⊥
lost_none old name h = h.0

-- the entry of an item has only the item's name
item_named : (kind : ItemKind) (a item : List ℕ) (name : Name) → EntryNames (item_entry kind a item) name → item_name kind a item ≡ name
item_named kinds.Id a item (IdOf b text) h = subst (λ (x : List ℕ). IdOf a item ≡ IdOf x text) h.0 (ap (IdOf a) h.1)
item_named kinds.Id a item name h = absurd h
item_named kinds.Key a item (KeyOf blob) h = ap KeyOf h
item_named kinds.Key a item name h = absurd h
item_named kinds.Sha1 a item (Sha1Of hash) h = ap Sha1Of h
item_named kinds.Sha1 a item name h = absurd h
item_named kinds.Sha256 a item (Sha256Of hash) h = ap Sha256Of h
item_named kinds.Sha256 a item name h = absurd h

-- an item that is held is not lost, and one that is not held is
pub item_kept : (old now : Revocations) (kind : ItemKind) (a item : List ℕ) → HoldsName old (item_name kind a item) → Gains now (Lost old (item_entry kind a item ∷ [])) now
item_kept old now kind a item held = gains_none now _ (λ name h. elim h.0 [ inl is ↦ h.1 (subst (HoldsName old) (item_named kind a item name is) held) | inr never ↦ never ])

pub item_lost : (old now next : Revocations) (kind : ItemKind) (a item : List ℕ) → (HoldsName old (item_name kind a item) → ⊥) → IsOrderly now → MeansMore now next (item_entry kind a item ∷ [])
    → Gains now (Lost old (item_entry kind a item ∷ [])) next
item_lost old now next kind a item none orderly means =
    gains_entry now next (item_entry kind a item) (Lost old (item_entry kind a item ∷ [])) orderly means (λ name. (
      λ is. (inl is, λ held. none (subst (HoldsName old) (sym (item_named kind a item name is)) held)),
      λ h. elim h.0 [ inl is ↦ is | inr never ↦ absurd never ],
    ))

-- the numbers that another set does not have, where that set has those of the authority
pub serials_lost : (old first last : Revocations) (a : List ℕ) (spans others : List Span) → AreSerials spans → ((s : ℕ) → HoldsSerial old.sections a s ↔ Covers others s)
    → Gains first (SerialWith a (LostSerial spans others)) last → Gains first (Lost old (run_entries a spans)) last
serials_lost old first last a spans others serials under = gains_as first last (SerialWith a (LostSerial spans others)) (Lost old (run_entries a spans)) same
  where
    same : (name : Name) → SerialWith a (LostSerial spans others) name ↔ Lost old (run_entries a spans) name
    same (SerialOf b s) =
        let named = run_entries-name a spans b s in (
          λ h. (named.1 ((h.0, (serials s h.1.0).0), h.1.0), λ held. h.1.1 ((under s).0 (subst (λ (x : List ℕ). HoldsSerial old.sections x s) (sym h.0) held))),
          λ h. let k = named.0 h.0 in (k.0.0, (k.1, λ covered. h.1 (subst (λ (x : List ℕ). HoldsSerial old.sections x s) k.0.0 ((under s).1 covered)))),
        )
    same name = (λ no. absurd no, λ h. absurd (runs_name_none a spans name (λ lo hi no. no) h.0))

-- ---- revocations

nothing_held : (name : Name) → HoldsName nothing name → ⊥
nothing_held name = (nothing_meant.names name).0

-- the lost names of all entries are added to nothing
pub all_lost : (old new gone : Revocations) → IsOrderly new → IsOrderly gone → Gains nothing (Lost old (entries_in new)) gone → HoldsWithout old new gone
all_lost old new gone orderly is gains = record {
  orderly = is;
  names = λ name. Iff.trans (gains name) (Iff.trans iff_swap (Iff.trans (Iff.symm (iff_none (nothing_held name))) (Iff.and (Iff.symm ((means_itself new orderly).names name)) Iff.rfl)));
}

-- the entries that the three mean name the same
pub means_lost : (old new gone : Revocations) → HoldsWithout old new gone → MeansWithout old new gone
means_lost old new gone is olds news entries m n k name = (
  λ h. let held = (is.names name).0 ((k.names name).1 h) in ((n.names name).0 held.0, λ also. held.1 ((m.names name).1 also)),
  λ h. (k.names name).0 ((is.names name).1 ((n.names name).1 h.0, λ also. h.1 ((m.names name).0 also))),
)

-- ---- no difference

-- revocations that hold no name are none
none_held : (r : Revocations) → IsOrderly r → ((name : Name) → HoldsName r name → ⊥) → r ≡ nothing
none_held r orderly none = one_meaning r nothing [] (record { orderly = orderly; names = λ name. (none name, λ never. absurd never) }) nothing_meant

-- what is held is held by others too, if nothing is lost
held_too : (old new gone : Revocations) → HoldsWithout old new gone → gone ≡ nothing → (name : Name) → HoldsName new name → HoldsName old name
held_too old new gone is none name h = by_test (holds_name old name) refl
  where
    by_test : (b : Bool) → holds_name old name ≡ b → HoldsName old name
    by_test true e = (name_tested old name).0 e
    by_test false e =
        let not_held : HoldsName old name → ⊥ = λ held. false≢true (sym e ∙ (name_tested old name).1 held) in
        absurd (nothing_held name (subst (λ (r : Revocations). HoldsName r name) none ((is.names name).1 (h, not_held))))

pub same_lost : (old new added removed : Revocations) (olds news : List Entry) → Means old olds → Means new news → HoldsWithout old new added → HoldsWithout new old removed
    → NamesSame olds news ↔ ((added ≡ nothing) × (removed ≡ nothing))
same_lost old new added removed olds news m n plus minus = (
  λ same. (
    none_held added plus.orderly (λ name h. let held = (plus.names name).0 h in held.1 ((m.names name).1 ((same name).1 ((n.names name).0 held.0)))),
    none_held removed minus.orderly (λ name h. let held = (minus.names name).0 h in held.1 ((n.names name).1 ((same name).0 ((m.names name).0 held.0)))),
  ),
  λ none name. (
    λ h. (n.names name).0 (held_too new old removed minus none.1 name ((m.names name).1 h)),
    λ h. (m.names name).0 (held_too old new added plus none.0 name ((n.names name).1 h)),
  ),
)
