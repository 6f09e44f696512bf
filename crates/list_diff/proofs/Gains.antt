-- Names that are added, one part after another.
use Rattle.list_diff.proofs.Common.{[], ◌∷◌, ◌↔◌, ◌⊎◌, Entry, EntryNames, Gains, HoldsName, iff_none}
use Rattle.list_diff.proofs.Common.{iff_or, inl, inr, IsOrderly, List, MeansMore, Name, RangeEntry}
use Rattle.list_diff.proofs.Common.{Revocations, SerialOf, SerialWith, ◌<◌, ◌≤◌, ℕ, arith}
use Rattle.krl_entries.proofs.AddedMeaning.{means_more_names}
use Rattle.std.proofs.Math.Logic.Iff as Iff

iff_assoc : {A B C : Type 0} → ((A ⊎ B) ⊎ C) ↔ (A ⊎ (B ⊎ C))
iff_assoc = (
  λ x. elim x [ inl ab ↦ elim ab [ inl a ↦ inl a | inr b ↦ inr (inl b) ] | inr c ↦ inr (inr c) ],
  λ x. elim x [ inl a ↦ inl (inl a) | inr bc ↦ elim bc [ inl b ↦ inl (inr b) | inr c ↦ inr c ] ],
)

iff_nothing : ⊥ ↔ (⊥ ⊎ ⊥)
iff_nothing = (λ h. absurd h, λ h. elim h [ inl a ↦ a | inr b ↦ b ])

-- ---- what is still to be added

-- The names that are held now and those that are left are those that were held first and all.
abbrev pub Owes : (first : Revocations) → (Name → Type 0) → (now : Revocations) → (Name → Type 0) → Type 0
Owes first Every now Left = (name : Name) → (HoldsName now name ⊎ Left name) ↔ (HoldsName first name ⊎ Every name)

pub owes_all : (first : Revocations) (Every : Name → Type 0) → Owes first Every first Every
owes_all first Every name = Iff.rfl

pub owes_less : (first : Revocations) (Every : Name → Type 0) (now : Revocations) (Left : Name → Type 0) (next : Revocations) (More Rest : Name → Type 0)
    → Owes first Every now Left → Gains now More next → ((name : Name) → Left name ↔ (More name ⊎ Rest name)) → Owes first Every next Rest
owes_less first Every now Left next More Rest owes gains parts name =
    Iff.trans (iff_or (gains name) Iff.rfl) (Iff.trans iff_assoc (Iff.trans (iff_or Iff.rfl (Iff.symm (parts name))) (owes name)))

pub owes_none : (first : Revocations) (Every : Name → Type 0) (now : Revocations) (Left : Name → Type 0) → Owes first Every now Left → ((name : Name) → Left name → ⊥) → Gains first Every now
owes_none first Every now Left owes none name = Iff.trans (iff_none (none name)) (owes name)

pub gains_none : (now : Revocations) (More : Name → Type 0) → ((name : Name) → More name → ⊥) → Gains now More now
gains_none now More none name = iff_none (none name)

pub gains_as : (old new : Revocations) (More Other : Name → Type 0) → ((name : Name) → More name ↔ Other name) → Gains old More new → Gains old Other new
gains_as old new More Other same gains name = Iff.trans (gains name) (iff_or Iff.rfl (same name))

pub gains_then : (old mid new : Revocations) (More Next Both : Name → Type 0) → Gains old More mid → Gains mid Next new → ((name : Name) → Both name ↔ (More name ⊎ Next name)) → Gains old Both new
gains_then old mid new More Next Both first second parts name =
    Iff.trans (second name) (Iff.trans (iff_or (first name) Iff.rfl) (Iff.trans iff_assoc (iff_or Iff.rfl (Iff.symm (parts name)))))

-- ---- entries

pub gains_entry : (old new : Revocations) (entry : Entry) (More : Name → Type 0) → IsOrderly old → MeansMore old new (entry ∷ []) → ((name : Name) → EntryNames entry name ↔ More name) → Gains old More new
gains_entry old new entry More orderly means same name =
    let named = (means_more_names old new (entry ∷ []) orderly means).1 name in
    Iff.trans named (iff_or Iff.rfl (Iff.trans (Iff.symm (iff_none (λ none. none))) (same name)))

pub range_named : (a : List ℕ) (lo hi : ℕ) → 0 < lo → (name : Name) → EntryNames (RangeEntry a lo hi) name ↔ SerialWith a (λ s. (lo ≤ s) × (s ≤ hi)) name
range_named a lo hi some (SerialOf b s) = (λ h. (h.0, h.1.1), λ h. (h.0, (omega (arith, some, h.1.0), h.1)))
range_named a lo hi some name = Iff.rfl

-- ---- properties of serial numbers

-- a fact that goes with either of two properties
iff_within : {P A B C : Type 0} → (A ↔ (B ⊎ C)) → (P × A) ↔ ((P × B) ⊎ (P × C))
iff_within parts = (
  λ h. elim (parts.0 h.1) [ inl b ↦ inl (h.0, b) | inr c ↦ inr (h.0, c) ],
  λ h. elim h [ inl b ↦ (b.0, parts.1 (inl b.1)) | inr c ↦ (c.0, parts.1 (inr c.1)) ],
)

pub serial_parts : (a : List ℕ) (P Q R : ℕ → Type 0) → ((s : ℕ) → P s ↔ (Q s ⊎ R s)) → (name : Name) → SerialWith a P name ↔ (SerialWith a Q name ⊎ SerialWith a R name)
serial_parts a P Q R parts (SerialOf b s) = iff_within (parts s)
serial_parts a P Q R parts name = iff_nothing

pub serial_none : (a : List ℕ) (P : ℕ → Type 0) → ((s : ℕ) → P s → ⊥) → (name : Name) → SerialWith a P name → ⊥
serial_none a P none (SerialOf b s) h = none s h.1
serial_none a P none name h = h
