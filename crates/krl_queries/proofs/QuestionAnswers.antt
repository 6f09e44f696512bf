-- Entries that name none of the topics of some questions, and entries that name the same of them.
use Rattle.krl_queries.proofs.Common.{[], ◌↔◌, ◌∙◌, ◌∷◌, ◌≡◌, ◌≤◌, ◌⊎◌, arith, BitmapEntry}
use Rattle.krl_queries.proofs.Common.{Contains, Entry, EntryNames, HoldsId, HoldsSerial, IdEntry}
use Rattle.krl_queries.proofs.Common.{IdOf, inl, inr, InScope, IsTopic, KeyEntry, KeyOf, List, Name}
use Rattle.krl_queries.proofs.Common.{RangeEntry, Revocations, SerialOf, SerialsEntry, sha1}
use Rattle.krl_queries.proofs.Common.{Sha1Entry, Sha1Of, sha256, Sha256Entry, Sha256Of, Some}
use Rattle.krl_queries.proofs.Common.{SomeNames, subst, sym, ℕ}

-- ---- entries that name none of the topics

-- no serial from `lo` to `hi` is a topic
pub no_serial : (topics : Revocations) (a : List ℕ) (lo hi : ℕ) → ((s : ℕ) → lo ≤ s → s ≤ hi → HoldsSerial topics.sections a s → ⊥) → (name : Name) → InScope (Some topics) name → SomeNames (RangeEntry a lo hi ∷ []) name → ⊥
no_serial topics a lo hi none (SerialOf b s) is (inl h) = none s h.1.1.0 h.1.1.1 (subst (λ (c : List ℕ). HoldsSerial topics.sections c s) (sym h.0) is)
no_serial topics a lo hi none name is (inl h) = h
no_serial topics a lo hi none name is (inr h) = h

-- the key ID is no topic
pub no_id : (topics : Revocations) (a text : List ℕ) → (HoldsId topics.sections a text → ⊥) → (name : Name) → InScope (Some topics) name → SomeNames (IdEntry a text ∷ []) name → ⊥
no_id topics a text none (IdOf b t) is (inl h) =
    none (subst (λ (c : List ℕ). HoldsId topics.sections c text) (sym h.0) (subst (λ (c : List ℕ). HoldsId topics.sections b c) (sym h.1) is))
no_id topics a text none name is (inl h) = h
no_id topics a text none name is (inr h) = h

-- the key is no topic
pub no_key : (topics : Revocations) (key : List ℕ) → (Contains topics.keys key → ⊥) → (name : Name) → InScope (Some topics) name → SomeNames (KeyEntry key ∷ []) name → ⊥
no_key topics key none (KeyOf blob) is (inl h) = none (subst (Contains topics.keys) (sym h) is)
no_key topics key none name is (inl h) = h
no_key topics key none name is (inr h) = h

-- no key that is a topic has the hash
pub no_sha1 : (topics : Revocations) (hash : List ℕ) → ((blob : List ℕ) → Contains topics.keys blob → sha1 blob ≡ hash → ⊥) → (name : Name) → InScope (Some topics) name → SomeNames (Sha1Entry hash ∷ []) name → ⊥
no_sha1 topics hash none (Sha1Of other) is (inl h) = none is.0 is.1.0 (is.1.1 ∙ sym h)
no_sha1 topics hash none name is (inl h) = h
no_sha1 topics hash none name is (inr h) = h

pub no_sha256 : (topics : Revocations) (hash : List ℕ) → ((blob : List ℕ) → Contains topics.keys blob → sha256 blob ≡ hash → ⊥) → (name : Name) → InScope (Some topics) name → SomeNames (Sha256Entry hash ∷ []) name → ⊥
no_sha256 topics hash none (Sha256Of other) is (inl h) = none is.0 is.1.0 (is.1.1 ∙ sym h)
no_sha256 topics hash none name is (inl h) = h
no_sha256 topics hash none name is (inr h) = h

-- ---- entries that name the same topics

-- the serial 0 is never named
not_zero : (entry : Entry) (a : List ℕ) (s : ℕ) → s ≡ 0 → EntryNames entry (SerialOf a s) → ⊥
not_zero (SerialsEntry b numbers) a s z h = omega (arith, h.1.0)
not_zero (RangeEntry b min max) a s z h = omega (arith, h.1.0)
not_zero (BitmapEntry b offset number) a s z h = omega (arith, h.1.0)
not_zero entry a s z h = h

never_zero : (entries : List Entry) (a : List ℕ) (s : ℕ) → s ≡ 0 → SomeNames entries (SerialOf a s) → ⊥
never_zero [] a s z h = h
never_zero (entry ∷ entries) a s z (inl h) = not_zero entry a s z h
never_zero (entry ∷ entries) a s z (inr h) = never_zero entries a s z h

-- two lists of entries name the same topics
unfoldable pub NamesSameTopics : Revocations → (entries others : List Entry) → Type 0
NamesSameTopics topics entries others = (name : Name) → IsTopic topics name → SomeNames entries name ↔ SomeNames others name

pub same_serials : (topics : Revocations) (kept entries : List Entry) → NamesSameTopics topics kept entries → (a : List ℕ) (s : ℕ) → (s ≡ 0) ⊎ HoldsSerial topics.sections a s
    → SomeNames kept (SerialOf a s) ↔ SomeNames entries (SerialOf a s)
unfolding NamesSameTopics
same_serials topics kept entries same a s (inl z) = (λ h. absurd (never_zero kept a s z h), λ h. absurd (never_zero entries a s z h))
same_serials topics kept entries same a s (inr is) = same (SerialOf a s) is
