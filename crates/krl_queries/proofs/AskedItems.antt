-- Items that are a topic of some questions, or none.
use Rattle.krl_queries.proofs.Common.{[], ◌∷◌, ◌≡◌, AllocError, HoldsOnlyTopics, IdEntry, InScope}
use Rattle.krl_queries.proofs.Common.{KeyEntry, List, MeansMore, Name, OnErr, OnOk, Result}
use Rattle.krl_queries.proofs.Common.{Revocations, Sha1Entry, Sha256Entry, Some, SomeNames, ℕ}
use Rattle.krl_queries.proofs.AddedFindings.{within_or_same}
use Rattle.krl_queries.proofs.QuestionAnswers.{no_id, no_key, no_sha1, no_sha256}
use Rattle.krl_entries.specs.Named.{item_name}
use Rattle.krl_types.specs.Item.{item_entry}
use Rattle.krl_types.specs.declared.item_kind.ItemKind.{ItemKind}
use Rattle.krl_types.specs.declared.item_kind.ItemKind.TheVariants as kinds
use Rattle.krl_entries.specs.Scope.{IsTopic}

pub none_asked : (topics : Revocations) (kind : ItemKind) (authority item : List ℕ) → (IsTopic topics (item_name kind authority item) → ⊥)
    → (name : Name) → InScope (Some topics) name → SomeNames (item_entry kind authority item ∷ []) name → ⊥
none_asked topics kinds.Id authority id none = no_id topics authority id none
none_asked topics kinds.Key authority blob none = no_key topics blob none
none_asked topics kinds.Sha1 authority hash none = no_sha1 topics hash (λ blob is same. none (blob, (is, same)))
none_asked topics kinds.Sha256 authority hash none = no_sha256 topics hash (λ blob is same. none (blob, (is, same)))

pub within_asked : (result : Result (Unit {0}) AllocError) (topics old new : Revocations) (kind : ItemKind) (authority item : List ℕ) → IsTopic topics (item_name kind authority item)
    → OnOk result (MeansMore old new (item_entry kind authority item ∷ [])) → OnErr result (new ≡ old) → HoldsOnlyTopics topics old → HoldsOnlyTopics topics new
within_asked result topics old new kinds.Id authority id is means same = within_or_same result topics old new (IdEntry authority id) means same is
within_asked result topics old new kinds.Key authority blob is means same = within_or_same result topics old new (KeyEntry blob) means same is
within_asked result topics old new kinds.Sha1 authority hash is means same = within_or_same result topics old new (Sha1Entry hash) means same is
within_asked result topics old new kinds.Sha256 authority hash is means same = within_or_same result topics old new (Sha256Entry hash) means same is
