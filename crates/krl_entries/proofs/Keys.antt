-- The meaning of one more key or hash.
use Rattle.krl_entries.proofs.Common.{[], ◌++◌, ◌↔◌, ◌∷◌, ◌≡◌, ◌⊎◌, All, Entry, EntryNames}
use Rattle.krl_entries.proofs.Common.{HoldsName, inl, inr, IsOrderly, KeyEntry, KeyOf, length, List}
use Rattle.krl_entries.proofs.Common.{Means, Name, Puts, revocations_of, Section, Sha1Entry, Sha1Of}
use Rattle.krl_entries.proofs.Common.{Sha256Entry, Sha256Of, subst, sym, ℕ}
use Rattle.krl_entries.proofs.AddedSections.{all_middle, put_held, put_rises}
use Rattle.krl_types.proofs.Equivalences.{iff_none}
use Rattle.krl_entries.proofs.SameMeaning.{means_more}

-- if all byte strings and a new one have a property, all have it after the insertion
put_all : (P : List ℕ → Type 0) (old : List (List ℕ)) (text : List ℕ) (new : List (List ℕ)) → Puts old text new → P text → All P old → All P new
put_all P old text new put h a =
    elim put [
      | inl same ↦ subst (All P) (sym same.0) a
      | inr i ↦ subst (All P) (sym i.after) ((all_middle P i.front text i.back).1 (h, subst (All P) i.before a))
    ]

pub key_orderly : (text : List ℕ) (sections : List Section) (old new sha1s sha256s : List (List ℕ)) → Puts old text new → IsOrderly (revocations_of sections old sha1s sha256s) → IsOrderly (revocations_of sections new sha1s sha256s)
key_orderly text sections old new sha1s sha256s put o =
    record {
      authorities_rise = o.authorities_rise;
      listed = o.listed;
      keys_rise = put_rises old text new put o.keys_rise;
      sha1s_rise = o.sha1s_rise;
      sha256s_rise = o.sha256s_rise;
      sha1_size = o.sha1_size;
      sha256_size = o.sha256_size;
    }

pub key_mean : (text : List ℕ) (sections : List Section) (old new sha1s sha256s : List (List ℕ)) (entries : List Entry) → Puts old text new → Means (revocations_of sections old sha1s sha256s) entries → Means (revocations_of sections new sha1s sha256s) (entries ++ KeyEntry text ∷ [])
key_mean text sections old new sha1s sha256s entries put m =
    means_more _ _ entries (KeyEntry text) (key_orderly text sections old new sha1s sha256s put m.orderly) gains m
  where
    gains : (name : Name) → HoldsName (revocations_of sections new sha1s sha256s) name ↔ (HoldsName (revocations_of sections old sha1s sha256s) name ⊎ EntryNames (KeyEntry text) name)
    gains (KeyOf t) = put_held old text new put t
    gains name = iff_none (λ no. no)

pub sha1_orderly : (text : List ℕ) (sections : List Section) (keys old new sha256s : List (List ℕ)) → Puts old text new → length text ≡ 20 → IsOrderly (revocations_of sections keys old sha256s) → IsOrderly (revocations_of sections keys new sha256s)
sha1_orderly text sections keys old new sha256s put size o =
    record {
      authorities_rise = o.authorities_rise;
      listed = o.listed;
      keys_rise = o.keys_rise;
      sha1s_rise = put_rises old text new put o.sha1s_rise;
      sha256s_rise = o.sha256s_rise;
      sha1_size = put_all (λ hash. length hash ≡ 20) old text new put size o.sha1_size;
      sha256_size = o.sha256_size;
    }

pub sha1_mean : (text : List ℕ) (sections : List Section) (keys old new sha256s : List (List ℕ)) (entries : List Entry) → Puts old text new → length text ≡ 20 → Means (revocations_of sections keys old sha256s) entries → Means (revocations_of sections keys new sha256s) (entries ++ Sha1Entry text ∷ [])
sha1_mean text sections keys old new sha256s entries put size m =
    means_more _ _ entries (Sha1Entry text) (sha1_orderly text sections keys old new sha256s put size m.orderly) gains m
  where
    gains : (name : Name) → HoldsName (revocations_of sections keys new sha256s) name ↔ (HoldsName (revocations_of sections keys old sha256s) name ⊎ EntryNames (Sha1Entry text) name)
    gains (Sha1Of t) = put_held old text new put t
    gains name = iff_none (λ no. no)

pub sha256_orderly : (text : List ℕ) (sections : List Section) (keys sha1s old new : List (List ℕ)) → Puts old text new → length text ≡ 32 → IsOrderly (revocations_of sections keys sha1s old) → IsOrderly (revocations_of sections keys sha1s new)
sha256_orderly text sections keys sha1s old new put size o =
    record {
      authorities_rise = o.authorities_rise;
      listed = o.listed;
      keys_rise = o.keys_rise;
      sha1s_rise = o.sha1s_rise;
      sha256s_rise = put_rises old text new put o.sha256s_rise;
      sha1_size = o.sha1_size;
      sha256_size = put_all (λ hash. length hash ≡ 32) old text new put size o.sha256_size;
    }

pub sha256_mean : (text : List ℕ) (sections : List Section) (keys sha1s old new : List (List ℕ)) (entries : List Entry) → Puts old text new → length text ≡ 32 → Means (revocations_of sections keys sha1s old) entries → Means (revocations_of sections keys sha1s new) (entries ++ Sha256Entry text ∷ [])
sha256_mean text sections keys sha1s old new entries put size m =
    means_more _ _ entries (Sha256Entry text) (sha256_orderly text sections keys sha1s old new put size m.orderly) gains m
  where
    gains : (name : Name) → HoldsName (revocations_of sections keys sha1s new) name ↔ (HoldsName (revocations_of sections keys sha1s old) name ⊎ EntryNames (Sha256Entry text) name)
    gains (Sha256Of t) = put_held old text new put t
    gains name = iff_none (λ no. no)
