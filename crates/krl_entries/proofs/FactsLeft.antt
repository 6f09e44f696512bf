-- The facts that are left, and the next of them.
use Rattle.krl_entries.proofs.Common.{[], ◌++◌, ◌∙◌, ◌∷◌, ◌≡◌, ap, flat_map, List, map, refl}
use Rattle.krl_entries.proofs.Common.{revocations_of, Section, Span, ℕ}
use Rattle.krl_entries.specs.Facts.{AuthorityFact, Fact, ItemFact, SerialsFact, facts_left, facts_of, section_facts}
use Rattle.krl_types.specs.declared.item_kind.ItemKind.TheVariants as kinds
use Rattle.std.proofs.lemmas.List.{append_assoc}

-- nothing was left, and nothing is
abbrev NoneLeft : {A : Type 0} → List A → List A → Type 0
NoneLeft old new = (old ≡ []) × (new ≡ [])

-- after the facts of a section come those of the next one
pub section_next : (a name : List ℕ) (runs spans : List Span) (ids texts : List (List ℕ)) (listed : Section) (old new : List Section) (k h j : List (List ℕ)) → runs ≡ [] → ids ≡ [] → old ≡ listed ∷ new
    → name ≡ listed.authority → spans ≡ listed.spans → texts ≡ listed.ids
    → facts_left a runs ids (revocations_of old k h j) ≡ AuthorityFact name ∷ facts_left name spans texts (revocations_of new k h j)
unfolding facts_of section_facts
section_next a name runs spans ids texts listed old new k h j none nor first same also last =
    let serials = map (SerialsFact listed.authority) listed.spans in
    let names = map (ItemFact kinds.Id listed.authority) listed.ids in
    let others = flat_map section_facts new in
    let rest = map (ItemFact kinds.Key []) k ++ (map (ItemFact kinds.Sha1 []) h ++ map (ItemFact kinds.Sha256 []) j) in
    rw (none, nor, first, same, also, last) (ap (λ (l : List Fact). AuthorityFact listed.authority ∷ l) (append_assoc (serials ++ names) others rest ∙ append_assoc serials names (others ++ rest)))

-- then keys
pub key_next : (a blob : List ℕ) (r t : List Span) (i l : List (List ℕ)) (s u : List Section) (k m h j : List (List ℕ)) → NoneLeft r t → NoneLeft i l → NoneLeft s u → k ≡ blob ∷ m
    → facts_left a r i (revocations_of s k h j) ≡ ItemFact kinds.Key [] blob ∷ facts_left a t l (revocations_of u m h j)
unfolding facts_of
key_next a blob r t i l s u k m h j none nor all first = rw (none.0, none.1, nor.0, nor.1, all.0, all.1, first) refl

-- then hashes
pub sha1_next : (a hash : List ℕ) (r t : List Span) (i l : List (List ℕ)) (s u : List Section) (k m h n j : List (List ℕ)) → NoneLeft r t → NoneLeft i l → NoneLeft s u → NoneLeft k m → h ≡ hash ∷ n
    → facts_left a r i (revocations_of s k h j) ≡ ItemFact kinds.Sha1 [] hash ∷ facts_left a t l (revocations_of u m n j)
unfolding facts_of
sha1_next a hash r t i l s u k m h n j none nor all keys first = rw (none.0, none.1, nor.0, nor.1, all.0, all.1, keys.0, keys.1, first) refl

pub sha256_next : (a hash : List ℕ) (r t : List Span) (i l : List (List ℕ)) (s u : List Section) (k m h n j o : List (List ℕ)) → NoneLeft r t → NoneLeft i l → NoneLeft s u → NoneLeft k m → NoneLeft h n → j ≡ hash ∷ o
    → facts_left a r i (revocations_of s k h j) ≡ ItemFact kinds.Sha256 [] hash ∷ facts_left a t l (revocations_of u m n o)
unfolding facts_of
sha256_next a hash r t i l s u k m h n j o none nor all keys sha1s first =
    rw (none.0, none.1, nor.0, nor.1, all.0, all.1, keys.0, keys.1, sha1s.0, sha1s.1, first) refl

-- and then nothing
pub nothing_next : (a : List ℕ) (r : List Span) (i : List (List ℕ)) (s : List Section) (k h j : List (List ℕ)) → r ≡ [] → i ≡ [] → s ≡ [] → k ≡ [] → h ≡ [] → j ≡ []
    → facts_left a r i (revocations_of s k h j) ≡ []
unfolding facts_of
nothing_next a r i s k h j none nor all keys sha1s sha256s = rw (none, nor, all, keys, sha1s, sha256s) refl
