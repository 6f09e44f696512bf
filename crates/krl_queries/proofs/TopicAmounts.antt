-- How much is held within some topics.
use Rattle.krl_queries.proofs.Common.{[], ⊎_map, ◌*◌, ◌+◌, ◌∷◌, ◌≡◌, ◌≤◌, All, All-head, All-tail}
use Rattle.krl_queries.proofs.Common.{All-weaker, ap, arith, Contains, Contains-get_or, get_or}
use Rattle.krl_queries.proofs.Common.{held, HoldsId, HoldsOnlyTopics, inl, inr, IsOrderlySection, IsNamed}
use Rattle.krl_queries.proofs.Common.{IsOrderly, IsSmall, length, length-map, List, map}
use Rattle.krl_queries.proofs.Common.{mul-le-mul_right, refl, Revocations, Rises, Section}
use Rattle.krl_queries.proofs.Common.{section_size, serials_in, sha1, sha256, size_of, SomeSection}
use Rattle.krl_queries.proofs.Common.{stored, subst, sum_by, sum_by-cons, sum_by-le, ℕ}
use Rattle.std.proofs.lemmas.List.Folds.{fold-map}
use Rattle.krl_entries.proofs.Amounts.{some_contains}
use Rattle.krl_types.proofs.Equivalences.{contains_cons}
use Rattle.krl_queries.proofs.DistinctLists.{Once, once_rising, once_texts, sum_ones, sum_within}
use Rattle.krl_entries.proofs.OneMeaning.{section_authority}
use Rattle.krl_queries.proofs.Serials.{count_serials, in_serials, serials_of}
use Rattle.krl_queries.proofs.RunStarts.{count_starts, in_starts, once_starts_of, starts, starts_of}
use Rattle.krl_queries.proofs.AuthorityItems.{in_under, once_under, sum_under, under}
use Rattle.krl_types.proofs.Elements.{contains_cases, contains_none}
use Rattle.krl_entries.proofs.Elements.{some_text, some_weaker}

-- each run begins with a serial number that is asked about
held_small : (topics found : Revocations) → IsOrderly topics → HoldsOnlyTopics topics found → held found ≤ serials_in topics.sections
held_small topics found t within =
    let f = within.orderly in
    let least = sum_within (λ p. 1) (starts_of found.sections) (serials_of topics.sections) (once_starts_of found f)
    (λ p h. (in_serials topics t p.0 p.1).1 (within.runs p.0 p.1 (in_starts found f p.0 p.1 h))) in
    omega (arith, least, count_starts found, count_serials topics.sections)

-- ---- authorities

-- a named authority has a run or a key ID
by_item : (sections : List Section) (b : List ℕ) (C : Type 0) → All IsOrderlySection sections → SomeSection (λ section. section.authority ≡ b) sections
    → ((s : ℕ) → SomeSection (λ section. (section.authority ≡ b) × Contains (starts section.spans) s) sections → C) → ((text : List ℕ) → HoldsId sections b text → C) → C
by_item [] b C listed named run id = absurd named
by_item (x ∷ xs) b C listed (inl here) run id =
    elim (All-head IsOrderlySection x xs listed).some [
      | inl spans ↦ run (get_or (starts x.spans) 0 0) (inl (here, Contains-get_or (starts x.spans) 0 0 (omega (arith, spans, length-map x.spans (λ span. span.lo)))))
      | inr ids ↦ (let t = some_text x.ids ids in id t.0 (inl (here, t.1)))
    ]
by_item (x ∷ xs) b C listed (inr later) run id = by_item xs b C (All-tail IsOrderlySection x xs listed) later (λ s h. run s (inr h)) (λ text h. id text (inr h))

named_within : (topics found : Revocations) → HoldsOnlyTopics topics found → (b : List ℕ) → IsNamed found b → IsNamed topics b
named_within topics found within b named =
    let f = within.orderly in
    by_item found.sections b (IsNamed topics b) f.listed named
    (λ s h. some_weaker (λ section both. both.0) topics.sections (within.runs b s (in_starts found f b s ((in_under (λ section. starts section.spans) found.sections b s).1 h))))
    (λ text h. some_weaker (λ section both. both.0) topics.sections (within.ids b text h))

contained_named : (sections : List Section) (b : List ℕ) → Contains (map section_authority sections) b → SomeSection (λ section. section.authority ≡ b) sections
contained_named [] b h = absurd (contains_none b h)
contained_named (x ∷ xs) b h = ⊎_map (λ here. here) (contained_named xs b) (contains_cases x.authority b (map section_authority xs) h)

authorities_small : (topics found : Revocations) → HoldsOnlyTopics topics found → sum_by (λ section. length section.authority) found.sections ≤ sum_by (λ section. length section.authority) topics.sections
authorities_small topics found within =
    let least = sum_within length (map section_authority found.sections) (map section_authority topics.sections) (once_rising section_authority found.sections within.orderly.authorities_rise)
    (λ b h. some_contains b topics.sections (named_within topics found within b (contained_named found.sections b h))) in
    let sum = λ (sections : List Section). fold-map (λ (n : ℕ) (a : List ℕ). n + length a) section_authority 0 sections in
    omega (arith, least, sum found.sections, sum topics.sections)

-- ---- key IDs and hashes

ids_small : (topics found : Revocations) → HoldsOnlyTopics topics found → sum_by (λ section. size_of section.ids) found.sections ≤ sum_by (λ section. size_of section.ids) topics.sections
ids_small topics found within =
    let once = once_under (λ section. section.ids) found.sections within.orderly.authorities_rise (All-weaker IsOrderlySection (λ section. Once section.ids) (λ section is. once_texts section.ids is.ids_rise) found.sections within.orderly.listed) in
    let least = sum_within (λ p. length p.1) (under (λ section. section.ids) found.sections) (under (λ section. section.ids) topics.sections) once
    (λ p h. (in_under (λ section. section.ids) topics.sections p.0 p.1).1 (within.ids p.0 p.1 ((in_under (λ section. section.ids) found.sections p.0 p.1).0 h))) in
    let sum = sum_under (λ section. section.ids) length (λ section. size_of section.ids) (λ section. refl) in
    omega (arith, least, sum found.sections, sum topics.sections)

contains_map : (f : List ℕ → List ℕ) (xs : List (List ℕ)) (x : List ℕ) → Contains xs x → Contains (map f xs) (f x)
contains_map f [] x h = absurd (contains_none x h)
contains_map f (y ∷ xs) x h = (contains_cons (f y) (map f xs) (f x)).1 (⊎_map (λ here. ap f here) (contains_map f xs x) (contains_cases y x xs h))

hashes_small : (hash : List ℕ → List ℕ) (n : ℕ) (hashes keys : List (List ℕ)) → Rises hashes → All (λ h. length h ≡ n) hashes → ((h : List ℕ) → Contains hashes h → (blob : List ℕ) × (Contains keys blob × (hash blob ≡ h))) → size_of hashes ≤ length keys * n
hashes_small hash n hashes keys rises size of_key =
    let fewer = sum_within (λ h. 1) hashes (map hash keys) (once_texts hashes rises) (λ h m. let k = of_key h m in subst (Contains (map hash keys)) k.1.1 (contains_map hash keys k.0 k.1.0)) in
    let count : length hashes ≤ length keys = omega (arith, fewer, sum_ones hashes, sum_ones (map hash keys), length-map keys hash) in
    omega (arith, sum_by-le length n hashes (All-weaker (λ h. length h ≡ n) (λ h. length h ≤ n) (λ h e. omega (arith, e)) hashes size), mul-le-mul_right n count)

-- ---- everything that is stored

sections_size : (sections : List Section) → sum_by section_size sections ≡ sum_by (λ section. length section.authority) sections + sum_by (λ section. size_of section.ids) sections
sections_size [] = refl
sections_size (x ∷ xs) =
    omega (arith, sections_size xs, sum_by-cons section_size x xs, sum_by-cons (λ (section : Section). length section.authority) x xs, sum_by-cons (λ (section : Section). size_of section.ids) x xs)

stored_small : (topics found : Revocations) → HoldsOnlyTopics topics found → stored found ≤ stored topics + 52 * length topics.keys
stored_small topics found within =
    let f = within.orderly in
    omega (
      arith,
      sections_size found.sections,
      sections_size topics.sections,
      authorities_small topics found within,
      ids_small topics found within,
      sum_within length found.keys topics.keys (once_texts found.keys f.keys_rise) within.keys,
      hashes_small sha1 20 found.sha1s topics.keys f.sha1s_rise f.sha1_size within.sha1s,
      hashes_small sha256 32 found.sha256s topics.keys f.sha256s_rise f.sha256_size within.sha256s,
    )

-- the findings for some topics are small
pub small_within : (topics found : Revocations) → IsOrderly topics → HoldsOnlyTopics topics found → IsSmall topics found
small_within topics found t within = record { held_is = held_small topics found t within; stored_is = stored_small topics found within }
