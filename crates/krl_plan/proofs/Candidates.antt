-- Monotonic queues: a candidate added, the farthest dropped, and the least.
use Rattle.krl_plan.proofs.Common.{[], ◌++◌, ◌+◌, ◌-◌, ◌<◌, ◌^◌, ◌∙◌, ◌∷◌, ◌≡◌, ◌≤◌, ◌⊎◌, All}
use Rattle.krl_plan.proofs.Common.{All-contains, AnswersFor, ap, AreOrdered, arith, Candidate}
use Rattle.krl_plan.proofs.Common.{cases_lt, common_steps, Contains, Contains-append_left}
use Rattle.krl_plan.proofs.Common.{Contains-push, Contains-push_cases, drop, Forgets, get_or}
use Rattle.krl_plan.proofs.Common.{get_or-drop, get_or-take, get_or_default, inl, inr, IsFilled}
use Rattle.krl_plan.proofs.Common.{IsFirstOf, IsLeastOf, length, length-drop, length-take}
use Rattle.krl_plan.proofs.Common.{length-take-le, List, Pushes, refl, subst, suc, sym, take, ℕ}
use Rattle.std.proofs.lemmas.List.Sorted.{IsNonDecreasingBy-take}

pub ordered_take : (n : ℕ) (candidates : List Candidate) → n ≤ length candidates → AreOrdered candidates → AreOrdered (take n candidates)
ordered_take n candidates le s =
    let len = length-take-le n candidates le in
    record {
      values = IsNonDecreasingBy-take (λ candidate. candidate.value) n candidates s.values;
      positions = λ i j d lt within.
          let one = get_or-take n candidates i d (omega arith) in
          let other = get_or-take n candidates j d (omega arith) in
          rw (one, other) (s.positions i j d lt (omega arith));
    }

-- ---- the greater ones dropped

pub front_few : (old candidates : List Candidate) → candidates ≡ take (length candidates) old → length candidates ≤ length old
front_few old candidates front = let h = ap length front in let len = length-take (length candidates) old in omega arith

pub front_within : (old candidates : List Candidate) (value n : ℕ) (last : Candidate) → AreOrdered old → candidates ≡ take (length candidates) old → n ≡ length candidates - 1 → last ≡ get_or candidates n last → last.value ≤ value
    → All (λ candidate. candidate.value ≤ value) candidates
front_within old candidates value n last s front e is le k d lt =
    let here : AreOrdered candidates = subst AreOrdered (sym front) (ordered_take (length candidates) old (front_few old candidates front) s) in
    let up : (get_or candidates k d).value ≤ (get_or candidates n d).value = here.values k n d (omega arith) (omega arith) in
    grind (arith, get_or_default)

pub front_dropped : (old candidates : List Candidate) (value : ℕ) → candidates ≡ take (length candidates) old → ((k : ℕ) (d : Candidate) → length candidates ≤ k → k < length old → value < (get_or old k d).value)
    → (candidate : Candidate) → Contains old candidate → Contains candidates candidate ⊎ (value < candidate.value)
front_dropped old candidates value front past candidate c = grind (arith, common_steps, get_or-take)

-- ---- a candidate added

contains_front : (old candidates : List Candidate) (candidate : Candidate) → candidates ≡ take (length candidates) old → Contains candidates candidate → Contains old candidate
contains_front old candidates candidate front c =
    let le = front_few old candidates front in
    let at : get_or candidates c.0 candidate ≡ get_or old c.0 candidate = ap (λ (xs : List Candidate). get_or xs c.0 candidate) front ∙ get_or-take (length candidates) old c.0 candidate c.1 in
    (c.0, omega arith, sym at ∙ c.2)

-- the new candidate answers for all that a dropped one answered for
answers_more : (candidates : List Candidate) (candidate one other : Candidate) → candidate.value < one.value → candidate.position < one.position → (one ≡ other) ⊎ ((one.value < other.value) × (one.position ≤ other.position)) → AnswersFor (candidates ++ candidate ∷ []) other
answers_more candidates candidate one other value position is =
    let below : (candidate.value < other.value) × (candidate.position ≤ other.position) = grind arith in
    (candidate, (Contains-push candidates candidate, inr below))

pub push_pushes : (old candidates : List Candidate) (candidate : Candidate) → All (λ other. candidate.position < other.position) old → candidates ≡ take (length candidates) old
    → ((other : Candidate) → Contains old other → Contains candidates other ⊎ (candidate.value < other.value)) → Pushes candidate old (candidates ++ candidate ∷ [])
push_pushes old candidates candidate before front dropped = record {
  only = λ other c. elim (Contains-push_cases candidates candidate other c) [
    | inl there ↦ inl (contains_front old candidates other front there)
    | inr e ↦ inr e
  ];
  kept = λ other a.
      let one : Candidate = a.0 in
      elim (dropped one a.1.0) [
        | inl there ↦ (one, (Contains-append_left candidates (candidate ∷ []) one there, a.1.1))
        | inr value ↦ answers_more candidates candidate one other value (All-contains (λ m. candidate.position < m.position) old one before a.1.0) a.1.1
      ];
  taken = Contains-push candidates candidate;
}

-- ---- the farthest dropped

-- a later candidate is no farther than an earlier one
ordered_near : (candidates : List Candidate) (i j limit : ℕ) (d : Candidate) → AreOrdered candidates → i ≤ j → j < length candidates → (get_or candidates i d).position ≤ limit → (get_or candidates j d).position ≤ limit
ordered_near candidates i j limit d s le lt near = elim (cases_lt i j) [
  | inl before ↦ (let nearer = s.positions i j d before lt in omega arith)
  | inr ge ↦ (let same : i ≡ j = omega arith in subst (λ (k : ℕ). (get_or candidates k d).position ≤ limit) same near)
]

answer_near : (one other : Candidate) (limit : ℕ) → other.position ≤ limit → (one ≡ other) ⊎ ((one.value < other.value) × (one.position ≤ other.position)) → one.position ≤ limit
answer_near one other limit near is = grind arith

pub forgets_drop : (old : List Candidate) (n limit : ℕ) → AreOrdered old → ((k : ℕ) (d : Candidate) → k < n → k < length old → limit < (get_or old k d).position)
    → ((d : Candidate) → n < length old → (get_or old n d).position ≤ limit) → Forgets limit old (drop n old)
forgets_drop old n limit s past first =
    let len = length-drop n old in
    record {
      only = λ other c.
          let k : ℕ = c.0 in
          let there : get_or old (n + k) other ≡ other = sym (get_or-drop n old k other) ∙ c.2 in
          let here : (get_or old n other).position ≤ limit = first other (omega arith) in
          let near : (get_or old (n + k) other).position ≤ limit = ordered_near old n (n + k) limit other s (omega arith) (omega arith) here in
          ((n + k, omega arith, there), subst (λ (m : Candidate). m.position ≤ limit) there near);
      kept = λ other near a.
          let one : Candidate = a.0 in
          let c : Contains old one = a.1.0 in
          let k : ℕ = c.0 in
          let position : one.position ≤ limit = answer_near one other limit near a.1.1 in
          elim (cases_lt k n) [
            | inl dropped ↦
                let far : limit < (get_or old k one).position = past k one dropped c.1 in
                let p : (get_or old k one).position ≡ one.position = ap (λ (m : Candidate). m.position) c.2 in
                absurd (omega arith)
            | inr le ↦
                let at : n + (k - n) ≡ k = omega arith in
                let there : get_or (drop n old) (k - n) one ≡ one = get_or-drop n old (k - n) one ∙ ap (λ (j : ℕ). get_or old j one) at ∙ c.2 in
                (one, ((k - n, omega arith, there), a.1.1))
          ];
    }

pub forgets_back : (old candidates : List Candidate) (limit : ℕ) (first : Candidate) → AreOrdered old → candidates ≡ drop (length old - length candidates) old → length candidates ≤ length old
    → ((k : ℕ) (d : Candidate) → k + length candidates < length old → limit < (get_or old k d).position) → (0 < length candidates → first ≡ get_or candidates 0 first) → first.position ≤ limit → Forgets limit old candidates
forgets_back old candidates limit first s back few past is near =
    let n : ℕ = length old - length candidates in
    let here : (d : Candidate) → n < length old → (get_or old n d).position ≤ limit = λ d lt.
    let at : first ≡ get_or old n d = is (omega arith) ∙ ap (λ (xs : List Candidate). get_or xs 0 first) back ∙ get_or-drop n old 0 first ∙ ap (λ (k : ℕ). get_or old k first) (omega arith) ∙ get_or_default old n first d lt in
    subst (λ (m : Candidate). m.position ≤ limit) at near in
    subst (Forgets limit old) (sym back) (forgets_drop old n limit s (λ k d lt le. past k d (omega arith)) here)

-- ---- the least

first_of : (least oldest candidate one other : Candidate) → least ≡ oldest → candidate ≡ one → oldest.value ≤ candidate.value → candidate.position ≤ oldest.position → (one ≡ other) ⊎ ((one.value < other.value) × (one.position ≤ other.position))
    → IsFirstOf least other
first_of least oldest candidate one other e at le far is = grind arith

pub first_least : (candidates : List Candidate) (least : Candidate) → AreOrdered candidates → 0 < length candidates → least ≡ get_or candidates 0 least → IsLeastOf candidates least
first_least candidates least s some is = record {
  one = (0, some, sym is);
  first = λ other a.
      let k : ℕ = a.1.0.0 in
      let within : k < length candidates = a.1.0.1 in
      let at : get_or candidates k least ≡ a.0 = get_or_default candidates k least a.0 within ∙ a.1.0.2 in
      let le : (get_or candidates 0 least).value ≤ (get_or candidates k least).value = s.values 0 k least (omega arith) within in
      let far : (get_or candidates k least).position ≤ (get_or candidates 0 least).position = ordered_near candidates 0 k (get_or candidates 0 least).position least s (omega arith) within (omega arith) in
      first_of least (get_or candidates 0 least) (get_or candidates k least) a.0 other is at le far a.1.1;
}

-- ---- the candidates of counts

pub same_candidate : (a b : Candidate) → a.position ≡ b.position → a.value ≡ b.value → a.end ≡ b.end → a ≡ b
same_candidate a b position value end =
    let made : ℕ → ℕ → ℕ → Candidate = λ p v e. record { position = p; value = v; end = e } in
    ap (λ (p : ℕ). made p a.value a.end) position ∙ ap (λ (v : ℕ). made b.position v a.end) value ∙ ap (made b.position b.value) end

-- the candidates within a limit
pub forgets_filled : (old candidates : List Candidate) (limit : ℕ) (Is Near : ℕ → Type 0) (candidate_of : ℕ → Candidate) → IsFilled old Is candidate_of → Forgets limit old candidates
    → ((count : ℕ) → Is count → (candidate_of count).position ≤ limit → Near count) → ((count : ℕ) → Near count → Is count × ((candidate_of count).position ≤ limit)) → IsFilled candidates Near candidate_of
forgets_filled old candidates limit Is Near candidate_of f g near back = record {
  only = λ candidate c.
      let there = g.only candidate c in
      let is = f.only candidate there.0 in
      let position : (candidate_of is.0).position ≤ limit = subst (λ (m : Candidate). m.position ≤ limit) is.1.1 there.1 in
      (is.0, (near is.0 is.1.0 position, is.1.1));
  all = λ count n. let is = back count n in g.kept (candidate_of count) is.1 (f.all count is.0);
  small = λ candidate c. f.small candidate (g.only candidate c).0;
}

-- each candidate extended by one run, and a new one with this run alone
pub pushes_filled : (old candidates : List Candidate) (candidate : Candidate) (Is More : ℕ → Type 0) (candidate_of more_of : ℕ → Candidate) → IsFilled old Is candidate_of → Pushes candidate old candidates → candidate.value < 2 ^ 101
    → More 1 → more_of 1 ≡ candidate → ((count : ℕ) → Is count → More (suc count) × (more_of (suc count) ≡ candidate_of count))
    → ((count : ℕ) → More count → (count ≡ 1) ⊎ ((before : ℕ) × ((count ≡ suc before) × Is before))) → IsFilled candidates More more_of
pushes_filled old candidates candidate Is More candidate_of more_of f p small one is_one more back = record {
  only = λ other c. elim (p.only other c) [
    | inl there ↦
        (let is = f.only other there in let m = more is.0 is.1.0 in (suc is.0, (m.0, is.1.1 ∙ sym m.1)))
    | inr e ↦ (1, (one, sym e ∙ sym is_one))
  ];
  all = λ count n. elim (back count n) [
    | inl e ↦ subst (λ (k : ℕ). AnswersFor candidates (more_of k)) (sym e)
        (subst (λ (m : Candidate). AnswersFor candidates m) (sym is_one) (candidate, (p.taken, inl refl)))
    | inr longer ↦
        let before : ℕ = longer.0 in
        let m = more before longer.1.1 in
        subst (λ (k : ℕ). AnswersFor candidates (more_of k)) (sym longer.1.0)
        (subst (λ (m : Candidate). AnswersFor candidates m) (sym m.1) (p.kept (candidate_of before) (f.all before longer.1.1)))
  ];
  small = λ other c. elim (p.only other c) [
    | inl there ↦ f.small other there
    | inr e ↦ subst (λ (m : Candidate). m.value < 2 ^ 101) e small
  ];
}

-- each candidate extended by one run
pub longer_filled : (candidates : List Candidate) (Is More : ℕ → Type 0) (candidate_of more_of : ℕ → Candidate) → IsFilled candidates Is candidate_of
    → ((count : ℕ) → Is count → More (suc count) × (more_of (suc count) ≡ candidate_of count))
    → ((count : ℕ) → More count → (before : ℕ) × ((count ≡ suc before) × Is before)) → IsFilled candidates More more_of
longer_filled candidates Is More candidate_of more_of f more back = record {
  only = λ other c. (let is = f.only other c in let m = more is.0 is.1.0 in (suc is.0, (m.0, is.1.1 ∙ sym m.1)));
  all = λ count n.
      let longer = back count n in
      let before : ℕ = longer.0 in
      let m = more before longer.1.1 in
      subst (λ (k : ℕ). AnswersFor candidates (more_of k)) (sym longer.1.0)
      (subst (λ (m : Candidate). AnswersFor candidates m) (sym m.1) (f.all before longer.1.1));
  small = f.small;
}
