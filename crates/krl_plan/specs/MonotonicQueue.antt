-- The least of the candidates in a stretch that slides along a line.
use Rattle.std.specs.Prelude.{◌≡◌, ℕ, ◌^◌, ◌<◌, ◌≤◌, ◌⊎◌, List, length, slice_index_or as get_or}
use Rattle.std.specs.List.{Contains}
use Rattle.std.specs.List.Sorted.{IsNonDecreasingBy}
use Rattle.krl_plan.specs.declared.monotonic_queue.Candidate.{Candidate}

-- No value is below an older one, and each position is before those of older ones.
pub record AreOrdered (candidates : List Candidate) : Type 0 where
  pub values : IsNonDecreasingBy (λ candidate. candidate.value) candidates
  pub positions : (i j : ℕ) (d : Candidate) → i < j → j < length candidates
      → (get_or candidates j d).position < (get_or candidates i d).position

-- the candidate is there, or a smaller one that is no farther
abbrev pub AnswersFor : List Candidate → Candidate → Type 0
AnswersFor candidates candidate =
    (one : Candidate) × (Contains candidates one
    × ((one ≡ candidate) ⊎ ((one.value < candidate.value) × (one.position ≤ candidate.position))))

-- one more candidate, for which others may be dropped
pub record Pushes (candidate : Candidate) (old new : List Candidate) : Type 0 where
  pub only : (other : Candidate) → Contains new other → Contains old other ⊎ (candidate ≡ other)
  pub kept : (other : Candidate) → AnswersFor old other → AnswersFor new other
  pub taken : Contains new candidate

-- the candidates within a limit
pub record Forgets (limit : ℕ) (old new : List Candidate) : Type 0 where
  pub only : (other : Candidate) → Contains new other
      → Contains old other × (other.position ≤ limit)
  pub kept : (other : Candidate) → other.position ≤ limit → AnswersFor old other
      → AnswersFor new other

-- the one candidate is smaller than the other, or equal and no nearer
abbrev pub IsFirstOf : Candidate → Candidate → Type 0
IsFirstOf one other =
    (one.value < other.value) ⊎ ((one.value ≡ other.value) × (other.position ≤ one.position))

-- the smallest of all that were added, whatever was dropped, and among equals the farthest
pub record IsLeastOf (candidates : List Candidate) (least : Candidate) : Type 0 where
  pub one : Contains candidates least
  pub first : (other : Candidate) → AnswersFor candidates other → IsFirstOf least other

-- The candidates are those of the counts for which `Is` holds, as far as they can be the smallest.
pub record IsFilled (candidates : List Candidate) (Is : ℕ → Type 0)
    (candidate_of : ℕ → Candidate) : Type 0 where
  pub only : (candidate : Candidate) → Contains candidates candidate
      → (count : ℕ) × (Is count × (candidate ≡ candidate_of count))
  pub all : (count : ℕ) → Is count → AnswersFor candidates (candidate_of count)
  pub small : (candidate : Candidate) → Contains candidates candidate → candidate.value < 2 ^ 101
