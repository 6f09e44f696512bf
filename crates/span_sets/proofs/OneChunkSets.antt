-- A set with only one chunk: queries, and the result of one change.
use Rattle.span_sets.proofs.Common.{[], ◌<◌, ◌∷◌, ◌≡◌, ◌≤◌, All, All-cons, All-nil, ap, append-nil}
use Rattle.span_sets.proofs.Common.{arith, Chunk, get_or, hi_of, IsListFrom, length, List, lo_of}
use Rattle.span_sets.proofs.Common.{refl, Replaces, sym, Widened, BlockWidened, ℕ}

pub list_one : (e : Chunk) (n : ℕ) → n ≤ hi_of e → IsListFrom (e ∷ []) n (e ∷ [])
list_one e n h = record {
  front = [];
  back = [];
  parts = refl;
  below = All-nil (λ x. hi_of x < n);
  reach = All-cons (λ x. n ≤ hi_of x) e [] h (All-nil (λ x. n ≤ hi_of x));
  some = λ none. refl;
}

pub list_below : (e : Chunk) (n : ℕ) → hi_of e < n → IsListFrom (e ∷ []) n []
list_below e n h = record {
  front = e ∷ [];
  back = [];
  parts = refl;
  below = All-cons (λ x. hi_of x < n) e [] h (All-nil (λ x. hi_of x < n));
  reach = All-nil (λ x. n ≤ hi_of x);
  some = λ none. refl;
}

pub one_widened : (was is : Chunk) (window bits : ℕ) → Widened was window bits is → BlockWidened (was ∷ []) window bits (is ∷ [])
one_widened was is window bits block = record {
  front = [];
  back = [];
  was = was;
  is = is;
  were = refl;
  are = refl;
  block = block;
}

-- all chunks replaced by one
pub one_replaced : (old few : List Chunk) (e : Chunk) (lo hi : ℕ) → All (λ x. (lo ≤ hi_of x) × (lo_of x ≤ hi)) old → length few ≡ 1 → e ≡ get_or few 0 e → Replaces old lo hi few (e ∷ [])
one_replaced old [] e lo hi inside one read = absurd (omega arith)
one_replaced old (x ∷ (y ∷ few)) e lo hi inside one read = absurd (omega arith)
one_replaced old (x ∷ []) e lo hi inside one read = record {
  front = [];
  middle = old;
  back = [];
  were = sym (append-nil old);
  are = ap (λ z. z ∷ []) read;
  below = All-nil (λ t. hi_of t < lo);
  inside = inside;
  above = All-nil (λ t. hi < lo_of t);
}
