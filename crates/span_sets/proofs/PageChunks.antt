-- A page: the chunks that one change replaces.
use Rattle.span_sets.proofs.Common.{◌++◌, ◌+◌, ◌<◌, ◌∙◌, ◌∷◌, ◌≡◌, ◌≤◌, ◌⊎◌, All, All-drop}
use Rattle.span_sets.proofs.Common.{All-take, ap, arith, Chunk, CutTo, drop, drop-drop, drop_more}
use Rattle.span_sets.proofs.Common.{get_or, hi_of, inl, inr, length, List, lo_of, Replaces, set}
use Rattle.span_sets.proofs.Common.{set_split, stretch, subst, suc, sym, take, take-append-drop}
use Rattle.span_sets.proofs.Common.{Widened, BlockWidened, ℕ}

-- among chunks that a number does not split, those that end past it begin past it
past_whole : (number n : ℕ) (es : List Chunk) → All (λ e. (hi_of e ≤ number) ⊎ (number < lo_of e)) es → All (λ e. number < hi_of e) (drop n es) → All (λ e. number < lo_of e) (drop n es)
past_whole number n es whole past = λ k d q. elim (All-drop (λ e. (hi_of e ≤ number) ⊎ (number < lo_of e)) n es whole k d q) [
  | inl upto ↦ (let at = past k d q in absurd (omega arith))
  | inr after ↦ after
]

-- the result of two searches, as one change
pub replaced_at : (es few new : List Chunk) (lo hi from count : ℕ) → All (λ e. (hi_of e ≤ hi) ⊎ (hi < lo_of e)) es
    → All (λ e. hi_of e < lo) (take from es) → All (λ e. lo ≤ hi_of e) (drop from es)
    → All (λ e. hi_of e ≤ hi) (take count (drop from es)) → All (λ e. hi < hi_of e) (drop count (drop from es))
    → new ≡ take from es ++ (few ++ drop (from + count) es) → Replaces es lo hi few new
replaced_at es few new lo hi from count whole below reach upto past is =
    let rest = drop from es in
    let reaches = All-take (λ e. lo ≤ hi_of e) count rest reach in
    record {
      front = take from es;
      middle = take count rest;
      back = drop count rest;
      were = sym (ap (λ l. take from es ++ l) (take-append-drop count rest) ∙ take-append-drop from es);
      are = is ∙ ap (λ l. take from es ++ (few ++ l)) (sym (drop-drop count from es));
      below = below;
      inside = λ k d q. (let begin = stretch (get_or (take count rest) k d) in let end = upto k d q in (reaches k d q, omega arith));
      above = past_whole hi count rest (All-drop (λ e. (hi_of e ≤ hi) ⊎ (hi < lo_of e)) from es whole) past;
    }

-- the result of a search, as a removal of the chunks before it
pub cut_page : (es new : List Chunk) (number count : ℕ) → All (λ e. (hi_of e ≤ number) ⊎ (number < lo_of e)) es → All (λ e. hi_of e ≤ number) (take count es) → All (λ e. number < hi_of e) (drop count es) → new ≡ drop count es → CutTo es number new
cut_page es new number count whole upto past is = record {
  gone = take count es;
  were = sym (ap (λ l. take count es ++ l) is ∙ take-append-drop count es);
  inside = λ k d q. let begin = stretch (get_or (take count es) k d) in let end = upto k d q in omega arith;
  above = subst (All (λ e. number < lo_of e)) (sym is) (past_whole number count es whole past);
}

-- one block replaced by a wider one
pub widened_at : (xs : List Chunk) (position window bits : ℕ) (was is : Chunk) → position < length xs → was ≡ get_or xs position was → Widened was window bits is
    → BlockWidened xs window bits (set xs position is)
widened_at xs position window bits was is within read block =
    let front = take position xs in
    let back = drop (position + 1) xs in
    let one : suc position ≡ position + 1 = omega arith in
    record {
      front = front;
      back = back;
      was = was;
      is = is;
      were = sym (take-append-drop position xs) ∙ ap (λ l. front ++ l) (drop_more xs position was within ∙ ap (λ x. x ∷ back) (sym read));
      are = set_split xs position is within ∙ ap (λ n. front ++ is ∷ drop n xs) one;
      block = block;
    }
