-- The end of a list when it is found, and after that.
use Rattle.krl_core.proofs.Common.{[], ◌≡◌, append-nil, at_its_end, concat, Ends, EndsAfter, HasRead}
use Rattle.krl_core.proofs.Common.{IsReached, left_of, List, LooksFor, Pull, refl, subst, sym, true}
use Rattle.krl_core.proofs.Common.{Walk, ℕ}
use Rattle.krl_core.proofs.Steps.{looked}
use Rattle.krl_core.proofs.WholeLists.{all_read}

-- the end was found in this step
pub ends_here : (old : Walk) (mid : Pull) → LooksFor old.place old.pull true mid → Ends old (at_its_end mid old.place old.stored)
ends_here old mid looks =
    let end = looks.at_end refl in record {
      is = record { ended = refl; may_end = end.0; at_end = end.1; faultless = refl; works = looks.works };
      still = λ text fields h.
          let now = looked old mid true looks text fields h in
          (now, all_read text (concat fields) now.rest (left_of mid) now.parts now.left_is end.1);
      scope_is = refl;
    }

-- the end was found before
pub ends_before : (walk : Walk) → IsReached walk → walk.ended ≡ true → EndsAfter walk walk
ends_before walk h is = record {
  is = h.ends is;
  whole = λ text fields read.
      let row = sym (append-nil fields) in
      let all = all_read text (concat fields) read.rest (left_of walk.pull) read.parts read.left_is (h.ends is).at_end in
      ([], subst (λ (r : List (List ℕ)). HasRead text r walk) row read, subst (λ (r : List (List ℕ)). text ≡ concat r) row all);
  scope_is = refl;
}
