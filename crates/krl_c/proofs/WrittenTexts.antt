-- A text of two pieces is written piece by piece.
use Rattle.std.proofs.Common.{◌≡◌, ℕ, zero, suc, ◌-◌, ◌<◌, min, List, [], ◌∷◌, ◌++◌, length, take}
use Rattle.std.proofs.Common.{drop, slice_set, refl, ap, subst, arith, length-append, append-nil}
use Rattle.std.proofs.Math.Seq.{take-append_seam, drop-append_seam, take-length, drop-length}
use borrow.Rule.Slice.PartMut.{mid_of, post_of}
use Rattle.krl_c.specs.Written.{written}

-- the last piece, and the zero byte after it
pub ended : (text old : List ℕ) (n : ℕ) → 0 < length old → n ≡ min (length text) (length old - 1)
    → slice_set (take n text ++ drop n old) n 0 ≡ written text old
ended text [] n some e = absurd (omega arith)
ended [] (old ∷ olds) zero some e = refl
ended [] (old ∷ olds) (suc n) some e = absurd (omega arith)
ended (byte ∷ text) (old ∷ []) zero some e = refl
ended (byte ∷ text) (old ∷ []) (suc n) some e = absurd (omega arith)
ended (byte ∷ text) (old ∷ (next ∷ olds)) zero some e = absurd (omega arith)
ended (byte ∷ text) (old ∷ (next ∷ olds)) (suc n) some e =
    ap (λ (bs : List ℕ). byte ∷ bs) (ended text (next ∷ olds) n (omega arith) (omega arith))

-- the first piece before the rest
pub begun : (head tail old : List ℕ) (n : ℕ) → 0 < length old → n ≡ min (length head) (length old - 1)
    → take n head ++ written tail (drop n old) ≡ written (head ++ tail) old
begun head tail [] n some e = absurd (omega arith)
begun [] tail (old ∷ olds) zero some e = refl
begun [] tail (old ∷ olds) (suc n) some e = absurd (omega arith)
begun (byte ∷ head) [] (old ∷ []) zero some e = refl
begun (byte ∷ head) (first ∷ tail) (old ∷ []) zero some e = refl
begun (byte ∷ head) tail (old ∷ []) (suc n) some e = absurd (omega arith)
begun (byte ∷ head) tail (old ∷ (next ∷ olds)) zero some e = absurd (omega arith)
begun (byte ∷ head) tail (old ∷ (next ∷ olds)) (suc n) some e =
    ap (λ (bs : List ℕ). byte ∷ bs) (begun head tail (next ∷ olds) n (omega arith) (omega arith))

-- the bytes after the first ones are replaced
put_at : (first behind new : List ℕ)
    → take (length first) (first ++ behind) ++ (new ++ post_of (length first) (length (first ++ behind) - length first) (first ++ behind)) ≡ first ++ new
put_at first behind new =
    let k : length (first ++ behind) - length first ≡ length behind = omega (arith, length-append first behind) in
    rw (k, take-append_seam first behind, drop-append_seam first behind, drop-length behind, append-nil new) refl

pub put : (n : ℕ) (first behind new : List ℕ) → length first ≡ n
    → take n (first ++ behind) ++ (new ++ post_of n (length (first ++ behind) - n) (first ++ behind)) ≡ first ++ new
put n first behind new e =
    subst (λ (k : ℕ). take k (first ++ behind) ++ (new ++ post_of k (length (first ++ behind) - k) (first ++ behind)) ≡ first ++ new) e (put_at first behind new)

-- and they are all the bytes after the first ones
rest_at : (first behind : List ℕ) → mid_of (length first) (length (first ++ behind) - length first) (first ++ behind) ≡ behind
rest_at first behind =
    let k : length (first ++ behind) - length first ≡ length behind = omega (arith, length-append first behind) in
    rw (k, drop-append_seam first behind, take-length behind) refl

pub rest : (n : ℕ) (first behind : List ℕ) → length first ≡ n → mid_of n (length (first ++ behind) - n) (first ++ behind) ≡ behind
rest n first behind e = subst (λ (k : ℕ). mid_of k (length (first ++ behind) - k) (first ++ behind) ≡ behind) e (rest_at first behind)
