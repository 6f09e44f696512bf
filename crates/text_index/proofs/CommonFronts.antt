-- The fronts of serial numbers.
use Rattle.std.proofs.Common.{◌≡◌, ℕ, zero, suc, ◌+◌, ◌<◌, ◌≤◌, ◌/◌, ◌^◌, ◌*◌, ◌-◌, ◌||◌, ◌⊎◌, ◌==◌, nat_eq, Bool, false, [], ◌∷◌, true, refl, sym, ap, subst, ◌∙◌, arith, ⊎_elim, if◌then◌else◌}
use Rattle.std.specs.List.{list_any}
use Rattle.std.proofs.Math.Nat.{pow-suc}
use Rattle.std.proofs.lemmas.Bool.{eq-eqb, ne_eqb, or_left, or_right}
use Rattle.text_index.specs.Fronts.{IsCommonFront, front, fronts}

-- ---- one front

-- one more bit is cut off
front_next : (bits n : ℕ) → front (suc bits) n ≡ front bits n / 2
unfolding front
front_next zero n = refl
front_next (suc bits) n = front_next bits (n / 2)

front_rises : (bits m n : ℕ) → m ≤ n → front bits m ≤ front bits n
unfolding front
front_rises zero m n le = le
front_rises (suc bits) m n le = front_rises bits (m / 2) (n / 2) (omega arith)

front_of_zero : (bits : ℕ) → front bits 0 ≡ 0
unfolding front
front_of_zero zero = refl
front_of_zero (suc bits) = front_of_zero bits

-- ---- the loop that cuts bits off

-- As many bits are cut off both numbers, and the others are left.
pub record IsCut (first last lo hi : ℕ) : Type 0 where
  pub bits : ℕ
  pub left : ℕ
  pub whole : bits + left ≡ 64
  pub lo_is : lo ≡ front bits first
  pub hi_is : hi ≡ front bits last
  pub lo_fits : lo < 2 ^ left
  pub hi_fits : hi < 2 ^ left

pub none_cut : (first last : ℕ) → first < 2 ^ 64 → last < 2 ^ 64 → IsCut first last first last
unfolding front
none_cut first last lo hi = record { bits = 0; left = 64; whole = refl; lo_is = refl; hi_is = refl; lo_fits = lo; hi_fits = hi }

cut_with : (first last lo hi bits left : ℕ) → bits + left ≡ 64 → lo ≡ front bits first → hi ≡ front bits last
    → lo < 2 ^ left → hi < 2 ^ left → (lo ≡ hi → ⊥) → IsCut first last (lo / 2) (hi / 2)
cut_with first last lo hi bits zero whole lo_is hi_is lo_fits hi_fits apart = absurd (apart (omega (arith, lo_fits, hi_fits)))
cut_with first last lo hi bits (suc left) whole lo_is hi_is lo_fits hi_fits apart =
    let twice : 2 ^ suc left ≡ 2 ^ left * 2 = pow-suc 2 left in
    record {
      bits = suc bits;
      left = left;
      whole = omega (arith, whole);
      lo_is = ap (λ (n : ℕ). n / 2) lo_is ∙ sym (front_next bits first);
      hi_is = ap (λ (n : ℕ). n / 2) hi_is ∙ sym (front_next bits last);
      lo_fits = omega (arith, lo_fits, twice);
      hi_fits = omega (arith, hi_fits, twice);
    }

pub one_more_cut : (first last lo hi : ℕ) → IsCut first last lo hi → (lo ≡ hi → ⊥) → IsCut first last (lo / 2) (hi / 2)
one_more_cut first last lo hi is apart = cut_with first last lo hi is.bits is.left is.whole is.lo_is is.hi_is is.lo_fits is.hi_fits apart

-- ---- all fronts

not_zero : (n : ℕ) → (suc n == 0) ≡ false
not_zero n = ne_eqb (suc n) 0 (λ (same : suc n ≡ 0). omega (arith, same))

pub more_fronts : (bits n : ℕ) → 0 < bits → 0 < n → fronts bits n ≡ n ∷ fronts (bits - 1) (n / 2)
unfolding fronts
more_fronts zero n some rest = absurd (omega arith)
more_fronts (suc bits) zero some rest = absurd (omega arith)
more_fronts (suc bits) (suc n) some rest =
    let less : bits ≡ suc bits - 1 = omega arith in
    ap (λ (b : Bool). suc n ∷ (if b then [] else fronts bits (suc n / 2))) (not_zero n) ∙ ap (λ (left : ℕ). suc n ∷ fronts left (suc n / 2)) less

pub last_front : (bits n : ℕ) → (bits ≡ 0) ⊎ (n ≡ 0) → fronts bits n ≡ n ∷ []
unfolding fronts
last_front zero n last = refl
last_front (suc bits) zero last = refl
last_front (suc bits) (suc n) last = absurd (⊎_elim (λ (none : suc bits ≡ 0). omega (arith, none)) (λ (none : suc n ≡ 0). omega (arith, none)) last)

front_among : (few bits n : ℕ) → few ≤ bits → list_any (nat_eq (front few n)) (fronts bits n) ≡ true
unfolding front fronts
front_among zero zero n le = or_left (nat_eq n n) _ (eq-eqb n n refl)
front_among zero (suc bits) n le = or_left (nat_eq n n) _ (eq-eqb n n refl)
front_among (suc few) zero n le = absurd (omega arith)
front_among (suc few) (suc bits) zero le = or_left (nat_eq (front few 0) 0) _ (eq-eqb (front few 0) 0 (front_of_zero few))
front_among (suc few) (suc bits) (suc n) le =
    let later = or_right (nat_eq (front few (suc n / 2)) (suc n)) (list_any (nat_eq (front few (suc n / 2))) (fronts bits (suc n / 2))) (front_among few bits (suc n / 2) (omega (arith, le))) in
    subst (λ (b : Bool). (nat_eq (front few (suc n / 2)) (suc n) || list_any (nat_eq (front few (suc n / 2))) (if b then [] else fronts bits (suc n / 2))) ≡ true) (sym (not_zero n)) later

-- The front that two numbers have in common is one of each number between them.
pub serial_has_front : (first last common s : ℕ) → IsCommonFront first last common → first ≤ s → s ≤ last → list_any (nat_eq common) (fronts 64 s) ≡ true
serial_has_front first last common s is low high =
    let below = front_rises is.bits first s low in
    let above = front_rises is.bits s last high in
    let same : front is.bits s ≡ common = omega (arith, is.of_first, is.of_last, below, above) in
    subst (λ (n : ℕ). list_any (nat_eq n) (fronts 64 s) ≡ true) same (front_among is.bits 64 s is.few)
