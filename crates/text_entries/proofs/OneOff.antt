-- The test of one slip is that of the relation.
use Rattle.std.proofs.Common.{◌≡◌, ◌≢◌, ℕ, ◌≤◌, ◌==◌, ◌||◌, ◌&&◌, ◌⊎◌, inl, inr, Bool, true, false, List, [], ◌∷◌, ◌++◌, length, refl, sym, ap, ◌∙◌, arith}
use Rattle.std.proofs.lemmas.Bool.{and_parts}
use Rattle.std.proofs.lemmas.Bool.Decides.{Decides-eqb}
use Rattle.std.proofs.lemmas.Slice.Eq.{bytes_eq-Decides}
use Rattle.std.specs.Char.{eq_ignore_ascii_case, to_ascii_lowercase}
use Rattle.std.specs.Prelude.{◌↔◌, IsTrue, map}
use Rattle.std.specs.Str.{bytes_eq}
use Rattle.text_entries.specs.OneOff.{AreExchanged, IsLetter, IsOneOff, is_exchanged, is_one_off}

or_true : (first : Bool) → (first || true) ≡ true
or_true true = refl
or_true false = refl

eq_self : (text : List ℕ) → bytes_eq text text ≡ true
eq_self text = (bytes_eq-Decides text text).1 refl

same_self : (x : ℕ) → (x == x) ≡ true
same_self x = (Decides-eqb x x).1 refl

-- ---- the relation holds where the test does

longer : (x y : ℕ) (left right : List ℕ) → x ≡ y → IsOneOff left right → IsOneOff (x ∷ left) (y ∷ right)
longer x y left right same off = record {
  front = x ∷ off.front;
  x = off.x;
  y = off.y;
  back = off.back;
  left_is = ap (λ (l : List ℕ). x ∷ l) off.left_is;
  right_is = rw same (ap (λ (l : List ℕ). y ∷ l) off.right_is);
  slip = off.slip;
  differ = λ equal. off.differ cc;
}

other : (x y : ℕ) (left right : List ℕ) → x ≢ y → left ≡ right → IsOneOff (x ∷ left) (y ∷ right)
other x y left right apart same = record {
  front = [];
  x = x ∷ [];
  y = y ∷ [];
  back = left;
  left_is = refl;
  right_is = rw same refl;
  slip = inl (omega arith, omega arith);
  differ = λ equal. apart cc;
}

more_right : (x y : ℕ) (left right : List ℕ) → x ≢ y → x ∷ left ≡ right → IsOneOff (x ∷ left) (y ∷ right)
more_right x y left right apart same = record {
  front = [];
  x = [];
  y = y ∷ [];
  back = x ∷ left;
  left_is = refl;
  right_is = rw same refl;
  slip = inl (omega arith, omega arith);
  differ = λ equal. apart cc;
}

more_left : (x y : ℕ) (left right : List ℕ) → x ≢ y → left ≡ y ∷ right → IsOneOff (x ∷ left) (y ∷ right)
more_left x y left right apart same = record {
  front = [];
  x = x ∷ [];
  y = [];
  back = y ∷ right;
  left_is = rw same refl;
  right_is = refl;
  slip = inl (omega arith, omega arith);
  differ = λ equal. apart cc;
}

exchanged : (x y : ℕ) (left right : List ℕ) → x ≢ y → is_exchanged x y left right ≡ true → IsOneOff (x ∷ left) (y ∷ right)
exchanged x y [] right apart holds = absurd cc
exchanged x y (a ∷ left) [] apart holds = absurd cc
exchanged x y (a ∷ left) (b ∷ right) apart holds =
    let parts = and_parts (a == y) (b == x && bytes_eq left right) holds in
    let others = and_parts (b == x) (bytes_eq left right) parts.1 in
    let a_is : a ≡ y = (Decides-eqb a y).0 parts.0 in
    let b_is : b ≡ x = (Decides-eqb b x).0 others.0 in
    let same : left ≡ right = (bytes_eq-Decides left right).0 others.1 in
    record {
      front = [];
      x = x ∷ y ∷ [];
      y = y ∷ x ∷ [];
      back = left;
      left_is = rw a_is refl;
      right_is = rw (b_is, same) refl;
      slip = inr (x, y, refl, refl);
      differ = λ equal. apart cc;
    }

let_out : (x y : ℕ) (left right : List ℕ) → x ≢ y → (a e b c : Bool) → bytes_eq left right ≡ a → is_exchanged x y left right ≡ e → bytes_eq (x ∷ left) right ≡ b
    → bytes_eq left (y ∷ right) ≡ c → (a || (e || (b || c))) ≡ true → IsOneOff (x ∷ left) (y ∷ right)
let_out x y left right apart true e b c is_a is_e is_b is_c holds = other x y left right apart ((bytes_eq-Decides left right).0 is_a)
let_out x y left right apart false true b c is_a is_e is_b is_c holds = exchanged x y left right apart is_e
let_out x y left right apart false false true c is_a is_e is_b is_c holds = more_right x y left right apart ((bytes_eq-Decides (x ∷ left) right).0 is_b)
let_out x y left right apart false false false true is_a is_e is_b is_c holds = more_left x y left right apart ((bytes_eq-Decides left (y ∷ right)).0 is_c)
let_out x y left right apart false false false false is_a is_e is_b is_c holds = absurd cc

abbrev rest_off : Bool → ℕ → ℕ → List ℕ → List ℕ → Bool
rest_off true x y left right = is_one_off left right
rest_off false x y left right = bytes_eq left right || (is_exchanged x y left right || (bytes_eq (x ∷ left) right || bytes_eq left (y ∷ right)))

first_is : (x y : ℕ) (left right : List ℕ) (same : Bool) → (x == y) ≡ same → is_one_off (x ∷ left) (y ∷ right) ≡ true → rest_off same x y left right ≡ true
first_is x y left right true is holds = rw is at holds
first_is x y left right false is holds = rw is at holds

by_first : (x y : ℕ) (left right : List ℕ) (same : Bool) → (x == y) ≡ same → rest_off same x y left right ≡ true
    → (is_one_off left right ≡ true → IsOneOff left right) → IsOneOff (x ∷ left) (y ∷ right)
by_first x y left right true is holds further = longer x y left right ((Decides-eqb x y).0 is) (further holds)
by_first x y left right false is holds further =
    let_out x y left right (λ same. let never : false ≡ true = sym is ∙ (Decides-eqb x y).1 same in absurd cc) _ _ _ _ refl refl refl refl holds

pub off_found : (left right : List ℕ) → is_one_off left right ≡ true → IsOneOff left right
off_found [] [] holds = absurd cc
off_found [] (y ∷ []) holds = record {
  front = [];
  x = [];
  y = y ∷ [];
  back = [];
  left_is = refl;
  right_is = refl;
  slip = inl (omega arith, omega arith);
  differ = λ equal. absurd cc;
}
off_found [] (y ∷ z ∷ right) holds = absurd (omega (arith, (Decides-eqb (length (y ∷ z ∷ right)) 1).0 holds))
off_found (x ∷ []) [] holds = record {
  front = [];
  x = x ∷ [];
  y = [];
  back = [];
  left_is = refl;
  right_is = refl;
  slip = inl (omega arith, omega arith);
  differ = λ equal. absurd cc;
}
off_found (x ∷ z ∷ left) [] holds = absurd (omega (arith, (Decides-eqb (length (z ∷ left)) 0).0 holds))
off_found (x ∷ left) (y ∷ right) holds = by_first x y left right (x == y) refl (first_is x y left right (x == y) refl holds) (off_found left right)

-- ---- the test holds where the relation does

is_first : (x y : ℕ) (left right : List ℕ) (same : Bool) → (x == y) ≡ same → rest_off same x y left right ≡ true → is_one_off (x ∷ left) (y ∷ right) ≡ true
is_first x y left right true is holds = rw is holds
is_first x y left right false is holds = rw is holds

kept_right : (b c : ℕ) (back : List ℕ) (same : Bool) → is_one_off back (c ∷ back) ≡ true → rest_off same c b back (c ∷ back) ≡ true
kept_right b c back true further = further
kept_right b c back false further =
    rw (eq_self (c ∷ back), or_true (is_exchanged c b back (c ∷ back))) (or_true (bytes_eq back (c ∷ back)))

off_right : (b : ℕ) (back : List ℕ) → is_one_off back (b ∷ back) ≡ true
off_right b [] = refl
off_right b (c ∷ back) = is_first c b back (c ∷ back) (c == b) refl (kept_right b c back (c == b) (off_right c back))

kept_left : (a c : ℕ) (back : List ℕ) (same : Bool) → is_one_off (c ∷ back) back ≡ true → rest_off same a c (c ∷ back) back ≡ true
kept_left a c back true further = further
kept_left a c back false further =
    rw (eq_self (c ∷ back), or_true (bytes_eq (a ∷ c ∷ back) back), or_true (is_exchanged a c (c ∷ back) back)) (or_true (bytes_eq (c ∷ back) back))

off_left : (a : ℕ) (back : List ℕ) → is_one_off (a ∷ back) back ≡ true
off_left a [] = refl
off_left a (c ∷ back) = is_first a c (c ∷ back) back (a == c) refl (kept_left a c back (a == c) (off_left c back))

off_both : (a b : ℕ) (back : List ℕ) (same : Bool) → (a == b) ≡ same → a ∷ back ≢ b ∷ back → rest_off same a b back back ≡ true
off_both a b back true is differ = absurd (differ (ap (λ (x : ℕ). x ∷ back) ((Decides-eqb a b).0 is)))
off_both a b back false is differ = rw (eq_self back) refl

off_exchanged : (a b : ℕ) (back : List ℕ) (same : Bool) → (a == b) ≡ same → a ∷ b ∷ back ≢ b ∷ a ∷ back → rest_off same a b (b ∷ back) (a ∷ back) ≡ true
off_exchanged a b back true is differ =
    let equal : a ≡ b = (Decides-eqb a b).0 is in
    absurd (differ (rw equal refl))
off_exchanged a b back false is differ = rw (same_self a, same_self b, eq_self back) (or_true _)

off_next : (x y back : List ℕ) → length x ≤ 1 → length y ≤ 1 → x ++ back ≢ y ++ back → is_one_off (x ++ back) (y ++ back) ≡ true
off_next [] [] back few_x few_y differ = absurd (differ refl)
off_next [] (b ∷ []) back few_x few_y differ = off_right b back
off_next (a ∷ []) [] back few_x few_y differ = off_left a back
off_next (a ∷ []) (b ∷ []) back few_x few_y differ = is_first a b back back (a == b) refl (off_both a b back (a == b) refl differ)
off_next (a ∷ c ∷ x) y back few_x few_y differ = absurd (omega (arith, few_x))
off_next x (b ∷ c ∷ y) back few_x few_y differ = absurd (omega (arith, few_y))

off_slip : (x y back : List ℕ) → IsLetter x y ⊎ AreExchanged x y → x ++ back ≢ y ++ back → is_one_off (x ++ back) (y ++ back) ≡ true
off_slip x y back (inl few) differ = off_next x y back few.0 few.1 differ
off_slip x y back (inr (a, b, x_is, y_is)) differ =
    let apart : a ∷ b ∷ back ≢ b ∷ a ∷ back = rw (x_is, y_is) at differ in
    rw (x_is, y_is) (is_first a b (b ∷ back) (a ∷ back) (a == b) refl (off_exchanged a b back (a == b) refl apart))

off_after : (front x y back : List ℕ) → IsLetter x y ⊎ AreExchanged x y → front ++ (x ++ back) ≢ front ++ (y ++ back)
    → is_one_off (front ++ (x ++ back)) (front ++ (y ++ back)) ≡ true
off_after [] x y back slip differ = off_slip x y back slip differ
off_after (f ∷ front) x y back slip differ =
    rw (same_self f) (off_after front x y back slip (λ same. differ (ap (λ (l : List ℕ). f ∷ l) same)))

pub off_again : (left right : List ℕ) → IsOneOff left right → is_one_off left right ≡ true
off_again left right off =
    rw (off.left_is, off.right_is) (off_after off.front off.x off.y off.back off.slip (λ same. off.differ (off.left_is ∙ same ∙ sym off.right_is)))

-- ---- the last of the tests

unequal : (left right : List ℕ) (is : Bool) → bytes_eq left right ≡ is → (left ≡ right → false ≡ true) → is ≡ false
unequal left right false same never = refl
unequal left right true same never = let e : false ≡ true = never ((bytes_eq-Decides left right).0 same) in absurd cc

decided : (found : Bool) (left right : List ℕ) → IsTrue found ↔ (left ≡ right) → bytes_eq left right ≡ found
decided true left right test = (bytes_eq-Decides left right).1 (test.0 refl)
decided false left right test = unequal left right (bytes_eq left right) refl test.1

last_is : (x y : ℕ) (left right : List ℕ) (found : Bool) → (x == y) ≡ false → bytes_eq left right ≡ false → is_exchanged x y left right ≡ false
    → bytes_eq (x ∷ left) right ≡ false → bytes_eq left (y ∷ right) ≡ found → found ≡ is_one_off (x ∷ left) (y ∷ right)
last_is x y left right found apart a e b c = rw (apart, a, e, b, c) refl

pub last_off : (left right l r : List ℕ) (x y : ℕ) (found : Bool) → left ≡ x ∷ l → right ≡ y ∷ r → eq_ignore_ascii_case x y ≡ false
    → IsTrue false ↔ (map to_ascii_lowercase l ≡ map to_ascii_lowercase r)
    → is_exchanged (to_ascii_lowercase x) (to_ascii_lowercase y) (map to_ascii_lowercase l) (map to_ascii_lowercase r) ≡ false
    → IsTrue false ↔ (map to_ascii_lowercase left ≡ map to_ascii_lowercase r)
    → IsTrue found ↔ (map to_ascii_lowercase l ≡ map to_ascii_lowercase right)
    → found ≡ is_one_off (map to_ascii_lowercase left) (map to_ascii_lowercase right)
last_off left right l r x y found left_is right_is apart a e b c =
    let left_low : map to_ascii_lowercase left ≡ to_ascii_lowercase x ∷ map to_ascii_lowercase l = ap (λ (text : List ℕ). map to_ascii_lowercase text) left_is in
    let right_low : map to_ascii_lowercase right ≡ to_ascii_lowercase y ∷ map to_ascii_lowercase r = ap (λ (text : List ℕ). map to_ascii_lowercase text) right_is in
    rw (left_low, right_low) (last_is (to_ascii_lowercase x) (to_ascii_lowercase y) (map to_ascii_lowercase l) (map to_ascii_lowercase r) found apart
    (decided false (map to_ascii_lowercase l) (map to_ascii_lowercase r) a) e
    (decided false (to_ascii_lowercase x ∷ map to_ascii_lowercase l) (map to_ascii_lowercase r) (rw left_low at b))
    (decided found (map to_ascii_lowercase l) (to_ascii_lowercase y ∷ map to_ascii_lowercase r) (rw right_low at c)))
