-- The names that a reader gives.
use Rattle.std.proofs.Common.{◌≡◌, ◌≢◌, ℕ, zero, suc, ◌<◌, ◌≤◌, ◌+◌, List, [], ◌∷◌, ◌++◌, length, take, Option, Some, None, IfSome}
use Rattle.std.proofs.Common.{refl, sym, ap, subst, ◌∙◌, append-nil, arith, inl, inr}
use Rattle.std.proofs.KnownBytes.{Consumes-nil, Consumes-trans}
use Rattle.std.proofs.lemmas.Bool.{cases_lt}
use Rattle.std.proofs.lemmas.List.{length-append, length-take-le, take_all}
use Rattle.std.proofs.Math.Dec.{eqb-suc-zero}
use Rattle.std.specs.Io.KnownBytes.{Consumes}
use Rattle.audit_run.specs.ZeroEnded.{Comes, Gives, Unread, most_bytes, names_after, rest_after}

-- ---- a name of which no more than this is kept

-- one that is not too long is whole
pub whole_name : (most : ℕ) (name full : List ℕ) → name ≡ take (most + 1) full → length name ≤ most → name ≡ full
whole_name most name full is fits = elim (cases_lt most (length full)) [
  | inl long ↦
      let more : most + 1 ≤ length full = omega (arith, long) in
      let size : length name ≡ most + 1 = ap (λ (n : List ℕ). length n) is ∙ length-take-le (most + 1) full more in
      absurd (omega (arith, fits, size))
  | inr short ↦
      let less : length full ≤ most + 1 = omega (arith, short) in
      is ∙ take_all (most + 1) full less
]

-- one that is too long is so
pub long_full : (most : ℕ) (name full : List ℕ) → name ≡ take (most + 1) full → most < length name → most < length full
long_full most name full is long = elim (cases_lt most (length full)) [
  | inl longer ↦ longer
  | inr short ↦
      let less : length full ≤ most + 1 = omega (arith, short) in
      let same : length name ≡ length full = ap (λ (n : List ℕ). length n) (is ∙ take_all (most + 1) full less) in
      absurd (omega (arith, same, long, short))
]

-- ---- the names of some bytes

names_append : (front xs ys : List ℕ) → names_after front (xs ++ ys) ≡ names_after front xs ++ names_after (rest_after front xs) ys
unfolding names_after rest_after
names_append front [] ys = refl
names_append front (zero ∷ xs) ys = ap (λ (names : List (List ℕ)). front ∷ names) (names_append [] xs ys)
names_append front (suc byte ∷ xs) ys = rw (eqb-suc-zero byte) (names_append (front ++ suc byte ∷ []) xs ys)

rest_append : (front xs ys : List ℕ) → rest_after front (xs ++ ys) ≡ rest_after (rest_after front xs) ys
unfolding names_after rest_after
rest_append front [] ys = refl
rest_append front (zero ∷ xs) ys = rest_append [] xs ys
rest_append front (suc byte ∷ xs) ys = rw (eqb-suc-zero byte) (rest_append (front ++ suc byte ∷ []) xs ys)

names_byte : (front : List ℕ) (byte : ℕ) → byte ≢ 0 → names_after front (byte ∷ []) ≡ []
unfolding names_after
names_byte front zero is = absurd (is refl)
names_byte front (suc byte) is = rw (eqb-suc-zero byte) refl

rest_byte : (front : List ℕ) (byte : ℕ) → byte ≢ 0 → rest_after front (byte ∷ []) ≡ front ++ byte ∷ []
unfolding rest_after
rest_byte front zero is = absurd (is refl)
rest_byte front (suc byte) is = rw (eqb-suc-zero byte) refl

-- ---- what a reader gave

pub comes_none : (now : Unread) → Comes now now []
comes_none now = record { consumed = Consumes-nil now.left; counted = omega arith }

comes_more : (old mid new : Unread) (bytes more : List ℕ) → Comes old mid bytes → Comes mid new more → Comes old new (bytes ++ more)
comes_more old mid new bytes more first second = record {
  consumed = Consumes-trans old.left mid.left new.left bytes more first.consumed second.consumed;
  counted = omega (arith, first.counted, second.counted, length-append bytes more);
}

pub gives_none : (now : Unread) → Gives now now [] []
unfolding names_after rest_after
gives_none now = record { came = []; comes = comes_none now; names_are = refl; front_is = refl }

gives_more : (old mid new : Unread) (names : List (List ℕ)) (front bytes : List ℕ) → Gives old mid names front → Comes mid new bytes
    → Gives old new (names ++ names_after front bytes) (rest_after front bytes)
gives_more old mid new names front bytes was comes = record {
  came = was.came ++ bytes;
  comes = comes_more old mid new was.came bytes was.comes comes;
  names_are = names_append [] was.came bytes ∙ rw (was.names_are, was.front_is) refl;
  front_is = rest_append [] was.came bytes ∙ rw was.front_is refl;
}

pub gives_byte : (old mid new : Unread) (front : List ℕ) (byte : ℕ) → Gives old mid [] front → Comes mid new (byte ∷ []) → byte ≢ 0
    → Gives old new [] (front ++ byte ∷ [])
gives_byte old mid new front byte was comes some =
    rw (names_byte front byte some, rest_byte front byte some) at (gives_more old mid new [] front (byte ∷ []) was comes)

pub gives_name : (old mid new : Unread) (front : List ℕ) (byte : ℕ) → Gives old mid [] front → Comes mid new (byte ∷ []) → byte ≡ 0
    → Gives old new (front ∷ []) []
unfolding names_after rest_after
gives_name old mid new front zero was comes ends = gives_more old mid new [] front (0 ∷ []) was comes
gives_name old mid new front (suc byte) was comes ends = absurd (omega (arith, ends))

-- one call after another
pub gives_then : (old mid new : Unread) (names more : List (List ℕ)) (front : List ℕ) → Gives old mid names [] → Gives mid new more front
    → Gives old new (names ++ more) front
gives_then old mid new names more front was next =
    rw (next.names_are, next.front_is) at (gives_more old mid new names [] next.came was next.comes)

pub gives_last : (old mid new : Unread) (names : List (List ℕ)) (front : List ℕ) → Gives old mid names [] → Gives mid new [] front
    → Gives old new names front
gives_last old mid new names front was next =
    subst (λ (n : List (List ℕ)). Gives old new n front) (append-nil names) (gives_then old mid new names [] front was next)

-- a name takes a byte at least
some_came : (came : List ℕ) (name : List ℕ) → names_after [] came ≡ name ∷ [] → 0 < length came
unfolding names_after
some_came [] name is = absurd (cc)
some_came (byte ∷ came) name is = omega arith

pub shorter : (old new : Unread) (name : List ℕ) → Gives old new (name ∷ []) [] → new.room < old.room
shorter old new name gives = omega (arith, gives.comes.counted, some_came gives.came name gives.names_are)

-- ---- what is known of all bytes of a reader

-- some of them came
pub of_front : (P : List ℕ → Type 0) (old new : Option (List ℕ)) (came : List ℕ) → Consumes old new came
    → ((rest : List ℕ) → P (came ++ rest)) → IfSome old P
of_front P None new came comes holds = tt
of_front P (Some bytes) None came comes holds = absurd comes
of_front P (Some bytes) (Some rest) came comes holds = subst P (sym comes) (holds rest)

-- as many came as are read
pub too_many_came : (begun now : Unread) (names : List (List ℕ)) (front : List ℕ) → Gives begun now names front → now.room ≡ 0
    → begun.room ≡ most_bytes → IfSome begun.left (λ bytes. most_bytes ≤ length bytes)
too_many_came begun now names front gives none all =
    of_front (λ bytes. most_bytes ≤ length bytes) begun.left now.left gives.came gives.comes.consumed
    (λ rest. omega (arith, gives.comes.counted, none, all, length-append gives.came rest))
