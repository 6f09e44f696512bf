-- The parts of bytes that come one after another.
use Rattle.std.proofs.Common.{◌≡◌, ℕ, Bool, true, false, cond, List, [], ◌∷◌, ◌++◌, refl, sym, ap, ◌∙◌}
use Rattle.std.specs.List.{onto_first}
use Rattle.key_text.specs.Lines.{is_newline}
use Rattle.login_run.specs.Log.{onto, parts_of}

pub onto_none : (parts : List (List ℕ)) → onto [] parts ≡ parts
onto_none [] = refl
onto_none (part ∷ parts) = refl

-- the last part of some and the first of others are one
abbrev joined : List (List ℕ) → List (List ℕ) → List (List ℕ)
joined [] others = others
joined (part ∷ []) others = onto part others
joined (part ∷ next ∷ parts) others = part ∷ joined (next ∷ parts) others

-- there is a first part
record HasFirst (parts : List (List ℕ)) : Type 0 where
  first : List ℕ
  rest : List (List ℕ)
  is : parts ≡ first ∷ rest

onto_has : (byte : ℕ) (parts : List (List ℕ)) → HasFirst parts → HasFirst (onto_first byte parts)
onto_has byte parts has = record { first = byte ∷ has.first; rest = has.rest; is = ap (onto_first byte) has.is }

split_has : (b : Bool) (byte : ℕ) (parts : List (List ℕ)) → HasFirst parts → HasFirst (cond b ([] ∷ parts) (onto_first byte parts))
split_has true byte parts has = record { first = []; rest = parts; is = refl }
split_has false byte parts has = onto_has byte parts has

has_first : (bytes : List ℕ) → HasFirst (parts_of bytes)
has_first [] = record { first = []; rest = []; is = refl }
has_first (byte ∷ bytes) = split_has (is_newline byte) byte (parts_of bytes) (has_first bytes)

join_more : (part first : List ℕ) (rest others : List (List ℕ)) → joined (part ∷ (first ∷ rest)) others ≡ part ∷ joined (first ∷ rest) others
join_more part first rest others = refl

first_onto : (byte : ℕ) (first : List ℕ) (rest others : List (List ℕ)) → HasFirst others → onto_first byte (joined (first ∷ rest) others) ≡ joined ((byte ∷ first) ∷ rest) others
first_onto byte first [] [] has = let bad = has.is in absurd cc
first_onto byte first [] (other ∷ others) has = refl
first_onto byte first (next ∷ rest) others has = refl

step : (b : Bool) (byte : ℕ) (parts others : List (List ℕ)) → HasFirst parts → HasFirst others
    → cond b ([] ∷ joined parts others) (onto_first byte (joined parts others)) ≡ joined (cond b ([] ∷ parts) (onto_first byte parts)) others
step true byte parts others has more =
    let is : parts ≡ has.first ∷ has.rest = has.is in
    ap (λ (p : List (List ℕ)). [] ∷ joined p others) is ∙ sym (join_more [] has.first has.rest others) ∙ ap (λ (p : List (List ℕ)). joined ([] ∷ p) others) (sym is)
step false byte parts others has more =
    let is : parts ≡ has.first ∷ has.rest = has.is in
    ap (λ (p : List (List ℕ)). onto_first byte (joined p others)) is ∙ first_onto byte has.first has.rest others more ∙ ap (λ (p : List (List ℕ)). joined (onto_first byte p) others) (sym is)

parts_joined : (bytes more : List ℕ) → parts_of (bytes ++ more) ≡ joined (parts_of bytes) (parts_of more)
parts_joined [] more = sym (onto_none (parts_of more))
parts_joined (byte ∷ bytes) more =
    ap (λ (p : List (List ℕ)). cond (is_newline byte) ([] ∷ p) (onto_first byte p)) (parts_joined bytes more) ∙ step (is_newline byte) byte (parts_of bytes) (parts_of more) (has_first bytes) (has_first more)

joined_last : (ended : List (List ℕ)) (front : List ℕ) (others : List (List ℕ)) → joined (ended ++ front ∷ []) others ≡ ended ++ onto front others
joined_last [] front others = refl
joined_last (part ∷ []) front others = refl
joined_last (part ∷ next ∷ ended) front others = ap (λ (p : List (List ℕ)). part ∷ p) (joined_last (next ∷ ended) front others)

-- more bytes go on with the part that is unfinished
pub parts_more : (bytes more : List ℕ) (ended : List (List ℕ)) (front : List ℕ) → parts_of bytes ≡ ended ++ front ∷ [] → parts_of (bytes ++ more) ≡ ended ++ onto front (parts_of more)
parts_more bytes more ended front is = parts_joined bytes more ∙ ap (λ (p : List (List ℕ)). joined p (parts_of more)) is ∙ joined_last ended front (parts_of more)
