-- Rising lists: the elements before and after one.
use Rattle.krl_entries.proofs.Common.{[], ◌++◌, ◌∙◌, ◌∷◌, ◌≡◌, AllAbove, AllBelow, ap, bytes_cmp}
use Rattle.krl_entries.proofs.Common.{Equal, Greater, Inserts, Less, List, map, map-append}
use Rattle.krl_entries.proofs.Common.{nat_list_cmp_total, ordering_reverse, RisesBy, subst, sym}
use Rattle.krl_entries.proofs.Common.{tied_itself, ℕ}

pub before_trans : (a b c : List ℕ) → bytes_cmp a b ≡ Less → bytes_cmp b c ≡ Less → bytes_cmp a c ≡ Less
before_trans a b c p q = nat_list_cmp_total.trans a b c p q

pub less_apart : (a b : List ℕ) → bytes_cmp a b ≡ Less → a ≡ b → ⊥
less_apart a b less same =
    let e : Less ≡ Equal = sym less ∙ ap (λ x. bytes_cmp x b) same ∙ tied_itself nat_list_cmp_total b in cc

pub tied : (a b : List ℕ) → b ≡ a → bytes_cmp a b ≡ Equal
tied a b same = ap (bytes_cmp a) same ∙ tied_itself nat_list_cmp_total a

pub turned : (a b : List ℕ) → bytes_cmp a b ≡ Greater → bytes_cmp b a ≡ Less
turned a b e = nat_list_cmp_total.antisymm b a ∙ ap ordering_reverse e

module _ {X : Type 0} (key : X → List ℕ) where
  pub AllAbove-earlier : (a b : List ℕ) (xs : List X) → bytes_cmp a b ≡ Less → AllAbove key b xs → AllAbove key a xs
  AllAbove-earlier a b [] h r = tt
  AllAbove-earlier a b (x ∷ xs) h r = (before_trans a b (key x) h r.0, AllAbove-earlier a b xs h r.1)

  above_at : (bytes : List ℕ) (front : List X) (x : X) (back : List X) → AllAbove key bytes (front ++ x ∷ back) → bytes_cmp bytes (key x) ≡ Less
  above_at bytes [] x back a = a.0
  above_at bytes (y ∷ front) x back a = above_at bytes front x back a.1

  pub front_below : (front : List X) (x : X) (back : List X) → RisesBy key (front ++ x ∷ back) → AllBelow key (key x) front
  front_below [] x back r = tt
  front_below (y ∷ front) x back r = (above_at (key y) front x back r.0, front_below front x back r.1)

  pub back_above : (front : List X) (x : X) (back : List X) → RisesBy key (front ++ x ∷ back) → AllAbove key (key x) back
  back_above [] x back r = r.0
  back_above (y ∷ front) x back r = back_above front x back r.1

  pub above_map : {Y : Type 0} (f : Y → X) (bytes : List ℕ) (ys : List Y) → AllAbove (λ y. key (f y)) bytes ys → AllAbove key bytes (map f ys)
  above_map f bytes [] a = tt
  above_map f bytes (y ∷ ys) a = (a.0, above_map f bytes ys a.1)

  pub below_map : {Y : Type 0} (f : Y → X) (bytes : List ℕ) (ys : List Y) → AllBelow (λ y. key (f y)) bytes ys → AllBelow key bytes (map f ys)
  below_map f bytes [] a = tt
  below_map f bytes (y ∷ ys) a = (a.0, below_map f bytes ys a.1)

  -- a value that is inserted into a list is inserted into its image too
  pub inserts_map : {Y : Type 0} (f : Y → X) (old : List Y) (value : Y) (new : List Y) → Inserts (λ y. key (f y)) old value new → Inserts key (map f old) (f value) (map f new)
  inserts_map f old value new i =
      record {
        front = map f i.front;
        back = map f i.back;
        before = ap (map f) i.before ∙ map-append f i.front i.back;
        after = ap (map f) i.after ∙ map-append f i.front (value ∷ i.back);
        below = below_map f (key (f value)) i.front i.below;
        above = above_map f (key (f value)) i.back i.above;
      }

  above_changed : (bytes : List ℕ) (front : List X) (from to : X) (back : List X) → key from ≡ key to → AllAbove key bytes (front ++ from ∷ back) → AllAbove key bytes (front ++ to ∷ back)
  above_changed bytes [] from to back same a = (subst (λ k. bytes_cmp bytes k ≡ Less) same a.0, a.1)
  above_changed bytes (x ∷ front) from to back same a = (a.0, above_changed bytes front from to back same a.1)

  -- a value that replaces one with the same bytes
  pub rises_changed : (front : List X) (from to : X) (back : List X) → key from ≡ key to → RisesBy key (front ++ from ∷ back) → RisesBy key (front ++ to ∷ back)
  rises_changed [] from to back same r = (subst (λ k. AllAbove key k back) same r.0, r.1)
  rises_changed (x ∷ front) from to back same r = (above_changed (key x) front from to back same r.0, rises_changed front from to back same r.1)

  above_between : (bytes : List ℕ) (front : List X) (x : X) (back : List X) → bytes_cmp bytes (key x) ≡ Less → AllAbove key bytes (front ++ back) → AllAbove key bytes (front ++ x ∷ back)
  above_between bytes [] x back less a = (less, a)
  above_between bytes (y ∷ front) x back less a = (a.0, above_between bytes front x back less a.1)

  rises_between : (front : List X) (x : X) (back : List X) → RisesBy key (front ++ back) → AllBelow key (key x) front → AllAbove key (key x) back → RisesBy key (front ++ x ∷ back)
  rises_between [] x back r below above = (above, r)
  rises_between (y ∷ front) x back r below above = (above_between (key y) front x back below.0 r.0, rises_between front x back r.1 below.1 above)

  pub inserts_rise : (old : List X) (value : X) (new : List X) → RisesBy key old → Inserts key old value new → RisesBy key new
  inserts_rise old value new r i =
      subst (RisesBy key) (sym i.after) (rises_between i.front value i.back (subst (RisesBy key) i.before r) i.below i.above)
