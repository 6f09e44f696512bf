-- The names of a map, by their bytes.
use Rattle.std.proofs.Common.{◌≡◌, ℕ, List, [], ◌∷◌, Some, refl, ap, cond}
use Rattle.std.specs.BTreeMap.{insert_entry, is_at}
use Rattle.std.specs.Cmp.Lexicographic.{slice_cmp}
use Rattle.std.specs.Global.{Vec}
use Rattle.std.specs.Map.{lookup}
use Rattle.std.specs.Ordering.{match_ordering, nat_cmp}
use Rattle.std.specs.declared.cmp.Ordering.{Ordering}
use Rattle.std.specs.declared.cmp.Ordering.TheVariants.{Equal, Greater, Less}
use Rattle.text_entries.specs.AuthorityNames.{key_named, named_keys, with_name}

abbrev Mapped : Type 0
Mapped = List (Vec ℕ × List ℕ)

abbrev by_bytes : Vec ℕ → Vec ℕ → Ordering
by_bytes x y = slice_cmp nat_cmp x.items y.items

pub named_insert : (es : Mapped) (k : Vec ℕ) (v : List ℕ) → named_keys (insert_entry by_bytes es k v) ≡ with_name (named_keys es) k.items v
named_insert [] k v = refl
named_insert (e ∷ es) k v = go (slice_cmp nat_cmp k.items e.0.items) (named_insert es k v)
  where
    go : (o : Ordering) → named_keys (insert_entry by_bytes es k v) ≡ with_name (named_keys es) k.items v
        → named_keys (match_ordering o ((k, v) ∷ e ∷ es) ((e.0, v) ∷ es) (e ∷ insert_entry by_bytes es k v))
        ≡ match_ordering o ((k.items, v) ∷ (e.0.items, e.1) ∷ named_keys es) ((e.0.items, v) ∷ named_keys es) ((e.0.items, e.1) ∷ with_name (named_keys es) k.items v)
    go Less h = refl
    go Equal h = refl
    go Greater h = ap (λ l. (e.0.items, e.1) ∷ l) h

pub named_lookup : (name : List ℕ) (es : Mapped) → lookup (is_at (λ k. slice_cmp nat_cmp name k.items)) es ≡ key_named (named_keys es) name
named_lookup name [] = refl
named_lookup name (e ∷ es) = ap (λ o. cond (is_at (slice_cmp nat_cmp name) e.0.items) (Some e.1) o) (named_lookup name es)
