-- The effect of an addition on all revocations.
use Rattle.krl_entries.proofs.Common.{◌++◌, ◌↔◌, ◌⊎◌, added_entries, Addition, AddsTo, All, Entry}
use Rattle.krl_entries.proofs.Common.{HoldsName, Item, IdOf, inr, IsOrderlySection, IsOneChange, IsOrderly}
use Rattle.krl_entries.proofs.Common.{List, Means, Name, revocations_of, RisesBy, Section, SerialOf}
use Rattle.krl_entries.proofs.Common.{Serials, SomeNames, SomeSection, TakesAddition, ℕ}
use Rattle.krl_entries.proofs.AddedSections.{InOrder, adds_rise, adds_listed, takes_serials_listed}
use Rattle.krl_entries.proofs.AddedSections.{takes_id_listed}
use Rattle.krl_entries.proofs.SomeSections.{HeldIn, no_section, some_adds}
use Rattle.krl_entries.proofs.Entries.{addition_step}
use Rattle.krl_types.proofs.Equivalences.{iff_none}
use Rattle.krl_entries.proofs.SameMeaning.{means_all}

-- ---- order

pub orderly_with : (old new : List Section) (keys sha1s sha256s : List (List ℕ)) → RisesBy (λ section. section.authority) new → All IsOrderlySection new → IsOrderly (revocations_of old keys sha1s sha256s) → IsOrderly (revocations_of new keys sha1s sha256s)
orderly_with old new keys sha1s sha256s rise listed o =
    record {
      authorities_rise = rise;
      listed = listed;
      keys_rise = o.keys_rise;
      sha1s_rise = o.sha1s_rise;
      sha256s_rise = o.sha256s_rise;
      sha1_size = o.sha1_size;
      sha256_size = o.sha256_size;
    }

pub takes_listed : (addition : Addition) (from to : Section) → IsOneChange addition → InOrder from → TakesAddition addition from to → IsOrderlySection to
takes_listed (Serials near) from to one o t = takes_serials_listed near.now from to one.0 one.1.0 o t
takes_listed (Item kind text) from to one o t = takes_id_listed text.now from to o t

pub adds_orderly : (addition : Addition) (b : List ℕ) (old new : List Section) (keys sha1s sha256s : List (List ℕ)) → IsOneChange addition → AddsTo addition b old new
    → IsOrderly (revocations_of old keys sha1s sha256s) → IsOrderly (revocations_of new keys sha1s sha256s)
adds_orderly addition b old new keys sha1s sha256s one adds o =
    orderly_with old new keys sha1s sha256s (adds_rise addition b old new adds o.authorities_rise)
    (adds_listed addition b old new (λ from to i t. takes_listed addition from to one i t) adds o.listed) o

-- ---- meaning

pub adds_mean : (addition : Addition) (b : List ℕ) (old new : List Section) (keys sha1s sha256s : List (List ℕ)) (entries : List Entry) → IsOneChange addition → AddsTo addition b old new
    → Means (revocations_of old keys sha1s sha256s) entries → Means (revocations_of new keys sha1s sha256s) (entries ++ added_entries b addition)
adds_mean addition b old new keys sha1s sha256s entries one adds m =
    means_all _ _ entries (added_entries b addition) (adds_orderly addition b old new keys sha1s sha256s one adds m.orderly) gains m
  where
    under : (name : Name) → SomeSection (HeldIn name) new ↔ (SomeSection (HeldIn name) old ⊎ SomeNames (added_entries b addition) name)
    under name = some_adds addition b old new (HeldIn name) (SomeNames (added_entries b addition) name) (addition_step addition b name one) adds

    gains : (name : Name) → HoldsName (revocations_of new keys sha1s sha256s) name ↔ (HoldsName (revocations_of old keys sha1s sha256s) name ⊎ SomeNames (added_entries b addition) name)
    gains (SerialOf a s) = under (SerialOf a s)
    gains (IdOf a text) = under (IdOf a text)
    gains name = iff_none (λ named. no_section new ((under name).1 (inr named)))
