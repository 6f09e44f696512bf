-- The topics when more is asked about.
use Rattle.krl_queries.proofs.Common.{[], ⊎_elim, ⊎_map, ◌+◌, ◌↔◌, ◌∷◌, ◌≡◌, ◌≤◌, ◌⊎◌, AllocError}
use Rattle.krl_queries.proofs.Common.{ap, arith, AsksMore, Entry, EntryNames, Err, HasUnder}
use Rattle.krl_queries.proofs.Common.{HoldsName, IdEntry, IdOf, inl, inr, IsOrderly, KeyOf, List}
use Rattle.krl_queries.proofs.Common.{MeansMore, Name, Ok, OnErr, OnOk, RangeEntry, Result}
use Rattle.krl_queries.proofs.Common.{Revocations, SerialOf}
use Rattle.krl_queries.proofs.Common.{serials_in, Sha1Of, Sha256Of, sym, ℕ}
use Rattle.krl_types.proofs.Equivalences.{iff_none, iff_or}
use Rattle.krl_entries.proofs.AddedMeaning.{means_more_names}
use Rattle.krl_queries.proofs.SerialCounts.{serials_grow, serials_stay}
use Rattle.std.proofs.Math.Logic.Iff as Iff

-- a consequence of two facts about a success
pub on_ok_with : {T E P Q R : Type 0} (r : Result T E) → (P → Q → R) → OnOk r P → OnOk r Q → OnOk r R
on_ok_with (Ok x) then p q = then p q
on_ok_with (Err e) then p q = tt

-- ---- one entry more

-- one entry more adds exactly the names of the entry
pub one_name : (old new : Revocations) (entry : Entry) → IsOrderly old → MeansMore old new (entry ∷ []) → (name : Name) → HoldsName new name ↔ (HoldsName old name ⊎ EntryNames entry name)
one_name old new entry orderly means name =
    Iff.trans ((means_more_names old new (entry ∷ []) orderly means).1 name) (iff_or Iff.rfl (Iff.symm (iff_none (λ h. h))))

-- ---- topics

-- if every held name stays held, every topic stays one
pub asks_more : (old new : Revocations) → ((name : Name) → HoldsName old name → HoldsName new name) → AsksMore old new
asks_more old new stays (SerialOf a s) h = stays (SerialOf a s) h
asks_more old new stays (IdOf a text) h = stays (IdOf a text) h
asks_more old new stays (KeyOf blob) h = stays (KeyOf blob) h
asks_more old new stays (Sha1Of hash) h = (h.0, (stays (KeyOf h.0) h.1.0, h.1.1))
asks_more old new stays (Sha256Of hash) h = (h.0, (stays (KeyOf h.0) h.1.0, h.1.1))

-- an added entry keeps every topic
pub asks_entry : (old new : Revocations) (entry : Entry) → IsOrderly old → MeansMore old new (entry ∷ []) → AsksMore old new
asks_entry old new entry orderly means = asks_more old new (λ name h. (one_name old new entry orderly means name).1 (inl h))

-- topics under an authority stay topics
pub under_stays : (old new : Revocations) (a id : List ℕ) (serial : ℕ) → AsksMore old new → HasUnder old a id serial → HasUnder new a id serial
under_stays old new a id serial more h = (more (IdOf a id) h.0, ⊎_map (λ none. none) (more (SerialOf a serial)) h.1)

-- the names of an added entry are held
pub now_held : (old new : Revocations) (entry : Entry) (name : Name) → EntryNames entry name → IsOrderly old → MeansMore old new (entry ∷ []) → HoldsName new name
now_held old new entry name is orderly means = (one_name old new entry orderly means name).1 (inr is)

-- ---- how many serial numbers are asked about

-- a key ID adds none
pub serials_with_id : (old new : Revocations) (a text : List ℕ) → IsOrderly old → MeansMore old new (IdEntry a text ∷ []) → serials_in new.sections ≤ serials_in old.sections
serials_with_id old new a text orderly means =
    serials_stay old new orderly (means_more_names old new (IdEntry a text ∷ []) orderly means).0
    (λ b s h. ⊎_elim (λ was. was) (λ no. absurd no) ((one_name old new (IdEntry a text) orderly means (SerialOf b s)).0 h))

-- a serial number adds at most one
serials_with_one : (old new : Revocations) (a : List ℕ) (serial : ℕ) → IsOrderly old → MeansMore old new (RangeEntry a serial serial ∷ []) → serials_in new.sections ≤ serials_in old.sections + 1
serials_with_one old new a serial orderly means =
    serials_grow old new a serial orderly (means_more_names old new (RangeEntry a serial serial ∷ []) orderly means).0
    (λ b s h. ⊎_map (λ was. was) (λ is. (sym is.0, (let same : s ≡ serial = omega (arith, is.1.1.0, is.1.1.1) in same))) ((one_name old new (RangeEntry a serial serial) orderly means (SerialOf b s)).0 h))

-- the same, also if the addition was refused
pub serials_with_any : (result : Result (Unit {0}) AllocError) (old new : Revocations) (a : List ℕ) (serial : ℕ) → IsOrderly old → OnOk result (MeansMore old new (RangeEntry a serial serial ∷ [])) → OnErr result (new ≡ old)
    → serials_in new.sections ≤ serials_in old.sections + 1
serials_with_any (Ok done) old new a serial orderly means refused = serials_with_one old new a serial orderly means
serials_with_any (Err fault) old new a serial orderly means refused = omega (arith, ap (λ r. serials_in r.sections) refused)
