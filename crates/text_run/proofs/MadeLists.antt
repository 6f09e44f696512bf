-- The entries that texts name are stored, and made into a list over the old one.
use Rattle.std.proofs.Common.{◌≡◌, ◌≢◌, ℕ, Bool, ◌||◌, true, false, List, Option, None, Some, Result, Ok, Err, inl, inr, sym, ap, subst, unwrap_or}
use Rattle.krl_entries.specs.Revocations.{Revocations, nothing}
use Rattle.krl_types.specs.Entry.{Entry}
use Rattle.krl_types.specs.declared.krl_fault.KrlFault.{KrlFault}
use Rattle.list_making.specs.Target.{Old}
use Rattle.text_run.specs.Base.{IsReadOver, Krl, base_in, empty, new_base, takes_contents, unknown}
use Rattle.text_run.specs.Fault.{MakeFault}
use Rattle.text_entries.specs.declared.standing.Standing.{Standing}
use Rattle.text_run.specs.Making.{AddsTexts, HoldsMore, day_at, only_entries}
use Rattle.text_run.specs.Over.{IsEnough, IsHeld, IsMadeOver, IsMerged, IsRefused, IsTooLittle, MakesOver, entries_asked, too_little}
use Rattle.text_run.specs.declared.base.Base.{Base}
use Rattle.text_run.specs.declared.inputs.Inputs.{Inputs}
use Rattle.text_run.specs.declared.inputs.Over.{Over}
use Rattle.text_run.specs.declared.inputs.Over.TheVariants.{Nothing, Version, Contents}
use Rattle.text_run.specs.declared.listed.Merged.{Merged}

pub texts_held : (inputs : Inputs) (listed : Revocations) (standing : Standing) → AddsTexts (day_at inputs.date) inputs.texts.now (Ok standing) nothing listed
    → IsEnough inputs listed → IsHeld inputs listed
texts_held inputs listed standing (entries, read, adds) enough = record { entries = entries; read = ap only_entries read; adds = adds; enough = enough }

pub texts_too_little : (inputs : Inputs) (listed : Revocations) (standing : Standing) (fault : MakeFault) → AddsTexts (day_at inputs.date) inputs.texts.now (Ok standing) nothing listed
    → IsTooLittle inputs listed fault → IsRefused inputs fault
texts_too_little inputs listed standing fault (entries, read, adds) little = too_little entries listed (ap only_entries read) adds little

-- ---- over the old list

-- Nothing is held of the old list, unless its contents are taken over.
held_of : (over : Over) (given : Option ℕ) (old : Old) (base : Base) → takes_contents over ≡ false → IsReadOver over given old (Ok base) → base.revocations ≡ nothing
held_of Contents given old base is over = absurd (cc is)
held_of Nothing given old base is over = let same : base ≡ new_base = cc over in ap (λ (b : Base). b.revocations) same
held_of Version given None base is over = let same : base ≡ new_base = cc over in ap (λ (b : Base). b.revocations) same
held_of Version given (Some before) base is (inl (empty some none over)) = let same : base ≡ new_base = cc over in ap (λ (b : Base). b.revocations) same
held_of Version given (Some before) base is (inl (unknown some over)) = absurd (cc over)
held_of Version given (Some before) base is (inr taken) = go taken.read taken.outcome_is
  where
    go : (read : Result Krl KrlFault) → Ok base ≡ base_in Version read → base.revocations ≡ nothing
    go (Ok krl) over = let same : base ≡ record new_base { version = Some krl.header.version; before = krl.contents } = cc over in ap (λ (b : Base). b.revocations) same
    go (Err fault) over = absurd (cc over)

-- what is held of the texts, or of the old list and the texts, has the texts' entries beside what was taken over
merged_adds : (inputs : Inputs) (listed : Revocations) (old : Old) (base : Base) (merged : Option Revocations) → IsHeld inputs listed
    → IsReadOver inputs.over inputs.version old (Ok base) → IsMerged inputs base.revocations merged
    → (inputs.allow_empty || takes_contents inputs.over ≡ false → unwrap_or merged listed ≢ nothing)
    × ((entries : List Entry) × (entries_asked inputs ≡ Ok entries) × HoldsMore base.revocations (unwrap_or merged listed) entries)
merged_adds inputs listed old base None held over is =
    (held.enough.some, (held.entries, held.read, subst (λ (r : Revocations). HoldsMore r listed held.entries) (sym (held_of inputs.over inputs.version old base is over)) held.adds))
merged_adds inputs listed old base (Some merged) held over (is, adds) = (λ none. absurd (no_contents inputs.allow_empty (takes_contents inputs.over) is none), adds)
  where
    no_contents : (allowed takes : Bool) → takes ≡ true → allowed || takes ≡ false → ⊥
    no_contents true takes is none = cc none
    no_contents false true is none = cc none
    no_contents false false is none = cc is

pub makes_over : (inputs : Inputs) (listed : Revocations) (old : Old) (bytes : List ℕ) (merged : Merged) → IsHeld inputs listed → IsMadeOver inputs listed old bytes merged
    → MakesOver inputs old bytes merged.version (unwrap_or merged.revocations listed) merged.lost
makes_over inputs listed old bytes merged held made =
    let adds = merged_adds inputs listed old made.base merged.revocations held made.over made.is_merged in
    record {
      base = made.base;
      over = made.over;
      has_version = made.has_version;
      makes = record {
        entries = adds.1.0;
        read = adds.1.1;
        some = adds.0;
        adds = adds.1.2;
        written = made.written;
        within = made.within;
      };
      loses = made.loses;
      each = held.enough.each;
    }
