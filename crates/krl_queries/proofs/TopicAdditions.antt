-- Revocations stay within some topics if the additions are about them.
use Rattle.krl_queries.proofs.Common.{[], ⊎_elim, ◌-◌, ◌<◌, ◌↔◌, ◌∷◌, ◌≡◌, ◌⊎◌, arith, BitmapEntry}
use Rattle.krl_queries.proofs.Common.{cases_lt, Contains, Entry, EntryNames, HoldsId, HoldsName}
use Rattle.krl_queries.proofs.Common.{HoldsOnlyTopics, HoldsSerial, IdEntry, IdOf, inl, inr}
use Rattle.krl_queries.proofs.Common.{IsOrderly, IsTopic, KeyEntry, KeyOf, List, MeansMore, Name}
use Rattle.krl_queries.proofs.Common.{RangeEntry, Revocations, SerialOf, SerialsEntry, Sha1Entry}
use Rattle.krl_queries.proofs.Common.{Sha1Of, Sha256Entry, Sha256Of, SomeNames, subst, subst₂}
use Rattle.krl_entries.proofs.AddedMeaning.{means_more_names}

-- ---- some entries more

-- the entries name the serial number before this one too
abbrev pub GoesOn : List Entry → Name → Type 0
GoesOn entries (SerialOf a s) = SomeNames entries (SerialOf a (s - 1))
GoesOn entries name = ⊥

pub within_more : (topics old new : Revocations) (more : List Entry) → HoldsOnlyTopics topics old → MeansMore old new more
    → ((name : Name) → SomeNames more name → IsTopic topics name ⊎ GoesOn more name) → HoldsOnlyTopics topics new
within_more topics old new more within means about = record {
  orderly = now.0;
  runs = λ a s begins. elim ((now.1 (SerialOf a s)).0 begins.0) [
    | inl was ↦ within.runs a s (was, λ before. begins.1 ((now.1 (SerialOf a (s - 1))).1 (inl before)))
    | inr named ↦ ⊎_elim (λ topic. topic) (λ before. absurd (begins.1 ((now.1 (SerialOf a (s - 1))).1 (inr before)))) (about (SerialOf a s) named)
  ];
  ids = λ a text. others (IdOf a text) (within.ids a text) (λ no. no);
  keys = λ blob. others (KeyOf blob) (within.keys blob) (λ no. no);
  sha1s = λ hash. others (Sha1Of hash) (within.sha1s hash) (λ no. no);
  sha256s = λ hash. others (Sha256Of hash) (within.sha256s hash) (λ no. no);
}
  where
    now : IsOrderly new × ((name : Name) → HoldsName new name ↔ (HoldsName old name ⊎ SomeNames more name))
    now = means_more_names old new more within.orderly means

    others : (name : Name) → (HoldsName old name → IsTopic topics name) → (GoesOn more name → ⊥) → HoldsName new name → IsTopic topics name
    others name was none held = ⊎_elim was (λ named. ⊎_elim (λ topic. topic) (λ on. absurd (none on)) (about name named)) ((now.1 name).0 held)

-- ---- one entry more

-- the entry names a topic, or a run of serial numbers that begins with one
abbrev pub IsAbout : (topics : Revocations) → Entry → Type 0
IsAbout topics (RangeEntry a lo hi) = (0 < lo) × HoldsSerial topics.sections a lo
IsAbout topics (IdEntry a text) = HoldsId topics.sections a text
IsAbout topics (KeyEntry blob) = Contains topics.keys blob
IsAbout topics (Sha1Entry hash) = IsTopic topics (Sha1Of hash)
IsAbout topics (Sha256Entry hash) = IsTopic topics (Sha256Of hash)
IsAbout topics _ = ⊥

about_topics : (topics : Revocations) (entry : Entry) (name : Name) → IsAbout topics entry → EntryNames entry name → IsTopic topics name ⊎ GoesOn (entry ∷ []) name
about_topics topics (RangeEntry b lo hi) (SerialOf a s) is h =
    elim (cases_lt lo s) [
      | inl above ↦ inr (inl (h.0, (omega (arith, is.0), (omega (arith, above), omega (arith, h.1)))))
      | inr at ↦ (let first : lo ≡ s = omega (arith, at, h.1) in inl (subst₂ (HoldsSerial topics.sections) h.0 first is.1))
    ]
about_topics topics (IdEntry b t) (IdOf a text) is h = inl (subst₂ (HoldsId topics.sections) h.0 h.1 is)
about_topics topics (KeyEntry key) (KeyOf blob) is h = inl (subst (Contains topics.keys) h is)
about_topics topics (Sha1Entry of_key) (Sha1Of hash) is h = inl (subst (λ x. IsTopic topics (Sha1Of x)) h is)
about_topics topics (Sha256Entry of_key) (Sha256Of hash) is h = inl (subst (λ x. IsTopic topics (Sha256Of x)) h is)
about_topics topics (SerialsEntry b numbers) name is h = absurd is
about_topics topics (BitmapEntry b offset number) name is h = absurd is
about_topics topics entry name is h = absurd h

pub within_with : (topics old new : Revocations) (entry : Entry) → HoldsOnlyTopics topics old → MeansMore old new (entry ∷ []) → IsAbout topics entry → HoldsOnlyTopics topics new
within_with topics old new entry within means is =
    within_more topics old new (entry ∷ []) within means (λ name h. ⊎_elim (about_topics topics entry name is) (λ no. absurd no) h)
