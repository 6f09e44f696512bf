-- The letters of a word, as the walk over the words reads them.
use Rattle.std.proofs.Common.{◌≡◌, ◌∙◌, ◌==◌, ◌<◌, ◌≤◌, ◌++◌, ◌∷◌, [], ℕ, Bool, true, false, arith, codes, cond, pred, refl, sym, ap, subst, length, List, None, Option, Some}
use Rattle.std.specs.Prelude.{encode_utf8, fold, slice_get}
use Rattle.std.specs.Option.{option_map_or}
use Rattle.std.specs.Str.{bytes_eq, chars}
use Rattle.std.proofs.lemmas.Bool.{and_parts, or_from}
use Rattle.std.proofs.lemmas.Str.{chars-encodes, chars-nil, encode_ascii, length-encode, len_utf8_bounds}
use Rattle.std.proofs.lemmas.List.{length-append}
use lib.Utf8.{encodes, scalar, scalars}
use Rattle.clap.specs.Facts.{unwrap_or_range}
use Rattle.clap.specs.Faults.{flags_fault, option_fault, react_fault, settle_fault, short_fault, use_fault}
use Rattle.clap.specs.Kinds.{Kinds, or_else, range_kinds}
use Rattle.clap.specs.Walk.{Held, Outcome, Rule, Text, arg_by_id, arg_by_short, attached_value, bundle_met, done, has_row, most_values, option_met, reacted, settled, short_met, takes_values, waits}
use Rattle.clap.proofs.WalkLemmas.{bundle_ends, bundle_reads}
use Rattle.clap.proofs.FaultLemmas.{fault_reads}
use Rattle.option_table.specs.Argument.{letter_of}
use Rattle.krl_words.specs.Order.{is_authority, letter_met, takes_value}
use Rattle.krl_words.specs.declared.order.Letters.{Letters}
use Rattle.krl_words.proofs.HeldRows.{holds, reacted_none, settled_none}

-- ---- faults

pub or_else_parts : (one other : Kinds) → or_else one other ≡ [] → (one ≡ []) × (other ≡ [])
or_else_parts [] other is = (refl, is)
or_else_parts (k ∷ ks) other is = absurd (cc is)

-- ---- what a letter is

-- an option with one value, which is found by its name, and is not the files
pub record IsValued (c : List Rule) (a : Rule) : Type 0 where
  pub takes : takes_values a ≡ true
  pub least : (unwrap_or_range a.range).start_inclusive ≡ 1
  pub most : most_values a ≡ 1
  pub found : arg_by_id c a.id ≡ Some a
  pub other : bytes_eq a.id (codes "files") ≡ false

-- no option has the letter; or one without a value does, or one with a value, as the order of the words takes it
pub data LetterIs (c : List Rule) (x : ℕ) : Type 0 where
  unknown : arg_by_short c x ≡ None → LetterIs c x
  flag : (a : Rule) → arg_by_short c x ≡ Some a → takes_values a ≡ false → takes_value x ≡ false → x < 128
      → bytes_eq a.id (codes "authority") ≡ false → bytes_eq a.id (codes "files") ≡ false → LetterIs c x
  valued : (a : Rule) → arg_by_short c x ≡ Some a → IsValued c a → takes_value x ≡ true → x < 128
      → bytes_eq a.id (codes "authority") ≡ (x == letter_of (codes "s")) → LetterIs c x

-- an option without its value is refused wherever it is used
value_missing : (least most : ℕ) (next : Kinds) → least ≡ 1 → or_else (range_kinds least most 0) next ≡ [] → ⊥
value_missing least most next one is = cc (subst (λ (n : ℕ). or_else (range_kinds n most 0) next ≡ []) one is)

abbrev pub no_letters : Letters
no_letters = record { option = None; has_value = false }

abbrev valued_by : ℕ → Bool → Letters
valued_by x v = record { option = Some x; has_value = v }

module _ (c : List Rule) (again : Bool) where
  pub settle_waits : (a : Rule) (h : Held) → IsValued c a → h.pending ≡ Some (a.id, []) → settle_fault c again h ≡ [] → ⊥
  settle_waits a h is_valued waiting is =
      let named = subst (λ (p : Option (Text × List Text)). option_map_or (λ p. option_map_or (λ b. use_fault again b p.1 h.rows) (arg_by_id c p.0) []) p [] ≡ []) waiting is in
      let used = subst (λ (o : Option Rule). option_map_or (λ b. use_fault again b [] h.rows) o [] ≡ []) is_valued.found named in
      value_missing (unwrap_or_range a.range).start_inclusive (most_values a) _ is_valued.least used

  -- ---- a bundle of letters

  -- the walk has read an option with its value or none, or waits for the value
  abbrev pub EndsOption : Option ℕ → Bool → Held → Outcome → Type 0
  EndsOption None v h outcome = outcome ≡ done
  EndsOption (Some x) true h outcome = outcome ≡ done
  EndsOption (Some x) false h outcome = (a : Rule) × IsValued c a × (outcome ≡ waits a.id) × (h.pending ≡ Some (a.id, []))

  pub record BundleEnds (letters : Letters) (h : Held) (result : Held × Outcome) : Type 0 where
    pub skip : result.0.skip ≡ 0
    pub ends : EndsOption letters.option letters.has_value result.0 result.1
    pub authority : is_authority letters ≡ false → holds (codes "authority") h ≡ false → holds (codes "authority") result.0 ≡ false
    pub files : holds (codes "files") h ≡ false → holds (codes "files") result.0 ≡ false

  all_followed : (rest : List ℕ) (x : ℕ) → fold letter_met (valued_by x true) rest ≡ valued_by x true
  all_followed [] x = refl
  all_followed (b ∷ rest) x = all_followed rest x

  waits_none : (a : Rule) (id : Text) (h : Held) → bytes_eq a.id id ≡ false → holds id h ≡ false → holds id (record (settled c h) { pending = Some (a.id, []) }) ≡ false
  waits_none a id h differs is = or_from (has_row id (settled c h).rows) (bytes_eq a.id id) (settled_none c id h is) differs

  reads_value : (x : ℕ) (a : Rule) (text : List ℕ) (letters : Letters) (h : Held) → IsValued c a → bytes_eq a.id (codes "authority") ≡ (x == letter_of (codes "s")) → h.skip ≡ 0 → letters ≡ valued_by x true
      → BundleEnds letters h (option_met c a (Some text) h)
  reads_value x a text letters h is_valued named skips is = subst (λ (l : Letters). BundleEnds l h (option_met c a (Some text) h)) (sym is) (record {
    skip = skips;
    ends = refl;
    authority = λ differs before. reacted_none c a (text ∷ []) (codes "authority") h (named ∙ differs) before;
    files = λ before. reacted_none c a (text ∷ []) (codes "files") h is_valued.other before;
  })

  valued_ends : (x : ℕ) (a : Rule) (rest : List ℕ) (h : Held) → IsValued c a → bytes_eq a.id (codes "authority") ≡ (x == letter_of (codes "s")) → h.skip ≡ 0
      → BundleEnds (fold letter_met (valued_by x false) rest) h (option_met c a (attached_value rest) h)
  valued_ends x a [] h is_valued named skips = record {
    skip = skips;
    ends = (a, is_valued, refl, refl);
    authority = λ differs before. waits_none a (codes "authority") h (named ∙ differs) before;
    files = λ before. waits_none a (codes "files") h is_valued.other before;
  }
  valued_ends x a (b ∷ rest) h is_valued named skips = go (b == 61)
    where
      go : (e : Bool) → BundleEnds (fold letter_met (valued_by x true) rest) h (option_met c a (option_map_or (λ v. Some v) (cond e (Some rest) None) (Some (b ∷ rest))) h)
      go true = reads_value x a rest (fold letter_met (valued_by x true) rest) h is_valued named skips (all_followed rest x)
      go false = reads_value x a (b ∷ rest) (fold letter_met (valued_by x true) rest) h is_valued named skips (all_followed rest x)

  unknown_fault : (found : Option Rule) (rest : Text) (h : Held) (next : Held → Kinds) → found ≡ None → short_fault c again found rest h next ≡ [] → ⊥
  unknown_fault found rest h next none is = cc (subst (λ (o : Option Rule). short_fault c again o rest h next ≡ []) none is)

  flag_fault_parts : (a : Rule) (found : Option Rule) (rest : Text) (h : Held) (next : Held → Kinds) → found ≡ Some a → takes_values a ≡ false → short_fault c again found rest h next ≡ []
      → (react_fault c again a [] h ≡ []) × (next (reacted c a [] h) ≡ [])
  flag_fault_parts a found rest h next some takes is =
      let at = subst (λ (o : Option Rule). short_fault c again o rest h next ≡ []) some is in
      or_else_parts (react_fault c again a [] h) (next (reacted c a [] h))
      (subst (λ (b : Bool). cond b (option_fault c again a (attached_value rest) h) (or_else (react_fault c again a [] h) (next (reacted c a [] h))) ≡ []) takes at)

  flag_met : (a : Rule) (found : Option Rule) (rest : Text) (h : Held) (next : Held → Held × Outcome) → found ≡ Some a → takes_values a ≡ false → short_met c found rest h next ≡ next (reacted c a [] h)
  flag_met a found rest h next some takes = rw (some, takes) refl

  valued_met : (a : Rule) (found : Option Rule) (rest : Text) (h : Held) (next : Held → Held × Outcome) → found ≡ Some a → takes_values a ≡ true → short_met c found rest h next ≡ option_met c a (attached_value rest) h
  valued_met a found rest h next some takes = rw (some, takes) refl

  valued_fault : (a : Rule) (found : Option Rule) (rest : Text) (h : Held) (next : Held → Kinds) → found ≡ Some a → takes_values a ≡ true → short_fault c again found rest h next ≡ [] → option_fault c again a (attached_value rest) h ≡ []
  valued_fault a found rest h next some takes is =
      let at = subst (λ (o : Option Rule). short_fault c again o rest h next ≡ []) some is in
      subst (λ (b : Bool). cond b (option_fault c again a (attached_value rest) h) (or_else (react_fault c again a [] h) (next (reacted c a [] h))) ≡ []) takes at

  -- a use settles what waits before it
  react_settles : (a : Rule) (values : List Text) (h : Held) → react_fault c again a values h ≡ [] → settle_fault c again h ≡ []
  react_settles a values h is = (or_else_parts (settle_fault c again h) _ is).0

  option_settles : (a : Rule) (v : Option Text) (h : Held) → option_fault c again a v h ≡ [] → settle_fault c again h ≡ []
  option_settles a (Some v) h is = react_settles a (v ∷ []) h is
  option_settles a None h is = is

  module _ (letters : (x : ℕ) → LetterIs c x) where
    first_is : (x : ℕ) (cs : List ℕ) → scalars (x ∷ cs) ≡ true → Some x ≡ slice_get (chars (encode_utf8 x ++ encodes cs)) 0
    first_is x cs all = ap (λ (l : List ℕ). slice_get l 0) (sym (chars-encodes (x ∷ cs) all))

    fewer : (x : ℕ) (cs : List ℕ) (k : ℕ) → length (encode_utf8 x ++ encodes cs) ≤ k → length (encodes cs) < k
    fewer x cs k fits = omega (arith, fits, length-append (encode_utf8 x) (encodes cs), length-encode x, (len_utf8_bounds x).0)

    -- the letters settle what waits before them
    pub bundle_settles : (x : ℕ) (cs : List ℕ) → scalars (x ∷ cs) ≡ true → (k : ℕ) (h : Held) → length (encodes (x ∷ cs)) ≤ k → flags_fault c again k (encodes (x ∷ cs)) 0 h ≡ [] → settle_fault c again h ≡ []
    bundle_settles x cs all k h fits is =
        let at = fault_reads c again x (encodes (x ∷ cs)) (encodes cs) (first_is x cs all) refl k 0 h (fewer x cs k fits) (omega arith) ∙ is in
        by (letters x) at
      where
        by : LetterIs c x → short_fault c again (arg_by_short c x) (encodes cs) h (flags_fault c again (pred k) (encodes cs) 0) ≡ [] → settle_fault c again h ≡ []
        by (unknown none) at = absurd (unknown_fault (arg_by_short c x) (encodes cs) h _ none at)
        by (flag a some takes plain low no_ca no_file) at = react_settles a [] h (flag_fault_parts a (arg_by_short c x) (encodes cs) h _ some takes at).0
        by (valued a some is_valued takes low named) at = option_settles a (attached_value (encodes cs)) h (valued_fault a (arg_by_short c x) (encodes cs) h _ some is_valued.takes at)

    pub bundle : (cs : List ℕ) → scalars cs ≡ true → (k : ℕ) (so_far : Outcome) (h : Held) → length (encodes cs) ≤ k → (cs ≡ [] → so_far ≡ done) → h.skip ≡ 0 → flags_fault c again k (encodes cs) 0 h ≡ []
        → BundleEnds (fold letter_met no_letters (encodes cs)) h (bundle_met c k (encodes cs) 0 so_far h)
    bundle [] all k so_far h fits starts skips is =
        subst (λ (r : Held × Outcome). BundleEnds no_letters h r) (bundle_ends c k [] 0 so_far h (sym (ap (λ (l : List ℕ). slice_get l 0) chars-nil)))
        (record { skip = skips; ends = starts refl; authority = λ differs before. before; files = λ before. before })
    bundle (x ∷ cs) all k so_far h fits starts skips is =
        let first = first_is x cs all in
        let met = bundle_reads c x (encodes (x ∷ cs)) (encodes cs) first refl k 0 so_far h fits (omega arith) in
        let at = fault_reads c again x (encodes (x ∷ cs)) (encodes cs) first refl k 0 h (fewer x cs k fits) (omega arith) ∙ is in
        subst (λ (r : Held × Outcome). BundleEnds (fold letter_met no_letters (encodes (x ∷ cs))) h r) met
        (by (letters x) (λ after skip_after later. bundle cs (and_parts (scalar x) (scalars cs) all).1 (pred k) done after (omega (arith, fewer x cs k fits)) (λ none. refl) skip_after later) at)
      where
        by : LetterIs c x
            → ((after : Held) → after.skip ≡ 0 → flags_fault c again (pred k) (encodes cs) 0 after ≡ [] → BundleEnds (fold letter_met no_letters (encodes cs)) after (bundle_met c (pred k) (encodes cs) 0 done after))
            → short_fault c again (arg_by_short c x) (encodes cs) h (flags_fault c again (pred k) (encodes cs) 0) ≡ []
            → BundleEnds (fold letter_met no_letters (encode_utf8 x ++ encodes cs)) h (short_met c (arg_by_short c x) (encodes cs) h (bundle_met c (pred k) (encodes cs) 0 done))
        by (unknown none) later at = absurd (unknown_fault (arg_by_short c x) (encodes cs) h _ none at)
        by (flag a some takes plain low no_ca no_file) later at =
            let next = (flag_fault_parts a (arg_by_short c x) (encodes cs) h _ some takes at).1 in
            let ends = later (reacted c a [] h) skips next in
            let same : fold letter_met no_letters (encode_utf8 x ++ encodes cs) ≡ fold letter_met no_letters (encodes cs) =
            ap (λ (e : List ℕ). fold letter_met no_letters (e ++ encodes cs)) (encode_ascii x low)
            ∙ ap (λ (b : Bool). fold letter_met (cond b (valued_by x false) no_letters) (encodes cs)) plain in
            rw (same, flag_met a (arg_by_short c x) (encodes cs) h (bundle_met c (pred k) (encodes cs) 0 done) some takes) (record {
              skip = ends.skip;
              ends = ends.ends;
              authority = λ differs before. ends.authority differs (reacted_none c a [] (codes "authority") h no_ca before);
              files = λ before. ends.files (reacted_none c a [] (codes "files") h no_file before);
            })
        by (valued a some is_valued takes low named) later at =
            let same : fold letter_met no_letters (encode_utf8 x ++ encodes cs) ≡ fold letter_met (valued_by x false) (encodes cs) =
            ap (λ (e : List ℕ). fold letter_met no_letters (e ++ encodes cs)) (encode_ascii x low)
            ∙ ap (λ (b : Bool). fold letter_met (cond b (valued_by x false) no_letters) (encodes cs)) takes in
            rw (same, valued_met a (arg_by_short c x) (encodes cs) h (bundle_met c (pred k) (encodes cs) 0 done) some is_valued.takes) (valued_ends x a (encodes cs) h is_valued named skips)
