-- A file between two uses of -s, by the walks over three parts of the words.
use Rattle.std.proofs.Common.{◌≡◌, ◌∙◌, ◌∷◌, [], ℕ, Bool, true, false, codes, inl, refl, sym, ap, subst, List, None, Option, Some}
use Rattle.std.specs.Prelude.{find, fold}
use Rattle.std.specs.List.{AllByRecursion}
use Rattle.std.specs.Prelude.{option_and_then, slice_get, unwrap_or, option_map}
use Rattle.std.specs.Str.{IsUtf8, bytes_eq}
use Rattle.std.proofs.lemmas.Bool.{or_parts}
use Rattle.clap.specs.Faults.{level_fault, long_fault, settle_fault, turn_fault, walk_fault}
use Rattle.clap.specs.Kinds.{Kinds}
use Rattle.clap.specs.Simple.{Shape}
use Rattle.clap.specs.Walk.{Held, Row, Rule, Text, Waiting, Walk, arg_by_index, arg_by_long, first_of, has_row, idle, nothing_held, walk, walk_from, walked}
use Rattle.option_table.specs.Value.{values_in}
use Rattle.krl_words.specs.Order.{word_met}
use Rattle.krl_words.specs.declared.order.Context.{Context}
use Rattle.krl_words.proofs.HeldRows.{holds}
use Rattle.krl_words.proofs.Bundles.{LetterIs, or_else_parts, settle_waits}
use Rattle.krl_words.proofs.Words.{IsFiles, Reads, Waits, place_at, step, walk_at}

-- ---- what no row has

no_row_found : (id : Text) (rows : List Row) → has_row id rows ≡ false → find (λ r. bytes_eq r.id id) rows ≡ None
no_row_found id [] is = refl
no_row_found id (r ∷ rs) is =
    let parts = or_parts (bytes_eq r.id id) (has_row id rs) is in
    rw (parts.0) (no_row_found id rs parts.1)

pub first_none : (id : Text) (rows : List Row) → has_row id rows ≡ false → first_of id rows ≡ None
first_none id rows is = ap (option_and_then (λ r. slice_get r.values 0)) (no_row_found id rows is)

pub values_none : (id : Text) (rows : List Row) → has_row id rows ≡ false → values_in id rows ≡ []
values_none id rows is = ap (λ (o : Option Row). unwrap_or (option_map (λ r. r.values) o) []) (no_row_found id rows is)

-- ---- words one after the other

both_reads : (c : List Rule) (place : Context) (walk_then : Walk) (a f d : Bool) (h : Held) (at next : Context) (w later : Walk) (one : Reads c place walk_then a f d h)
    → at ≡ next → w ≡ later → Reads c at w one.has_authority one.has_file one.is_divided one.held → Reads c next later a f d h
both_reads c place walk_then a f d h at next w later one at_is w_is two = record {
  is_value = two.is_value;
  has_authority = two.has_authority;
  has_file = two.has_file;
  is_divided = two.is_divided;
  place_is = sym at_is ∙ two.place_is;
  held = two.held;
  waiting = two.waiting;
  walk_is = sym w_is ∙ two.walk_is;
  skip = two.skip;
  waits = two.waits;
  front = λ before. two.front (one.front before);
  between = λ has before. let mid = one.between has before in two.between mid.0 mid.1;
  back = λ has also before. let mid = one.back has also before in two.back mid.0 mid.1 mid.2;
}

module _ (s : Shape) (letters : (x : ℕ) → LetterIs s.rules x)
    (longs : (name : Text) (v : Option Text) (h : Held) → long_fault s.rules s.args_override_self (arg_by_long s.rules name) v h ≡ [] → ⊥)
    (files : Rule) (files_first : arg_by_index s.rules 1 ≡ Some files) (files_are : IsFiles files) where
  pub read_all : (words : List Text) (v a f d : Bool) (h : Held) (waiting : Waiting) → AllByRecursion IsUtf8 words → AllByRecursion (λ word. word ≡ codes "--" → ⊥) words → h.skip ≡ 0 → Waits s.rules v h waiting
      → walk_fault s [] (walk_at h waiting) words ≡ [] → Reads s.rules (fold word_met (place_at v a f d) words) (fold (walked s.rules []) (walk_at h waiting) words) a f d h
  unfolding walk_fault
  read_all [] v a f d h waiting texts ended skips waits_is free = record {
    is_value = v;
    has_authority = a;
    has_file = f;
    is_divided = d;
    place_is = refl;
    held = h;
    waiting = waiting;
    walk_is = refl;
    skip = skips;
    waits = waits_is;
    front = λ before. before;
    between = λ has before. (has, before);
    back = λ has also before. (has, also, before);
  }
  read_all (word ∷ words) v a f d h waiting texts ended skips waits_is free =
      let parts = or_else_parts (turn_fault s [] (walk_at h waiting) word) (walk_fault s [] (walked s.rules [] (walk_at h waiting) word) words) free in
      let one = step s letters longs files files_first files_are v a f d h waiting word texts.0 ended.0 skips waits_is parts.0 in
      let later = read_all words one.is_value one.has_authority one.has_file one.is_divided one.held one.waiting texts.1 ended.1 one.skip one.waits (subst (λ (w : Walk). walk_fault s [] w words ≡ []) one.walk_is parts.1) in
      both_reads s.rules (word_met (place_at v a f d) word) (walked s.rules [] (walk_at h waiting) word) a f d h _ _ _ _ one
      (ap (λ (p : Context). fold word_met p words) (sym one.place_is)) (ap (λ (w : Walk). fold (walked s.rules []) w words) (sym one.walk_is)) later

  -- the parts of a fault that is none
  level_parts : (words : List Text) (again : Bool) (below : Kinds) → level_fault s [] nothing_held words again below ≡ []
      → (walk_fault s [] (walk_from nothing_held) words ≡ []) × (settle_fault s.rules s.args_override_self (walk s.rules [] nothing_held words).held ≡ [])
  level_parts words again below is =
      let one = or_else_parts (walk_fault s [] (walk_from nothing_held) words) _ is in
      let two = or_else_parts below _ one.1 in
      (one.0, (or_else_parts (settle_fault s.rules s.args_override_self (walk s.rules [] nothing_held words).held) _ two.1).0)

  -- One of the parts of the words, after those before it. No option waits for a value at its end.
  pub record Part (words : List Text) (a f d : Bool) : Type 0 where
    pub has_authority : Bool
    pub has_file : Bool
    pub is_divided : Bool
    pub place_is : fold word_met (place_at false a f d) words ≡ place_at false has_authority has_file is_divided
    pub held : Held
    pub held_is : (walk s.rules [] nothing_held words).held ≡ held
    pub front : has_authority ≡ false → holds (codes "authority") held ≡ false
    pub between : a ≡ true → (has_authority ≡ true) × (has_file ≡ false → holds (codes "files") held ≡ false)
    pub back : a ≡ true → f ≡ true → is_divided ≡ false → holds (codes "authority") held ≡ false

  pub part_of : (words : List Text) (again : Bool) (below : Kinds) (a f d : Bool) → AllByRecursion IsUtf8 words → AllByRecursion (λ word. word ≡ codes "--" → ⊥) words → level_fault s [] nothing_held words again below ≡ [] → Part words a f d
  part_of words again below a f d texts ended free =
      let parts = level_parts words again below free in
      let reads = read_all words false a f d nothing_held idle texts ended refl (inl refl) parts.0 in
      by reads reads.is_value refl reads.waits (subst (λ (w : Walk). settle_fault s.rules s.args_override_self w.held ≡ []) reads.walk_is parts.1)
    where
      by : (reads : Reads s.rules (fold word_met (place_at false a f d) words) (walk s.rules [] nothing_held words) a f d nothing_held) (v : Bool) → reads.is_value ≡ v → Waits s.rules v reads.held reads.waiting
          → settle_fault s.rules s.args_override_self reads.held ≡ [] → Part words a f d
      by reads true is (rule, valued, waiting_is, pending) free_end = absurd (settle_waits s.rules s.args_override_self rule reads.held valued pending free_end)
      by reads false is waits_is free_end = record {
        has_authority = reads.has_authority;
        has_file = reads.has_file;
        is_divided = reads.is_divided;
        place_is = reads.place_is ∙ ap (λ (b : Bool). place_at b reads.has_authority reads.has_file reads.is_divided) is;
        held = reads.held;
        held_is = ap (λ (w : Walk). w.held) reads.walk_is;
        front = reads.front (λ none. refl);
        between = λ has. reads.between has (λ none. refl);
        back = λ has also. (reads.back has also (λ none. refl)).2;
      }
