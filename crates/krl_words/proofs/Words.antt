-- A word, as the walk over the words and the order of -s and the files read it.
use Rattle.std.proofs.Common.{◌≡◌, ◌∙◌, ◌||◌, ◌&&◌, ◌==◌, ◌++◌, ◌∷◌, ◌⊎◌, [], ℕ, Bool, true, false, arith, codes, cond, inl, inr, refl, sym, ap, subst, length, List, None, Some}
use Rattle.std.proofs.Common.{Option as Maybe}
use Rattle.std.specs.Prelude.{encode_utf8, fold, is_some, not, option_and_then}
use Rattle.std.specs.Str.{IsUtf8, bytes_eq}
use Rattle.std.proofs.lemmas.Bool.{and_parts, eqb-true, false≢true, or_from, or_left, or_parts}
use Rattle.std.proofs.lemmas.Slice.Eq.{bytes_eq-Decides}
use Rattle.std.proofs.lemmas.Str.{cons_from_encodes, encode_ascii}
use lib.Utf8.{encodes, scalar, scalars}
use Rattle.clap.specs.Faults.{flag_word_fault, flags_fault, long_fault, turn_fault, word_fault}
use Rattle.clap.specs.Lexer.{long_of, long_of_rest, name_and_value, short_of, short_of_rest, strip_byte}
use Rattle.clap.specs.Simple.{Shape}
use Rattle.clap.specs.Walk.{Held, Outcome, Rule, Step, Text, Waiting, Walk, after_flag, after_step, arg_by_index, arg_by_long, bundle_met, has_row, long_or_other, next, word_met as clap_met, idle, is_multiple, is_pending, option, plain, plain_word, positional, positional_held, pushed, settled, subcommand_met, takes_several, to_positional, value, walked}
use Rattle.krl_words.specs.Order.{authority_met, file_met, is_authority, letter_met, letters_met, other_met, word_met}
use Rattle.krl_words.specs.declared.order.Context.{Context}
use Rattle.krl_words.specs.declared.order.Letters.{Letters}
use Rattle.krl_words.proofs.HeldRows.{holds, is_pending_for, settled_none}
use Rattle.krl_words.proofs.Bundles.{BundleEnds, EndsOption, IsValued, LetterIs, bundle as bundle_ends, bundle_settles, no_letters, or_else_parts, settle_waits}

-- what the order of the words has read, before `--`
abbrev pub place_at : (is_value has_authority has_file is_divided : Bool) → Context
place_at v a f d = record { is_value = v; is_file = false; has_authority = a; has_file = f; is_divided = d }

-- a walk over words without `--`
abbrev pub walk_at : Held → Waiting → Walk
walk_at h waiting = record { held = h; waiting = waiting; position = 1; is_trailing = false; stopped = None }

-- an option waits for its value, or none does
abbrev pub Waits : List Rule → Bool → Held → Waiting → Type 0
Waits c true h waiting = (a : Rule) × IsValued c a × (waiting ≡ option a.id) × (h.pending ≡ Some (a.id, []))
Waits c false h waiting = (waiting ≡ idle) ⊎ (waiting ≡ positional)

-- The order of the words and the walk over the same words, after what was held before them. Both know whether an option
-- waits for its value. As long as the order has met no use of -s, the walk holds none. The same is so for a file, if a
-- use of -s precedes it, and for a use of -s, if such a file does.
pub record Reads (c : List Rule) (place : Context) (walk : Walk) (a f d : Bool) (h : Held) : Type 0 where
  pub is_value : Bool
  pub has_authority : Bool
  pub has_file : Bool
  pub is_divided : Bool
  pub place_is : place ≡ place_at is_value has_authority has_file is_divided
  pub held : Held
  pub waiting : Waiting
  pub walk_is : walk ≡ walk_at held waiting
  pub skip : held.skip ≡ 0
  pub waits : Waits c is_value held waiting
  pub front : (a ≡ false → holds (codes "authority") h ≡ false) → has_authority ≡ false → holds (codes "authority") held ≡ false
  pub between : a ≡ true → (f ≡ false → holds (codes "files") h ≡ false) → (has_authority ≡ true) × (has_file ≡ false → holds (codes "files") held ≡ false)
  pub back : a ≡ true → f ≡ true → (d ≡ false → holds (codes "authority") h ≡ false) → (has_authority ≡ true) × (has_file ≡ true) × (is_divided ≡ false → holds (codes "authority") held ≡ false)

-- the rule of the files
pub record IsFiles (a : Rule) : Type 0 where
  pub id : a.id ≡ codes "files"
  pub many : is_multiple a ≡ true
  pub ends : a.trailing_var_arg ≡ false

left_false : (x y : Bool) → y ≡ true → (x && y) ≡ false → x ≡ false
left_false true y is none = absurd (false≢true (sym none ∙ is))
left_false false y is none = refl

is_no_end : (word : Text) → (word ≡ codes "--" → ⊥) → bytes_eq word (codes "--") ≡ false
is_no_end word differs = by (bytes_eq word (codes "--")) refl
  where
    by : (b : Bool) → bytes_eq word (codes "--") ≡ b → b ≡ false
    by true is = absurd (differs ((bytes_eq-Decides word (codes "--")).0 is))
    by false is = refl

-- ---- the kinds of words, beside `--`

data WordIs (word : List ℕ) : Type 0 where
  plain_is : long_of word ≡ None → short_of word ≡ None → ((p : Context) → other_met p word ≡ file_met p) → WordIs word
  long_is : (p : Text × Maybe Text) → long_of word ≡ Some p → WordIs word
  short_is : (x : ℕ) (rest : List ℕ) → word ≡ 45 ∷ x ∷ rest → long_of word ≡ None → short_of word ≡ Some (x ∷ rest)
      → ((p : Context) → other_met p word ≡ authority_met p (letters_met x rest)) → WordIs word

word_is : (word : List ℕ) → (word ≡ codes "--" → ⊥) → WordIs word
word_is [] differs = plain_is refl refl (λ p. refl)
word_is (b ∷ []) differs = plain_is (no_long (b == 45)) (no_short (b == 45)) (λ p. refl)
  where
    no_long : (e : Bool) → option_and_then long_of_rest (option_and_then (strip_byte 45) (cond e (Some []) None)) ≡ None
    no_long true = refl
    no_long false = refl

    no_short : (e : Bool) → option_and_then short_of_rest (cond e (Some []) None) ≡ None
    no_short true = refl
    no_short false = refl
word_is (b ∷ e ∷ rest) differs = by (b == 45) refl (e == 45) refl
  where
    after_both : (rest : List ℕ) → (45 ∷ 45 ∷ rest ≡ codes "--" → ⊥) → WordIs (45 ∷ 45 ∷ rest)
    after_both [] both = absurd (both refl)
    after_both (x ∷ xs) both = long_is (name_and_value (x ∷ xs)) refl

    by : (first : Bool) → (b == 45) ≡ first → (second : Bool) → (e == 45) ≡ second → WordIs (b ∷ e ∷ rest)
    by true one true two =
        let is_b : b ≡ 45 = eqb-true b 45 one in
        let is_e : e ≡ 45 = eqb-true e 45 two in
        let same : b ∷ e ∷ rest ≡ 45 ∷ 45 ∷ rest = rw (is_b, is_e) refl in
        subst (λ (w : List ℕ). WordIs w) (sym same) (after_both rest (λ is. differs (same ∙ is)))
    by true one false two = short_is e rest (ap (λ (n : ℕ). n ∷ e ∷ rest) (eqb-true b 45 one)) (rw (one, two) refl) (rw (one, two) refl) (λ p. rw (one, two) refl)
    by false one second two = plain_is (rw one refl) (rw one refl) (λ p. rw one refl)

pushed_holds : (id name word : Text) (h : Held) → holds id h ≡ false → bytes_eq name id ≡ false → holds id (pushed name word h) ≡ false
pushed_holds id name word h is differs =
    let parts = or_parts (has_row id h.rows) (is_pending_for id h.pending) is in
    or_from (has_row id h.rows) (is_pending_for id (pushed name word h).pending) parts.0 (go h.pending parts.1)
  where
    go : (pending : Maybe (Text × List Text)) → is_pending_for id pending ≡ false → is_pending_for id (pushed name word (record h { pending = pending })).pending ≡ false
    go None none = differs
    go (Some p) none = none

module _ (s : Shape) (letters : (x : ℕ) → LetterIs s.rules x)
    (longs : (name : Text) (v : Maybe Text) (h : Held) → long_fault s.rules s.args_override_self (arg_by_long s.rules name) v h ≡ [] → ⊥)
    (files : Rule) (files_first : arg_by_index s.rules 1 ≡ Some files) (files_are : IsFiles files) where
  no_subcommand : (waiting : Waiting) (word : Text) → subcommand_met [] waiting word ≡ None
  no_subcommand idle word = refl
  no_subcommand (option id) word = refl
  no_subcommand positional word = refl

  -- ---- a value of an option

  value_reads : (a f d : Bool) (h : Held) (waiting : Waiting) (word : Text) → h.skip ≡ 0 → (rule : Rule) → IsValued s.rules rule → waiting ≡ option rule.id → h.pending ≡ Some (rule.id, [])
      → Reads s.rules (place_at false a f d) (walk_at (pushed rule.id word h) idle) a f d h
  value_reads a f d h waiting word skips rule valued waiting_is pending = record {
    is_value = false;
    has_authority = a;
    has_file = f;
    is_divided = d;
    place_is = refl;
    held = pushed rule.id word h;
    waiting = idle;
    walk_is = refl;
    skip = skips;
    waits = inl refl;
    front = λ before none. kept (codes "authority") (before none);
    between = λ has before. (has, λ none. kept (codes "files") (before none));
    back = λ has also before. (has, also, λ none. kept (codes "authority") (before none));
  }
    where
      kept : (id : Text) → holds id h ≡ false → holds id (pushed rule.id word h) ≡ false
      kept id is =
          let parts = or_parts (has_row id h.rows) (is_pending_for id h.pending) is in
          pushed_holds id rule.id word h is (subst (λ (p : Maybe (Text × List Text)). is_pending_for id p ≡ false) pending parts.1)

  -- ---- a file

  file_held : (h : Held) (word : Text) → holds (codes "authority") h ≡ false → holds (codes "authority") (positional_held s.rules files word h) ≡ false
  file_held h word is = go (is_pending files h.pending && takes_several files)
    where
      differs : bytes_eq files.id (codes "authority") ≡ false
      differs = rw files_are.id refl

      go : (b : Bool) → holds (codes "authority") (pushed files.id word (cond b h (settled s.rules h))) ≡ false
      go true = pushed_holds (codes "authority") files.id word h is differs
      go false = pushed_holds (codes "authority") files.id word (settled s.rules h) (or_from (has_row (codes "authority") (settled s.rules h).rows) false (settled_none s.rules (codes "authority") h is) refl) differs

  file_skip : (h : Held) (word : Text) → h.skip ≡ 0 → (positional_held s.rules files word h).skip ≡ 0
  file_skip h word is = go (is_pending files h.pending && takes_several files)
    where
      go : (b : Bool) → (pushed files.id word (cond b h (settled s.rules h))).skip ≡ 0
      go true = is
      go false = is

  to_files : (h : Held) (waiting : Waiting) (word : Text) → to_positional s.rules (arg_by_index s.rules 1) word (walk_at h waiting) h ≡ walk_at (positional_held s.rules files word h) positional
  to_files h waiting word = rw (files_first, files_are.many, files_are.ends) refl

  file_reads : (a f d : Bool) (h : Held) (waiting : Waiting) (word : Text) (place : Context) (walk : Walk) → h.skip ≡ 0 → place ≡ place_at false a a d → walk ≡ to_positional s.rules (arg_by_index s.rules 1) word (walk_at h waiting) h → Reads s.rules place walk a f d h
  file_reads a f d h waiting word place walk skips at is = record {
    is_value = false;
    has_authority = a;
    has_file = a;
    is_divided = d;
    place_is = at;
    held = positional_held s.rules files word h;
    waiting = positional;
    walk_is = is ∙ to_files h waiting word;
    skip = file_skip h word skips;
    waits = inr refl;
    front = λ before none. file_held h word (before none);
    between = λ has before. (has, λ none. absurd (false≢true (sym none ∙ has)));
    back = λ has also before. (has, has, λ none. file_held h word (before none));
  }

  -- ---- letters

  letters_read : (a f d : Bool) (h : Held) (waiting : Waiting) (word : Text) (l : Letters) (result : Held × Outcome) (place : Context) (walk : Walk) → BundleEnds s.rules s.args_override_self l h result
      → place ≡ authority_met (place_at false a f d) l → walk ≡ after_step s.rules word (walk_at h waiting) (after_flag s.rules waiting word result.0 result.1).0 (after_flag s.rules waiting word result.0 result.1).1
      → Reads s.rules place walk a f d h
  letters_read a f d h waiting word l result place walk ends at is = by l.option l.has_value refl refl ends.ends
    where
      front : (a ≡ false → holds (codes "authority") h ≡ false) → (a || is_authority l) ≡ false → holds (codes "authority") result.0 ≡ false
      front before none = let parts = or_parts a (is_authority l) none in ends.authority parts.1 (before parts.0)

      back : f ≡ true → (d ≡ false → holds (codes "authority") h ≡ false) → (d || (is_authority l && f)) ≡ false → holds (codes "authority") result.0 ≡ false
      back also before none = let parts = or_parts d (is_authority l && f) none in ends.authority (left_false (is_authority l) f also parts.1) (before parts.0)

      made : (v : Bool) (next_waiting : Waiting) → (is_some l.option && not l.has_value) ≡ v → walk ≡ walk_at result.0 next_waiting → Waits s.rules v result.0 next_waiting → Reads s.rules place walk a f d h
      made v next_waiting value_is walk_is waits_is = record {
        is_value = v;
        has_authority = a || is_authority l;
        has_file = f;
        is_divided = d || (is_authority l && f);
        place_is = at ∙ ap (λ (b : Bool). place_at b (a || is_authority l) f (d || (is_authority l && f))) value_is;
        held = result.0;
        waiting = next_waiting;
        walk_is = walk_is;
        skip = ends.skip;
        waits = waits_is;
        front = front;
        between = λ has before. (or_left a (is_authority l) has, λ none. ends.files (before none));
        back = λ has also before. (or_left a (is_authority l) has, also, back also before);
      }

      by : (o : Maybe ℕ) (v : Bool) → l.option ≡ o → l.has_value ≡ v → EndsOption s.rules s.args_override_self o v result.0 result.1 → Reads s.rules place walk a f d h
      by None v no_option text outcome = made false idle (rw no_option refl) (is ∙ rw outcome refl) (inl refl)
      by (Some x) true some text outcome = made false idle (rw (some, text) refl) (is ∙ rw outcome refl) (inl refl)
      by (Some x) false some text waiting_is = made true (option waiting_is.0.id) (rw (some, text) refl) (is ∙ rw waiting_is.2 refl) (waiting_is.0, waiting_is.1, refl, waiting_is.3)

  -- ---- a word

  plain_value : (rule : Rule) (h : Held) (word : Text) → IsValued s.rules rule → h.pending ≡ Some (rule.id, []) → plain_word s.rules (option rule.id) word h ≡ (pushed rule.id word h, next idle)
  plain_value rule h word valued pending =
      let same : bytes_eq rule.id rule.id ≡ true = (bytes_eq-Decides rule.id rule.id).1 refl in
      rw (valued.found, pending, same, valued.most) refl

  plain_file : (h : Held) (waiting : Waiting) (word : Text) → Waits s.rules false h waiting → plain_word s.rules waiting word h ≡ (h, value)
  plain_file h waiting word (inl is) = rw is refl
  plain_file h waiting word (inr is) = rw is refl

  met_is : (h : Held) (waiting : Waiting) (word : Text) → (word ≡ codes "--" → ⊥) → clap_met s.rules [] false waiting 1 word h ≡ long_or_other s.rules waiting word (long_of word) h
  met_is h waiting word differs = rw (no_subcommand waiting word, is_no_end word differs) refl

  fault_is : (h : Held) (waiting : Waiting) (word : Text) → (word ≡ codes "--" → ⊥) → turn_fault s [] (walk_at h waiting) word ≡ [] → flag_word_fault s.rules s.args_override_self (long_of word) word h ≡ []
  fault_is h waiting word differs is =
      let first = (or_else_parts (word_fault s [] false waiting word h) _ is).0 in
      let same : word_fault s [] false waiting word h ≡ flag_word_fault s.rules s.args_override_self (long_of word) word h = rw (no_subcommand waiting word, is_no_end word differs) refl in
      sym same ∙ first

  walked_is : (h : Held) (waiting : Waiting) (word : Text) (result : Held × Step) → clap_met s.rules [] false waiting 1 word h ≡ result
      → walked s.rules [] (walk_at h waiting) word ≡ after_step s.rules word (walk_at h waiting) result.0 result.1
  unfolding walked
  walked_is h waiting word result met = ap (λ (r : Held × Step). after_step s.rules word (walk_at h waiting) r.0 r.1) met

  plain_step : (v a f d : Bool) (h : Held) (waiting : Waiting) (word : Text) → (word ≡ codes "--" → ⊥) → h.skip ≡ 0 → Waits s.rules v h waiting
      → long_of word ≡ None → short_of word ≡ None → ((p : Context) → other_met p word ≡ file_met p) → Reads s.rules (word_met (place_at v a f d) word) (walked s.rules [] (walk_at h waiting) word) a f d h
  plain_step true a f d h waiting word differs skips (rule, valued, waiting_is, pending) no_long no_short other =
      let met : clap_met s.rules [] false waiting 1 word h ≡ (pushed rule.id word h, next idle) =
      met_is h waiting word differs ∙ rw (no_long, no_short, waiting_is) (plain_value rule h word valued pending) in
      rw (walked_is h waiting word (pushed rule.id word h, next idle) met) (value_reads a f d h waiting word skips rule valued waiting_is pending)
  plain_step false a f d h waiting word differs skips waits_is no_long no_short other =
      let met : clap_met s.rules [] false waiting 1 word h ≡ (h, value) = met_is h waiting word differs ∙ rw (no_long, no_short) (plain_file h waiting word waits_is) in
      file_reads a f d h waiting word (word_met (place_at false a f d) word) (walked s.rules [] (walk_at h waiting) word) skips (other (place_at false a f d)) (walked_is h waiting word (h, value) met)

  letter_step : (v a f d : Bool) (h : Held) (waiting : Waiting) (word : Text) → IsUtf8 word → (word ≡ codes "--" → ⊥) → h.skip ≡ 0 → Waits s.rules v h waiting → turn_fault s [] (walk_at h waiting) word ≡ []
      → (x : ℕ) (rest : List ℕ) → word ≡ 45 ∷ x ∷ rest → long_of word ≡ None → short_of word ≡ Some (x ∷ rest) → ((p : Context) → other_met p word ≡ authority_met p (letters_met x rest))
      → Reads s.rules (word_met (place_at v a f d) word) (walked s.rules [] (walk_at h waiting) word) a f d h
  letter_step v a f d h waiting word utf8 differs skips waits_is free x rest is no_long short other =
      let h0 : Held = record h { skip = 0 } in
      let at : flags_fault s.rules s.args_override_self (length (x ∷ rest)) (x ∷ rest) 0 h0 ≡ [] =
      subst (λ (n : ℕ). flags_fault s.rules s.args_override_self (length (x ∷ rest)) (x ∷ rest) n h0 ≡ []) skips (rw (no_long, short) at (fault_is h waiting word differs free)) in
      let spelt : encodes utf8.0 ≡ encode_utf8 45 ++ (x ∷ rest) = utf8.1.1 ∙ is ∙ ap (λ (e : List ℕ). e ++ (x ∷ rest)) (sym (encode_ascii 45 (omega arith))) in
      let chars = cons_from_encodes utf8.0 (x ∷ rest) 45 spelt in
      let all : scalars chars.0 ≡ true = (and_parts (scalar 45) (scalars chars.0) (ap scalars (sym chars.1) ∙ utf8.1.0)).1 in
      by v waits_is chars.0 all chars.2 at
    where
      same_ends : (t : List ℕ) (k : ℕ) → BundleEnds s.rules s.args_override_self (fold letter_met no_letters t) (let h0 : Held = record h { skip = 0 } in h0) (bundle_met s.rules k t 0 plain (let h0 : Held = record h { skip = 0 } in h0))
          → BundleEnds s.rules s.args_override_self (fold letter_met no_letters t) h (bundle_met s.rules k t 0 plain (let h0 : Held = record h { skip = 0 } in h0))
      same_ends t k ends = record { skip = ends.skip; ends = ends.ends; authority = ends.authority; files = ends.files }

      by : (v : Bool) → Waits s.rules v h waiting → (cs : List ℕ) → scalars cs ≡ true → encodes cs ≡ x ∷ rest
          → flags_fault s.rules s.args_override_self (length (x ∷ rest)) (x ∷ rest) 0 (let h0 : Held = record h { skip = 0 } in h0) ≡ []
          → Reads s.rules (word_met (place_at v a f d) word) (walked s.rules [] (walk_at h waiting) word) a f d h
      by true (rule, valued, waiting_is, pending) [] all spells at = absurd (cc spells)
      by true (rule, valued, waiting_is, pending) (y ∷ ys) all spells at =
          let h0 : Held = record h { skip = 0 } in
          let faults : flags_fault s.rules s.args_override_self (length (x ∷ rest)) (encodes (y ∷ ys)) 0 h0 ≡ [] = rw spells at in
          absurd (settle_waits s.rules s.args_override_self rule h0 valued pending
          (bundle_settles s.rules s.args_override_self letters y ys all (length (x ∷ rest)) h0 (omega (arith, ap length spells)) faults))
      by false waits_is [] all spells at = absurd (cc spells)
      by false waits_is (y ∷ ys) all spells at =
          let h0 : Held = record h { skip = 0 } in
          let k : ℕ = length (x ∷ rest) in
          let faults : flags_fault s.rules s.args_override_self k (encodes (y ∷ ys)) 0 h0 ≡ [] = rw spells at in
          let ends = bundle_ends s.rules s.args_override_self letters (y ∷ ys) all k plain h0 (omega (arith, ap length spells)) (λ none. absurd (cc none)) refl faults in
          let result : Held × Outcome = bundle_met s.rules k (x ∷ rest) 0 plain h0 in
          let named : BundleEnds s.rules s.args_override_self (letters_met x rest) h result =
          subst (λ (t : List ℕ). BundleEnds s.rules s.args_override_self (fold letter_met no_letters t) h (bundle_met s.rules k t 0 plain h0)) spells (same_ends (encodes (y ∷ ys)) k ends) in
          let met : clap_met s.rules [] false waiting 1 word h ≡ after_flag s.rules waiting word result.0 result.1 = met_is h waiting word differs ∙ rw (no_long, short, skips) refl in
          letters_read a f d h waiting word (letters_met x rest) result (word_met (place_at false a f d) word) (walked s.rules [] (walk_at h waiting) word) named (other (place_at false a f d))
          (walked_is h waiting word (after_flag s.rules waiting word result.0 result.1) met)

  pub step : (v a f d : Bool) (h : Held) (waiting : Waiting) (word : Text) → IsUtf8 word → (word ≡ codes "--" → ⊥) → h.skip ≡ 0 → Waits s.rules v h waiting → turn_fault s [] (walk_at h waiting) word ≡ []
      → Reads s.rules (word_met (place_at v a f d) word) (walked s.rules [] (walk_at h waiting) word) a f d h
  step v a f d h waiting word utf8 differs skips waits_is free = by (word_is word differs)
    where
      by : WordIs word → Reads s.rules (word_met (place_at v a f d) word) (walked s.rules [] (walk_at h waiting) word) a f d h
      by (plain_is no_long no_short other) = plain_step v a f d h waiting word differs skips waits_is no_long no_short other
      by (long_is p is) = absurd (longs p.0 p.1 h (rw is at (fault_is h waiting word differs free)))
      by (short_is x rest is no_long short other) = letter_step v a f d h waiting word utf8 differs skips waits_is free x rest is no_long short other
