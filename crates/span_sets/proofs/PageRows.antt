-- A list of pages.
use Rattle.span_sets.proofs.Common.{[], ◌++◌, ◌+◌, ◌-◌, ◌<◌, ◌∙◌, ◌∷◌, ◌≡◌, ◌≤◌, ◌⊎◌, add-zero, All}
use Rattle.span_sets.proofs.Common.{All-append, All-head, All-nil, All-tail, ap, append-nil}
use Rattle.span_sets.proofs.Common.{append_assoc, arith, cases_lt, Chunk, chunks_in, chunks_of}
use Rattle.span_sets.proofs.Common.{ChunksFrom, CutTo, drop, drop-drop, drop-set-lt, drop_all}
use Rattle.span_sets.proofs.Common.{drop_at, end_of, get_or, get_or-drop, hi_of, inl, inr, insert}
use Rattle.span_sets.proofs.Common.{IsListFrom, IsNonDecreasingBy, IsSplit, length, length-append}
use Rattle.span_sets.proofs.Common.{length-drop, length-take-le, List, lo_of, min, refl, Replaces}
use Rattle.span_sets.proofs.Common.{set, stretch, subst, suc, sym, take, take-append-drop}
use Rattle.span_sets.proofs.Common.{take-take, take_all, take_at, take_more_set, BlockWidened, zero}
use Rattle.span_sets.proofs.Common.{ℕ}
use Rattle.std.proofs.lemmas.List.Concat.{flat_map-append}
use Rattle.span_sets.specs.declared.page.Page.{Page}
use Rattle.span_sets.proofs.Parts.{rises_before}
use Rattle.span_sets.proofs.ListsOfLists.{all_left, all_right, flat_cut, flat_drop, flat_at}
use Rattle.span_sets.proofs.ListsOfLists.{part_at, part_set, first_of}
use Rattle.span_sets.proofs.ChunkOrder.{chunks_each, end_most, end_upto, end_back, chunks_past}
use Rattle.span_sets.proofs.OrderedChunks.{chunks_front, chunks_back}

pub page_some : (p : Page) → 0 < length (chunks_in p)
page_some p = p.some

-- ---- order

pub order_left : (a : ℕ) (ps : List Page) (at : ℕ) → ChunksFrom a (chunks_of ps) → ChunksFrom a (chunks_of (take at ps))
order_left a ps at r = chunks_front a (chunks_of (take at ps)) (chunks_of (drop at ps)) (subst (ChunksFrom a) (flat_cut chunks_in ps at) r)

pub order_right : (a : ℕ) (ps : List Page) (at : ℕ) → ChunksFrom a (chunks_of ps) → ChunksFrom a (chunks_of (drop at ps))
order_right a ps at r = chunks_back a (chunks_of (take at ps)) (chunks_of (drop at ps)) (subst (ChunksFrom a) (flat_cut chunks_in ps at) r)

pub order_page : (ps : List Page) (at : ℕ) (d : Page) → at < length ps → ChunksFrom 0 (chunks_of ps) → ChunksFrom 0 (chunks_in (get_or ps at d))
order_page ps at d h r =
    chunks_front 0 (chunks_in (get_or ps at d)) (chunks_of (drop (at + 1) ps)) (subst (ChunksFrom 0) (flat_drop chunks_in ps at d h) (order_right 0 ps at r))

-- pages after a page begin past its end
pub past_page : (ps : List Page) (at : ℕ) (d : Page) → at < length ps → ChunksFrom 0 (chunks_of ps)
    → All (λ e. end_of (chunks_in (get_or ps at d)) + 1 ≤ lo_of e) (chunks_of (drop (at + 1) ps))
past_page ps at d h r =
    let page = get_or ps at d in
    let here = subst (ChunksFrom 0) (flat_drop chunks_in ps at d h) (order_right 0 ps at r) in
    chunks_each (end_of (chunks_in page) + 1) (chunks_of (drop (at + 1) ps))
    (chunks_past 0 (chunks_in page) (chunks_of (drop (at + 1) ps)) (page_some page) here)

-- ---- ends

-- what holds for the end of each chunk holds for the end of a page
end_holds : (P : ℕ → Type 0) (es : List Chunk) → 0 < length es → All (λ e. P (hi_of e)) es → P (end_of es)
end_holds P [] some h = absurd (omega arith)
end_holds P (e ∷ []) some h = All-head (λ t. P (hi_of t)) e [] h
end_holds P (e ∷ (f ∷ es)) some h = end_holds P (f ∷ es) (omega arith) (All-tail (λ t. P (hi_of t)) e (f ∷ es) h)

least_page : (n : ℕ) (ps : List Page) (j : ℕ) (d : Page) → All (λ e. n ≤ hi_of e) (chunks_of ps) → j < length ps → n ≤ end_of (chunks_in (get_or ps j d))
least_page n [] j d h q = absurd (omega arith)
least_page n (p ∷ ps) zero d h q = end_holds (λ m. n ≤ m) (chunks_in p) (page_some p) (all_left (λ e. n ≤ hi_of e) (chunks_in p) (chunks_of ps) h)
least_page n (p ∷ ps) (suc j) d h q = least_page n ps j d (all_right (λ e. n ≤ hi_of e) (chunks_in p) (chunks_of ps) h) (omega arith)

pub pages_rise : (a : ℕ) (ps : List Page) → ChunksFrom a (chunks_of ps) → IsNonDecreasingBy (λ p. end_of (chunks_in p)) ps
pages_rise a [] r i j d h k = absurd (omega arith)
pages_rise a (p ∷ ps) r zero zero d h k = omega arith
pages_rise a (p ∷ ps) r zero (suc j) d h k =
    let past = chunks_past a (chunks_in p) (chunks_of ps) (page_some p) r in
    let each = chunks_each (end_of (chunks_in p) + 1) (chunks_of ps) past in
    least_page (end_of (chunks_in p)) ps j d (λ k e q. let at = each k e q in let whole = stretch (get_or (chunks_of ps) k e) in omega arith) (omega arith)
pages_rise a (p ∷ ps) r (suc i) zero d h k = absurd (omega arith)
pages_rise a (p ∷ ps) r (suc i) (suc j) d h k =
    pages_rise (end_of (chunks_in p) + 1) ps (chunks_past a (chunks_in p) (chunks_of ps) (page_some p) r) i j d (omega arith) (omega arith)

-- the chunks of pages that all end below a number
pub pages_below : (n a : ℕ) (ps : List Page) → ChunksFrom a (chunks_of ps) → All (λ p. end_of (chunks_in p) < n) ps → All (λ e. hi_of e < n) (chunks_of ps)
pages_below n a [] r h = All-nil (λ e. hi_of e < n)
pages_below n a (p ∷ ps) r h =
    let here : end_of (chunks_in p) < n = All-head (λ q. end_of (chunks_in q) < n) p ps h in
    let most = end_most a (chunks_in p) (chunks_front a (chunks_in p) (chunks_of ps) r) in
    All-append (λ e. hi_of e < n) (chunks_in p) (chunks_of ps) (λ k d q. let at = most k d q in omega arith)
    (pages_below n (end_of (chunks_in p) + 1) ps (chunks_past a (chunks_in p) (chunks_of ps) (page_some p) r) (All-tail (λ q. end_of (chunks_in q) < n) p ps h))

pub pages_upto : (n a : ℕ) (ps : List Page) → ChunksFrom a (chunks_of ps) → All (λ p. end_of (chunks_in p) ≤ n) ps → All (λ e. hi_of e ≤ n) (chunks_of ps)
pages_upto n a ps r h =
    let below = pages_below (n + 1) a ps r (λ k d q. let at = h k d q in omega arith) in
    λ k d q. let at = below k d q in omega arith

-- the chunks of fewer pages are among those of more
pub fewer_pages : (P : Chunk → Type 0) (ps : List Page) (m n : ℕ) → m ≤ n → All P (chunks_of (take n ps)) → All P (chunks_of (take m ps))
fewer_pages P ps m n h all =
    let same : take m (take n ps) ≡ take m ps = take-take m n ps h in
    subst (λ l. All P (chunks_of l)) same
    (all_left P (chunks_of (take m (take n ps))) (chunks_of (drop m (take n ps))) (subst (All P) (flat_cut chunks_in (take n ps) m) all))

-- pages after the one for a number end at the number or past it
pub rest_after : (ps : List Page) (n at lo : ℕ) → ChunksFrom 0 (chunks_of ps) → n ≤ length ps → All (λ p. lo ≤ end_of (chunks_in p)) (drop n ps) → at ≡ min n (length ps - 1)
    → All (λ e. lo ≤ hi_of e) (chunks_of (drop (at + 1) ps))
rest_after [] n at lo r within ends is =
    subst (λ l. All (λ e. lo ≤ hi_of e) (chunks_of l)) (sym (drop_all (at + 1) [] (omega arith))) (All-nil (λ e. lo ≤ hi_of e))
rest_after (p ∷ ps) n at lo r within ends is =
    elim (cases_lt n (length (p ∷ ps))) [
      | inl before ↦ (let same : at ≡ n = omega arith in
          let first : lo ≤ end_of (chunks_in (get_or (p ∷ ps) n p)) = first_of (λ q. lo ≤ end_of (chunks_in q)) (p ∷ ps) n p before ends in
          let later = past_page (p ∷ ps) n p before r in
          subst (λ m. All (λ e. lo ≤ hi_of e) (chunks_of (drop (m + 1) (p ∷ ps)))) (sym same)
          (λ k d q. let t = later k d q in let whole = stretch (get_or (chunks_of (drop (n + 1) (p ∷ ps))) k d) in omega arith))
      | inr all ↦ (let none : drop (at + 1) (p ∷ ps) ≡ [] = drop_all (at + 1) (p ∷ ps) (omega arith) in
          subst (λ l. All (λ e. lo ≤ hi_of e) (chunks_of l)) (sym none) (All-nil (λ e. lo ≤ hi_of e)))
    ]

-- ---- where a number is

pub list_at : (ps : List Page) (at position number : ℕ) (d : Page) → at < length ps → All (λ e. hi_of e < number) (chunks_of (take at ps)) → number ≤ end_of (chunks_in (get_or ps at d))
    → All (λ e. hi_of e < number) (take position (chunks_in (get_or ps at d))) → All (λ e. number ≤ hi_of e) (drop position (chunks_in (get_or ps at d)))
    → IsListFrom (chunks_of ps) number (drop position (chunks_in (get_or ps at d)))
list_at ps at position number d h before end below reach =
    let page = chunks_in (get_or ps at d) in
    let front = chunks_of (take at ps) in
    let back = chunks_of (drop (at + 1) ps) in
    record {
      front = front ++ take position page;
      back = back;
      parts = part_at chunks_in ps at d (take position page) (drop position page) h (sym (take-append-drop position page));
      below = All-append (λ e. hi_of e < number) front (take position page) before below;
      reach = reach;
      some = λ none.
          let all : take position page ≡ page = take_all position page (let n = ap length none in omega (arith, length-drop position page)) in
          let less = end_holds (λ m. m < number) page (page_some (get_or ps at d)) (subst (All (λ e. hi_of e < number)) all below) in
          absurd (omega arith);
    }

pub list_none : (ps : List Page) (at number : ℕ) → length ps ≤ at → All (λ e. hi_of e < number) (chunks_of (take at ps)) → IsListFrom (chunks_of ps) number []
list_none ps at number h before =
    let all : All (λ e. hi_of e < number) (chunks_of ps) = subst (λ l. All (λ e. hi_of e < number) (chunks_of l)) (take_all at ps h) before in
    record {
      front = chunks_of ps;
      back = [];
      parts = sym (append-nil (chunks_of ps));
      below = all;
      reach = All-nil (λ e. number ≤ hi_of e);
      some = λ none. refl;
    }

-- ---- removal from the front

pub cut_all : (ps : List Page) (gone number : ℕ) → length ps ≤ gone → All (λ e. hi_of e ≤ number) (chunks_of (take gone ps)) → CutTo (chunks_of ps) number []
cut_all ps gone number h by =
    let all : All (λ e. hi_of e ≤ number) (chunks_of ps) = subst (λ l. All (λ e. hi_of e ≤ number) (chunks_of l)) (take_all gone ps h) by in
    record {
      gone = chunks_of ps;
      were = sym (append-nil (chunks_of ps));
      inside = λ k d q. let at = all k d q in let whole = stretch (get_or (chunks_of ps) k d) in omega arith;
      above = All-nil (λ e. number < lo_of e);
    }

pub cut_some : (ps : List Page) (gone number : ℕ) (d : Page) (left : List Chunk) → ChunksFrom 0 (chunks_of ps) → gone < length ps → All (λ e. hi_of e ≤ number) (chunks_of (take gone ps)) → number < end_of (chunks_in (get_or ps gone d))
    → CutTo (chunks_in (get_or ps gone d)) number left → CutTo (chunks_of ps) number (left ++ chunks_of (drop (gone + 1) ps))
cut_some ps gone number d left r h by past k =
    let front = chunks_of (take gone ps) in
    let back = chunks_of (drop (gone + 1) ps) in
    let later = past_page ps gone d h r in
    record {
      gone = front ++ k.gone;
      were = part_at chunks_in ps gone d k.gone left h k.were;
      inside = All-append (λ e. lo_of e ≤ number) front k.gone
          (λ i e q. let at = by i e q in let whole = stretch (get_or front i e) in omega arith) k.inside;
      above = All-append (λ e. number < lo_of e) left back k.above (λ i e q. let at = later i e q in omega arith);
    }

pub all_page : (P : Chunk → Type 0) (ps : List Page) (at : ℕ) (d : Page) → at < length ps → All P (chunks_of ps) → All P (chunks_in (get_or ps at d))
all_page P ps at d h all =
    let page = chunks_in (get_or ps at d) in
    let back = chunks_of (drop (at + 1) ps) in
    all_left P page back (all_right P (chunks_of (take at ps)) (page ++ back) (subst (All P) (flat_at chunks_in ps at d h) all))

-- ---- one change

-- a change of one page and a removal from those after it, as one change of all
joined_by : (front a m c gone left : List Chunk) → (gone ≡ []) ⊎ (c ≡ [])
    → front ++ ((a ++ (m ++ c)) ++ (gone ++ left)) ≡ (front ++ a) ++ ((m ++ gone) ++ (c ++ left))
joined_by front a m c gone left either =
    let swap : c ++ (gone ++ left) ≡ gone ++ (c ++ left) = elim either [
      | inl none ↦ ap (λ l. c ++ (l ++ left)) none ∙ ap (λ l. l ++ (c ++ left)) (sym none)
      | inr none ↦ ap (λ l. l ++ (gone ++ left)) none ∙ ap (λ l. gone ++ (l ++ left)) (sym none)
    ] in
    ap (λ l. front ++ l) (append_assoc a (m ++ c) (gone ++ left) ∙ ap (λ l. a ++ l) (append_assoc m c (gone ++ left) ∙ ap (λ l. m ++ l) swap ∙ sym (append_assoc m gone (c ++ left))))
    ∙ sym (append_assoc front a ((m ++ gone) ++ (c ++ left)))

-- either there are no chunks past a number, or no chunks were removed after them
either_none : (back gone left : List Chunk) (hi a : ℕ) → ChunksFrom a (back ++ (gone ++ left)) → All (λ e. hi < lo_of e) back → All (λ e. lo_of e ≤ hi) gone → (gone ≡ []) ⊎ (back ≡ [])
either_none [] gone left hi a r above inside = inr refl
either_none (b ∷ bs) [] left hi a r above inside = inl refl
either_none (b ∷ bs) (g ∷ gs) left hi a r above inside =
    let first : hi < lo_of b = All-head (λ e. hi < lo_of e) b bs above in
    let cut : lo_of g ≤ hi = All-head (λ e. lo_of e ≤ hi) g gs inside in
    let whole = stretch b in
    let later = all_right (λ e. hi_of b + 1 ≤ lo_of e) bs ((g ∷ gs) ++ left) (chunks_each (hi_of b + 1) (bs ++ ((g ∷ gs) ++ left)) r.1) in
    let next : hi_of b + 1 ≤ lo_of g = All-head (λ e. hi_of b + 1 ≤ lo_of e) g (gs ++ left) later in
    absurd (omega arith)

pub put_pages : (front page rest few new left : List Chunk) (lo hi : ℕ) → ChunksFrom 0 (front ++ (page ++ rest)) → All (λ e. hi_of e < lo) front → All (λ e. lo ≤ hi_of e) rest
    → Replaces page lo hi few new → CutTo rest hi left → Replaces (front ++ (page ++ rest)) lo hi few (front ++ (new ++ left))
put_pages front page rest few new left lo hi order before after r k =
    let both = chunks_back 0 front (page ++ rest) order in
    let parts : page ++ rest ≡ r.front ++ (r.middle ++ (r.back ++ (k.gone ++ left))) =
    ap (λ l. l ++ rest) r.were ∙ append_assoc r.front (r.middle ++ r.back) rest ∙ ap (λ l. r.front ++ l) (append_assoc r.middle r.back rest) ∙ ap (λ l. r.front ++ (r.middle ++ (r.back ++ l))) k.were in
    let tail = chunks_back 0 r.middle (r.back ++ (k.gone ++ left)) (chunks_back 0 r.front (r.middle ++ (r.back ++ (k.gone ++ left))) (subst (ChunksFrom 0) parts both)) in
    let either = either_none r.back k.gone left hi 0 tail r.above k.inside in
    let reach = all_left (λ e. lo ≤ hi_of e) k.gone left (subst (All (λ e. lo ≤ hi_of e)) k.were after) in
    record {
      front = front ++ r.front;
      middle = r.middle ++ k.gone;
      back = r.back ++ left;
      were = ap (λ l. front ++ (l ++ rest)) r.were ∙ ap (λ l. front ++ ((r.front ++ (r.middle ++ r.back)) ++ l)) k.were
          ∙ joined_by front r.front r.middle r.back k.gone left either;
      are = ap (λ l. front ++ (l ++ left)) r.are
          ∙ ap (λ l. front ++ l) (append_assoc r.front (few ++ r.back) left ∙ ap (λ l. r.front ++ l) (append_assoc few r.back left))
          ∙ sym (append_assoc front r.front (few ++ (r.back ++ left)));
      below = All-append (λ e. hi_of e < lo) front r.front before r.below;
      inside = All-append (λ e. (lo ≤ hi_of e) × (lo_of e ≤ hi)) r.middle k.gone r.inside (λ i d q. (reach i d q, k.inside i d q));
      above = All-append (λ e. hi < lo_of e) r.back left r.above k.above;
    }

past_by : (a m c page rest few new : List Chunk) (hi : ℕ) → ChunksFrom 0 (page ++ rest) → 0 < length few → All (λ e. hi_of e ≤ hi) few → page ≡ a ++ (m ++ c) → new ≡ a ++ (few ++ c) → All (λ e. hi < lo_of e) c → hi < end_of new → All (λ e. hi < lo_of e) rest
past_by a m [] page rest few new hi order some ends were are above past =
    let same : end_of new ≡ end_of few = ap end_of are ∙ end_back a (few ++ []) (omega (arith, length-append few [])) ∙ ap end_of (append-nil few) in
    let upto = end_upto hi few ends in
    absurd (omega arith)
past_by a m (c ∷ cs) page rest few new hi order some ends were are above past =
    let first : hi < lo_of c = All-head (λ e. hi < lo_of e) c cs above in
    let whole = stretch c in
    let parts : page ++ rest ≡ a ++ (m ++ (c ∷ (cs ++ rest))) = ap (λ l. l ++ rest) were ∙ append_assoc a (m ++ (c ∷ cs)) rest ∙ ap (λ l. a ++ l) (append_assoc m (c ∷ cs) rest) in
    let tail = chunks_back 0 m (c ∷ (cs ++ rest)) (chunks_back 0 a (m ++ (c ∷ (cs ++ rest))) (subst (ChunksFrom 0) parts order)) in
    let later = all_right (λ e. hi_of c + 1 ≤ lo_of e) cs rest (chunks_each (hi_of c + 1) (cs ++ rest) tail.1) in
    λ k d q. let at = later k d q in omega arith

-- if a changed page ends past a number, all chunks after the page are past it
pub past_put : (page rest few new : List Chunk) (lo hi : ℕ) → ChunksFrom 0 (page ++ rest) → 0 < length few → All (λ e. hi_of e ≤ hi) few → Replaces page lo hi few new → hi < end_of new → All (λ e. hi < lo_of e) rest
past_put page rest few new lo hi order some ends r past = past_by r.front r.middle r.back page rest few new hi order some ends r.were r.are r.above past

pub put_whole : (xs zs : List Page) (at : ℕ) (new d : Page) (few : List Chunk) (lo hi : ℕ) → at < length xs → ChunksFrom 0 (chunks_of xs) → All (λ e. hi_of e < lo) (chunks_of (take at xs)) → All (λ e. lo ≤ hi_of e) (chunks_of (drop (at + 1) xs))
    → Replaces (chunks_in (get_or xs at d)) lo hi few (chunks_in new) → take (at + 1) zs ≡ take (at + 1) (set xs at new) → CutTo (chunks_of (drop (at + 1) xs)) hi (chunks_of (drop (at + 1) zs)) → Replaces (chunks_of xs) lo hi few (chunks_of zs)
put_whole xs zs at new d few lo hi h order before after r same k =
    let front = chunks_of (take at xs) in
    let page = chunks_in (get_or xs at d) in
    let rest = chunks_of (drop (at + 1) xs) in
    let left = chunks_of (drop (at + 1) zs) in
    let was = flat_at chunks_in xs at d h in
    let here : chunks_of (take (at + 1) zs) ≡ front ++ chunks_in new =
    ap chunks_of (same ∙ take_more_set xs at new h) ∙ flat_map-append chunks_in (take at xs) (new ∷ []) ∙ ap (λ l. front ++ l) (append-nil (chunks_in new)) in
    let is : chunks_of zs ≡ front ++ (chunks_in new ++ left) =
    flat_cut chunks_in zs (at + 1) ∙ ap (λ l. l ++ left) here ∙ append_assoc front (chunks_in new) left in
    let all = put_pages front page rest few (chunks_in new) left lo hi (subst (ChunksFrom 0) was order) before after r k in
    subst (λ l. Replaces (chunks_of xs) lo hi few l) (sym is) (subst (λ l. Replaces l lo hi few (front ++ (chunks_in new ++ left))) (sym was) all)

-- a block of one page that gets more bits
pub widened_pages : (xs : List Page) (at window bits : ℕ) (x y : Page) → at < length xs → x ≡ get_or xs at x → BlockWidened (chunks_in x) window bits (chunks_in y) → BlockWidened (chunks_of xs) window bits (chunks_of (set xs at y))
widened_pages xs at window bits x y h read k =
    let front = chunks_of (take at xs) in
    let back = chunks_of (drop (at + 1) xs) in
    record {
      front = front ++ k.front;
      back = k.back ++ back;
      was = k.was;
      is = k.is;
      were = part_at chunks_in xs at x k.front (k.was ∷ k.back) h (ap chunks_in (sym read) ∙ k.were);
      are = part_set chunks_in xs at y k.front (k.is ∷ k.back) h k.are;
      block = k.block;
    }

-- ---- a page that is split

pub all_before : (ps : List Page) (count number : ℕ) (d : Page) → ChunksFrom 0 (chunks_of ps) → 0 < count → count ≤ length ps → end_of (chunks_in (get_or ps (count - 1) d)) < number → All (λ e. hi_of e < number) (chunks_of (take count ps))
all_before ps count number d r some within last =
    pages_below number 0 (take count ps) (order_left 0 ps count r) (rises_before (λ p. end_of (chunks_in p)) ps count number d (pages_rise 0 ps r) some within last)

-- two pages that replace one
pub split_is : (old new : List Page) (at : ℕ) (y z : Page) → at < length old → new ≡ insert (set old at y) (at + 1) z → length (chunks_in y) ≤ 253 → length (chunks_in z) ≤ 253 → IsSplit old at new
split_is old new at y z h is front back =
    let rest = drop (at + 1) old in
    let long : length (take at old) ≡ at = length-take-le at old (omega arith) in
    let later : at < at + 1 = omega arith in
    let parts : new ≡ take at old ++ (y ∷ (z ∷ rest)) =
    is ∙ ap (λ l. l ++ z ∷ drop (at + 1) (set old at y)) (take_more_set old at y h)
    ∙ ap (λ l. (take at old ++ y ∷ []) ++ z ∷ l) (drop-set-lt (at + 1) old at y later)
    ∙ append_assoc (take at old) (y ∷ []) (z ∷ rest) in
    let left : drop at new ≡ y ∷ (z ∷ rest) = ap (drop at) parts ∙ drop_at (take at old) (y ∷ (z ∷ rest)) at long in
    let read : (k : ℕ) (d : Page) → get_or new (at + k) d ≡ get_or (y ∷ (z ∷ rest)) k d =
    λ k d. sym (get_or-drop at new k d) ∙ ap (λ l. get_or l k d) left in
    record {
      within = omega (arith, ap length left, length-drop at new);
      before = ap (take at) parts ∙ take_at (take at old) (y ∷ (z ∷ rest)) at long;
      after = sym (drop-drop 2 at new) ∙ ap (drop 2) left;
      front = λ d. subst (λ p. length (chunks_in p) ≤ 253) (sym (ap (λ n. get_or new n d) (sym (add-zero at)) ∙ read 0 d)) front;
      back = λ d. subst (λ p. length (chunks_in p) ≤ 253) (sym (read 1 d)) back;
    }
