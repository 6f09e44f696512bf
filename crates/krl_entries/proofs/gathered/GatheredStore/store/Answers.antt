use Rattle.krl_entries.proofs.Common.{◌≡◌, all, inl, inr, IsOneChange, on_ok_weaker}
use Rattle.krl_entries.proofs.Gathering.{adds_mean_more, contents_stay, one_change, stored_more}
use Rattle.krl_entries.proofs.AddedMeaning.{means_more_within}
use Rattle.krl_entries.proofs.gathered.GatheredStore.store.Goals as goal

pub returns-then-not-is_key-clause-means : goal.returns-then-not-is_key-clause-means
returns-then-not-is_key-clause-means g c =
    let one : IsOneChange c.args.addition = one_change c.args.addition c.requires.one (λ key. absurd (let is = c.is_key.ensures.1 key in cc)) in
    on_ok_weaker c.put.result (λ u. means_more_within all _ _ _ (adds_mean_more c.args.addition c.args.authority.now _ _ one u)) c.put.ensures.adds

pub returns-then-not-is_key-clause-stored : goal.returns-then-not-is_key-clause-stored
returns-then-not-is_key-clause-stored g c other under =
    let is : other ≡ c.args.authority.now = elim under [ inl key ↦ absurd (let is = c.is_key.ensures.1 key in cc) | inr same ↦ same ] in
    rw is (stored_more c.args.addition c.args.authority.now c.put.result c.args.self.now.contents c.put.new.self.contents c.put.ensures.adds (contents_stay c.put.result c.args.self.now c.put.new.self c.put.ensures.refused))

pub returns-clause-means : goal.returns-clause-means
returns-clause-means g c =
    rw (c.settle.ensures.none, ← c.self.view_is, ← c.settle.ensures.whole) (on_ok_weaker c.add.result (means_more_within all _ _ _) c.add.ensures.means)

pub returns-clause-held : goal.returns-clause-held
returns-clause-held g c =
    rw (c.settle.ensures.none, ← c.self.view_is) (rw c.settle.ensures.whole at c.add.ensures.held)

pub returns-clause-stored : goal.returns-clause-stored
returns-clause-stored g c = rw (c.settle.ensures.none, ← c.self.view_is, ← c.settle.ensures.whole) c.add.ensures.stored
