-- `swap` reads the value at the pointer and writes the other one there.
use Rattle.krl_c.proofs.Common.{ !, [], ‵, ◌$◌, ◌++◌, ◌∙◌, ◌∵◌, ◌∷◌, ◌≡◌, ◌⊛◌, alloc_all, ap}
use Rattle.krl_c.proofs.Common.{assigns_last, at_ret, blocks, cell_at, closes, done, ends_at, ent}
use Rattle.krl_c.proofs.Common.{enter, env, exec, fat, first, fjoin, fjoin3, fld, flft, frame}
use Rattle.krl_c.proofs.Common.{free_all, fsplit, fsplit3, ftrue, full_share, get, Goes-blank}
use Rattle.krl_c.proofs.Common.{Goes-ref, has_ty, id⊢, in_a_block, Is, join, keep, lies_at, List}
use Rattle.krl_c.proofs.Common.{load, lone, Lone-is, look, look_at, move, named, nothing, of_opd}
use Rattle.krl_c.proofs.Common.{only, opens, part_at, pass_all, peeks, pick, plain, prop, proved_at}
use Rattle.krl_c.proofs.Common.{Ptr, qed, refl, returns, rewrite, sets, sets_last, shows, some}
use Rattle.krl_c.proofs.Common.{split, Sq, stay_dropped, stay_ref, Stays, stop, store, subst}
use Rattle.krl_c.proofs.Common.{suffices, sym, T, tables, through, Ty, Typed, use1, use2, Val}
use Rattle.krl_c.proofs.Common.{walk_of, WpFn, WT, yes}
use types.Part.{whole, sub, look_in}
use denote.Ref.{MutRef, mut_vals, mut_Tells}
use Rattle.std.proofs.mem.Facts.{says_two}
use borrow.Table.OneValue.{part_out, part_in}
use Rattle.krl_c.proofs.handle.swap.Statement.{statement}
use Rattle.krl_c.proofs.handle.Krl.TheLaws.{lowers}
use Rattle.krl_c.specs.contracts.handle.swap as f
use Rattle.krl_c.proofs.handle.swap.Code as code
use Rattle.krl_c.specs.contracts.handle.Krl.{the_row as R}
use Rattle.krl_c.specs.contracts.stored.Stored.{the_row as K}
use Rattle.krl_c.proofs.stored.Stored.TheLaws.{the_row_laws as laws}

abbrev τ : Ty
τ = lone K.mir

abbrev stayed : Stays f.ended.signature.params f.ended.kept
stayed = (stay_ref (0 ∷ []) tt (plain (λ _. R)), (stay_dropped (plain (λ _. K)) yes, tt))

pub swap_spec : {M : Type 1} → statement M
swap_spec 𝓤 𝓛 𝓜 𝓡 wired =
    let c = f.clauses 𝓛 𝓜.mem 𝓡.returns in let W = walk_of 𝓛 f.ended stayed c in let 𝓣 = tables 𝓤 𝓛.H 𝓜 𝓡 𝓡.env in
    proved_at 𝓛 f.ended stayed c 𝓜 𝓡 (Goes-ref 𝓛 1 0 tt (plain (λ _. R)), (Goes-blank 𝓛 1 (plain (λ _. K)) yes (λ κs x w. tt), tt))
    f.Key.name code.function (code.unfolded 𝓤 𝓛.H 𝓜 𝓡 wired) (λ z are.
    let κs = z.0.0 in let qs = z.0.1 in let a = z.0.3 in let g = z.1 in
    let r = a.0 in let stored = a.1.0 in let b = r.ref_ptr.0 in let o = r.ref_ptr.1 in let h = r.now in
    let At : List Val → List Val → W.Ghost = λ us vs. ((κs, qs, z.0.2, a, (us, (vs, tt))), g) in
    let Goes : List Val → List Val → Type 1 = λ us vs. ent 𝓤 (W.pre (At us vs)) (WpFn 𝓤 𝓛.H 𝓣.C 𝓣.Λ code.function (us ++ (vs ++ [])) (W.post (At us vs))) in
    let us : List Val = mut_vals r in
    let at : z.0.4.0 ≡ us = mut_Tells (named 0) κs.0 R r z.0.4.0 are.0 in
    let u : Val = only z.0.4.1.0 in
    let is_u : z.0.4.1.0 ≡ u ∷ [] = Lone-is z.0.4.1.0 (laws.single stored z.0.4.1.0 are.1.0) in
    let tu : T (has_ty τ u) × WT u = (subst (Typed (τ ∷ [])) is_u ((laws.lawful 𝓛).typed stored z.0.4.1.0 are.1.0)).0 in
    let y : W.Ghost = At us (u ∷ []) in
    let new = record h { stored = stored } in
    let out : (v : Val) → Sq 𝓛 (‵ ((MutRef (named 0) κs.0 R).own_val (record r { now = new }) us) ∷ ‵ (flft κs.0 qs.0) ∷ ‵ (K.own_val h.stored (v ∷ [])) ∷ []) (prop (W.post y v)) = λ v.
    suffices ! _ (ends_at 𝓛 f.ended stayed c y v h.stored (new, ((tt, (tt, tt)), tt)) (tt, (tt, tt))) $ says_two ! (refl, refl) $
    nothing ! $ nothing ! $ fjoin ! $ move ! (1 ∷ 0 ∷ []) $ fjoin ! $ nothing ! $ move ! (2 ∷ 0 ∷ []) $ join ! $ frame ! $ frame ! $ done ! in
    let walk : Goes us (u ∷ []) =
    qed 𝓛 (((‵ (flft κs.0 qs.0) ⊛ ‵ ftrue) ⊛ ‵ ((MutRef (named 0) κs.0 R).own_val r us) ⊛ ‵ (K.own_val stored (u ∷ [])) ⊛ ‵ ftrue) ∷ ‵ ftrue ∷ []) ∵
    split ! $ split ! $ move ! (2 ∷ []) $ split ! $ move ! (1 ∷ []) $ split ! $ keep ! (2 ∷ 3 ∷ 0 ∷ []) $
    enter ! _ _ _ _ _ $ alloc_all ! (λ l. pass_all ! refl ((tt, tt), (tu, tt)) $ let Ev = env code.Mir.locals l in
    fsplit3 ! $ move ! (1 ∷ 2 ∷ 3 ∷ []) $ opens ! tt R b o (λ ws.
    move ! (1 ∷ []) $ peeks ! R _ (shows 𝓛 R) h ws (λ is. fsplit ! $ move ! (1 ∷ []) $
    in_a_block ! h.at (λ p. lies_at K full_share p h.stored) (id⊢ 𝓤 _) (λ b' o' e.
    use1 𝓛 (some (λ (v : Val). ‵ (fat full_share τ b' o' v) ⊛ ‵ (K.own_val h.stored (v ∷ [])))) (part_out 𝓛 K refl full_share h.stored b' o') $ pick ! (λ v. split ! $
    move ! (1 ∷ []) $ peeks ! K (Is K) (shows 𝓛 K) h.stored (v ∷ []) (λ is_v.
    let tv : T (has_ty τ v) × WT v = ((laws.lawful 𝓛).typed h.stored (v ∷ []) is_v).0 in
    let word = lowers.val_is h ws is ∙ ap (λ (p : Ptr). lowers.lowered (record h { at = p }) ∷ []) e in
    let Cell = λ (xs : List Val). ‵ (cell_at full_share R.mir xs b o) in
    rewrite ! 3 Cell word refl $
    -- [what the old value owns; its cell; the fields; the struct's cell; the open borrow, in three;
    -- the rest of krl; what kept owns]
    sets ! (of_opd ! (load ! (through ! refl (fld ! refl (stop !))) (look_in ! 3 (sub ! 0 refl (whole !))))) refl (tt, tt) $
    sets ! (of_opd ! (get ! refl)) refl (tt, tt) $
    first ! $ blocks ! $
    sets_last ! (of_opd ! (load ! (through ! refl (stop !)) (look ! 1 refl))) refl tv $
    exec ! 𝓣.C 𝓣.Λ Ev code.Mir.t-4 (at_ret Ev (W.post y)) $
    sets ! (of_opd ! (get ! refl)) refl tv $
    first ! $ blocks ! $ sets ! (of_opd ! (get ! refl)) refl tu $
    assigns_last ! (of_opd ! (get ! refl)) (through ! refl (stop !)) (store ! 1 refl tu) $
    exec ! 𝓣.C 𝓣.Λ Ev code.Mir.t-6 (at_ret Ev (W.post y)) $
    sets ! (of_opd ! (get ! refl)) refl tv $
    rewrite ! 3 Cell (sym word) refl $
    move ! (1 ∷ 8 ∷ []) $ use2 𝓛 (‵ (part_at K full_share stored b' o')) (part_in 𝓛 K refl full_share stored b' o' u) $
    rewrite ! 0 (λ (p : Ptr). ‵ (lies_at K full_share p stored)) (sym e) refl $
    -- [kept at the pointer; what the old value owns; the fields; the struct's cell; the open
    -- borrow, in three; the rest of krl]
    move ! (2 ∷ 0 ∷ []) $ fjoin ! $ move ! (2 ∷ 0 ∷ 3 ∷ 4 ∷ 5 ∷ []) $ closes ! tt R (record h { stored = stored }) ws b o $
    returns ! (look_at ! 0 refl) $ free_all ! refl $
    -- [krl, but for its first part, in two; the token; what the old value owns; the first part]
    move ! (4 ∷ 0 ∷ 1 ∷ 2 ∷ 3 ∷ []) $ fjoin3 ! $
    keep ! (0 ∷ 1 ∷ 2 ∷ []) $ out v)))))) in
    subst (λ (ws : List Val). Goes ws z.0.4.1.0) (sym at) (subst (Goes us) (sym is_u) walk))
