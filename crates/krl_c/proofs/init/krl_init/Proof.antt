-- The empty value, without a list, is made and written to the handle.
use Rattle.krl_c.proofs.Common.{ !, [], ‵, ◌$◌, ◌++◌, ◌∵◌, ◌∷◌, ◌≡◌, ◌⊛◌, alloc_all, and_then}
use Rattle.krl_c.proofs.Common.{assigns, await, block_ptr, calls_at, done, ends_at, ent, enter}
use Rattle.krl_c.proofs.Common.{fact, feq_i, framed, free_all, froom, ftrue, full_share, get}
use Rattle.krl_c.proofs.Common.{Goes-blank, Goes-dropped, group, has_ty, heard, id⊢, in_a_block}
use Rattle.krl_c.proofs.Common.{init, Is, join, keep, lands_as, Lasts, lasts, later, lies_at, List}
use Rattle.krl_c.proofs.Common.{lone, Lone-is, look_at, move, no_more, nothing, of_opd, only}
use Rattle.krl_c.proofs.Common.{part_at, pass_all, peeks, pick, plain, prop, proved_at, Ptr, qed}
use Rattle.krl_c.proofs.Common.{raw, RawPtr, rawptr_Tells, rawptr_vals, refl, regoal, returns}
use Rattle.krl_c.proofs.Common.{rewrite, room_at, sets, shows, some, split, Sq, stay_dropped, Stays}
use Rattle.krl_c.proofs.Common.{stop, subst, suffices, sym, T, tables, through, triple_of, Ty}
use Rattle.krl_c.proofs.Common.{Typed, unit_lit, unloaded, use1, use2, Val, vunit, walk_of, WpFn}
use Rattle.krl_c.proofs.Common.{WT, yes, ℕ}
use types.Kit.{drop}
use borrow.Table.OneValue.{part_in}
use Rattle.krl_c.proofs.init.krl_init.Statement.{statement}
use Rattle.krl_c.proofs.stored.empty.Met.{met}
use Rattle.std.specs.contracts.alloc.Global.{the_row as Z}
use Rattle.std.proofs.alloc.Global.TheLaws.{the_row_laws as heap_laws}
use Rattle.krl_c.specs.contracts.init.krl_init as f
use Rattle.krl_c.proofs.init.krl_init.Code as code
use Rattle.krl_c.specs.contracts.stored.empty as e
use Rattle.krl_c.specs.contracts.stored.Stored.{the_row as K}
use Rattle.krl_c.proofs.stored.Stored.TheLaws.{the_row_laws as laws}

abbrev τ : Ty
τ = lone K.mir

abbrev stayed : Stays f.ended.signature.params f.ended.kept
stayed = (stay_dropped (plain (λ _. Z)) yes, (stay_dropped (plain (λ _. RawPtr)) yes, tt))

pub krl_init_spec : {M : Type 1} → statement M
krl_init_spec 𝓤 𝓛 𝓜 𝓡 wired =
    let c = f.clauses 𝓛 𝓜.mem 𝓡.returns in let W = walk_of 𝓛 f.ended stayed c in let 𝓣 = tables 𝓤 𝓛.H 𝓜 𝓡 𝓡.env in
    proved_at 𝓛 f.ended stayed c 𝓜 𝓡 (Goes-blank 𝓛 0 (plain (λ _. Z)) yes (λ κs x w. tt), (Goes-dropped 𝓛 0 (plain (λ _. RawPtr)) yes (λ κs x w. refl), tt))
    f.Key.name code.function (code.unfolded 𝓤 𝓛.H 𝓜 𝓡 wired) (λ z are.
    let a = z.0.3 in let alloc = a.0 in let p = a.1.0 in
    let At : List Val → List Val → W.Ghost = λ us vs. ((z.0.0, z.0.1, z.0.2, a, (us, (vs, tt))), z.1) in
    let Goes : List Val → List Val → Type 1 = λ us vs. ent 𝓤 (W.pre (At us vs)) (WpFn 𝓤 𝓛.H 𝓣.C 𝓣.Λ code.function (us ++ (vs ++ [])) (W.post (At us vs))) in
    let g : Val = only z.0.4.0 in
    let is_g : z.0.4.0 ≡ g ∷ [] = Lone-is z.0.4.0 (heap_laws.single alloc z.0.4.0 are.0) in
    let tg : T (has_ty (lone Z.mir) g) × WT g = (subst (Typed (lone Z.mir ∷ [])) is_g ((heap_laws.lawful 𝓛).typed alloc z.0.4.0 are.0)).0 in
    let at : z.0.4.1.0 ≡ rawptr_vals p = rawptr_Tells p z.0.4.1.0 are.1.0 in
    let y : Ptr → W.Ghost = λ s. At (g ∷ []) (rawptr_vals s) in
    let G = triple_of 𝓛 e.signature (e.spec 𝓛 𝓜.mem 𝓡.returns) in
    let x : G.Ghost = ((tt, tt, tt, (alloc, tt), (g ∷ [], tt)), tt) in
    let out : (b o : ℕ) → Sq 𝓛 (‵ (lies_at K full_share p unloaded) ∷ []) (prop (W.post (y (block_ptr b o)) vunit)) = λ b o.
    suffices ! _ (ends_at 𝓛 f.ended stayed c (y (block_ptr b o)) vunit tt (tt, (tt, tt)) (tt, (tt, tt))) $
    feq_i ! _ (vunit ∷ []) _ refl $ nothing ! $ nothing ! $ join ! $ nothing ! $ join ! $ nothing ! $ group ! 3 $ done ! in
    let walk : Goes (g ∷ []) (rawptr_vals p) =
    qed 𝓛 ((‵ ftrue ⊛ ‵ (Z.own_val alloc (g ∷ [])) ⊛ ‵ (RawPtr.own_val p (rawptr_vals p)) ⊛ ‵ ftrue) ∷ ‵ (room_at K p) ∷ []) ∵
    split ! $ move ! (1 ∷ []) $ split ! $ keep ! (0 ∷ 3 ∷ []) $
    move ! (1 ∷ []) $ in_a_block ! p (λ s. room_at K s) (id⊢ 𝓤 _) (λ b o eq.
    regoal ! (λ s. prop (WpFn 𝓤 𝓛.H 𝓣.C 𝓣.Λ code.function ((g ∷ []) ++ (rawptr_vals s ++ [])) (W.post (y s)))) eq refl $
    use1 𝓛 (‵ (froom τ b o)) (id⊢ 𝓤 _) $
    enter ! _ _ _ _ _ $ alloc_all ! (λ l. pass_all ! refl (tg, ((tt, tt), tt)) $
    -- [the room; what alloc owns; the locals]
    sets ! (of_opd ! (get ! refl)) refl (tt, tt) $
    move ! (1 ∷ []) $ nothing ! $ move ! (1 ∷ 0 ∷ []) $ join ! $ nothing ! $ join ! $ nothing ! $ move ! (1 ∷ 0 ∷ []) $ use2 𝓛 (raw (G.pre x)) (id⊢ 𝓤 _) $
    calls_at ! (framed 𝓤 𝓛.H 𝓜 𝓣) G (met 𝓤 𝓛 𝓜 𝓡 (code.calls-krl_c::stored::empty 𝓡.env wired)) x (and_then ! (get ! refl) (no_more !)) (λ v.
    use1 𝓛 (later (some (λ (r : K.Denot). (‵ ftrue ⊛ ‵ (K.own_val r (v ∷ []))) ⊛ some (λ (ws : Lasts e.ended tt (alloc, tt)). ‵ (lasts e.ended tt (alloc, tt) ws) ⊛ raw (fact 𝓤 (r ≡ unloaded)))))) (id⊢ 𝓤 _) $
    await ! tt $ pick ! (λ r. split ! $ move ! (1 ∷ []) $ pick ! (λ ws. split ! $ drop ! $ heard ! _ (λ same. split ! $ drop ! $
    rewrite ! 0 (λ (k : K.Denot). ‵ (K.own_val k (v ∷ []))) same refl $
    peeks ! K (Is K) (shows 𝓛 K) unloaded (v ∷ []) (λ is_v.
    let tv : T (has_ty τ v) × WT v = ((laws.lawful 𝓛).typed unloaded (v ∷ []) is_v).0 in
    lands_as ! refl refl tv $
    assigns ! (of_opd ! (get ! refl)) (through ! refl (stop !)) (init ! 1 refl tv) $
    sets ! (of_opd ! (unit_lit !)) refl (tt, tt) $
    returns ! (look_at ! 0 refl) $ free_all ! refl $
    move ! (1 ∷ 0 ∷ []) $ use2 𝓛 (‵ (part_at K full_share unloaded b o)) (part_in 𝓛 K refl full_share unloaded b o v) $
    rewrite ! 0 (λ (s : Ptr). ‵ (lies_at K full_share s unloaded)) (sym eq) refl $ keep ! (0 ∷ []) $ out b o))))))) in
    subst (λ (ws : List Val). Goes ws z.0.4.1.0) (sym is_g) (subst (Goes (g ∷ [])) (sym at) walk))
