-- The borrowed value is queried, and stays borrowed.
use Rattle.krl_c.proofs.Common.{ !, [], ‵, ◌$◌, ◌++◌, ◌∵◌, ◌∷◌, ◌≡◌, ◌⊛◌, addr, alloc_all, and_then}
use Rattle.krl_c.proofs.Common.{AnswersBlob, AnswersStored, at_ret, await, block_ptr, blocks}
use Rattle.krl_c.proofs.Common.{calls_at, done, ends_at, ent, enter, env, exec, fact, feq_i, first}
use Rattle.krl_c.proofs.Common.{fjoin, flft, frame, framed, free_all, fsplit, fst∗, ftrue, get}
use Rattle.krl_c.proofs.Common.{Goes-blank, Goes-dropped, group, has_ty, heard, i32, id⊢}
use Rattle.krl_c.proofs.Common.{in_a_block, Is, join, keep, lands_as, Lasts, lasts, later, List}
use Rattle.krl_c.proofs.Common.{lone, Lone-is, look_at, move, named, never, no_more, nothing}
use Rattle.krl_c.proofs.Common.{of_opd, only, pass_all, peeks, pick, plain, prop, proved_at, qed}
use Rattle.krl_c.proofs.Common.{raw, RawPtr, rawptr_Tells, rawptr_vals, refl, regoal, returns, says}
use Rattle.krl_c.proofs.Common.{sets, sets_last, shared_of, shows, SliceRefOf, some, split}
use Rattle.krl_c.proofs.Common.{stay_dropped, Stays, stop, subst, suffices, sym, T, tables, through}
use Rattle.krl_c.proofs.Common.{triple_of, Typed, u8, use1, Val, vptr, w32, walk_of, WpFn, WT, yes}
use Rattle.krl_c.proofs.Common.{ℕ, ℤ}
use types.Logic.{sem}
use types.Kit.{drop}
use denote.RattleType.{owns}
use denote.SharingLaws.{contraction}
use denote.Opens.{hide}
use denote.Slice.{ShrSlice, shr_slice_vals, shr_slice_Tells}
use denote.Signed.{sint_Lawful}
use denote.Struct.Lending.{lent_at, lent_at_shr_laws}
use Rattle.krl_c.specs.Loan.{is_lent}
use Rattle.krl_c.proofs.krl_ask.Statement.{statement}
use Rattle.krl_c.proofs.stored.ask.Met.{met}
use Rattle.std.specs.contracts.alloc.Global.{the_row as Z}
use Rattle.std.proofs.alloc.Global.TheLaws.{the_row_laws as heap_laws}
use Rattle.krl_c.specs.contracts.krl_ask as f
use Rattle.krl_c.proofs.krl_ask.Code as code
use Rattle.krl_c.specs.contracts.stored.ask as e
use Rattle.krl_c.specs.contracts.stored.Stored.{the_row as K}
use Rattle.krl_c.proofs.stored.Stored.TheLaws.{the_row_laws as laws}

abbrev stayed : Stays f.ended.signature.params f.ended.kept
stayed = (stay_dropped (plain (λ _. Z)) yes, (stay_dropped (plain (λ _. RawPtr)) yes, (stay_dropped _ yes, tt)))

pub krl_ask_spec : {M : Type 1} → statement M
krl_ask_spec 𝓤 𝓛 𝓜 𝓡 wired =
    let c = f.clauses 𝓛 𝓜.mem 𝓡.returns in let W = walk_of 𝓛 f.ended stayed c in let 𝓣 = tables 𝓤 𝓛.H 𝓜 𝓡 𝓡.env in
    proved_at 𝓛 f.ended stayed c 𝓜 𝓡 (Goes-blank 𝓛 1 (plain (λ _. Z)) yes (λ κs x w. tt), (Goes-dropped 𝓛 1 (plain (λ _. RawPtr)) yes (λ κs x w. refl), (Goes-dropped 𝓛 1 (SliceRefOf (0 ∷ []) tt (plain (λ _. u8)) (λ _. tt)) yes (λ κs x w. refl), tt)))
    f.Key.name code.function (code.unfolded 𝓤 𝓛.H 𝓜 𝓡 wired) (λ z are.
    let κ = z.0.0.0 in let q = z.0.1.0 in let a = z.0.3 in let alloc = a.0 in let p = a.1.0 in let blob = a.1.1.0 in let loan = z.1 in
    let At : List Val → List Val → List Val → W.Ghost = λ us vs ws. ((z.0.0, z.0.1, z.0.2, a, (us, (vs, (ws, tt)))), loan) in
    let Goes : List Val → List Val → List Val → Type 1 = λ us vs ws. ent 𝓤 (W.pre (At us vs ws)) (WpFn 𝓤 𝓛.H 𝓣.C 𝓣.Λ code.function (us ++ (vs ++ (ws ++ []))) (W.post (At us vs ws))) in
    let g : Val = only z.0.4.0 in
    let is_g : z.0.4.0 ≡ g ∷ [] = Lone-is z.0.4.0 (heap_laws.single alloc z.0.4.0 are.0) in
    let tg : T (has_ty (lone Z.mir) g) × WT g = (subst (Typed (lone Z.mir ∷ [])) is_g ((heap_laws.lawful 𝓛).typed alloc z.0.4.0 are.0)).0 in
    let at : z.0.4.1.0 ≡ rawptr_vals p = rawptr_Tells p z.0.4.1.0 are.1.0 in
    let slice : z.0.4.1.1.0 ≡ shr_slice_vals blob = shr_slice_Tells (named 0) κ u8 blob z.0.4.1.1.0 are.1.1.0 in
    let G = triple_of 𝓛 e.signature (e.spec 𝓛 𝓜.mem 𝓡.returns) in
    let Told : ℤ → Type 0 = AnswersStored (λ entries. AnswersBlob entries blob.now) loan.stored in
    let x : ℕ → ℕ → G.Ghost = λ b o. (((loan.life, (κ, tt)), (loan.share, (q, tt)), tt, (alloc, (record { ref_ptr = (b, o); now = loan.stored }, (blob, tt))), (g ∷ [], (vptr b o ∷ [], (shr_slice_vals blob, tt)))), tt) in
    let walk : Goes (g ∷ []) (rawptr_vals p) (shr_slice_vals blob) =
    qed 𝓛 (((‵ (flft κ q) ⊛ ‵ ftrue) ⊛ ‵ (owns (Z ∷ RawPtr ∷ ShrSlice (named 0) κ u8 ∷ []) (alloc, (p, (blob, tt))) (g ∷ [], (rawptr_vals p, (shr_slice_vals blob, tt))))) ∷ ‵ (is_lent p loan) ∷ []) ∵
    split ! $ split ! $ move ! (2 ∷ []) $ fsplit ! $ move ! (1 ∷ []) $ fsplit ! $ drop ! $ fsplit ! $ move ! (5 ∷ []) $ fsplit ! $ move ! (1 ∷ []) $
    use1 𝓛 (‵ (lent_at K p loan.stored loan.life) ⊛ ‵ (lent_at K p loan.stored loan.life)) (contraction 𝓛 (lent_at K p loan.stored) (lent_at_shr_laws K laws.shr_laws p loan.stored) loan.life) $ split ! $
    in_a_block ! p (λ s. lent_at K s loan.stored loan.life) (fst∗ 𝓤 (never 𝓤) (sem 𝓛 (shared_of K loan.stored 0 0 loan.life))) (λ b o eq. fsplit ! $ drop ! $ hide ! $
    regoal ! (λ s. prop (WpFn 𝓤 𝓛.H 𝓣.C 𝓣.Λ code.function ((g ∷ []) ++ (rawptr_vals s ++ (shr_slice_vals blob ++ []))) (W.post (At (g ∷ []) (rawptr_vals s) (shr_slice_vals blob))))) eq refl $
    enter ! _ _ _ _ _ $ alloc_all ! (λ l. pass_all ! refl (tg, ((tt, tt), ((tt, (tt, (record { fits = are.1.1.0.0.1.0 }, tt))), tt))) $
    -- [the borrowed value; the same again; the token; the blob; nothing; the allocator; the blob's
    -- token; nothing; the locals]
    sets ! (of_opd ! (get ! refl)) refl tg $
    first ! $ blocks ! $
    sets ! (of_opd ! (get ! refl)) refl (tt, tt) $
    sets ! (of_opd ! (get ! refl)) refl (tt, tt) $
    sets_last ! (addr ! (through ! refl (stop !))) refl (tt, tt) $
    exec ! 𝓣.C 𝓣.Λ (env code.Mir.locals l) code.Mir.t-3 (at_ret _ (W.post (At (g ∷ []) (rawptr_vals (block_ptr b o)) (shr_slice_vals blob)))) $
    sets ! (of_opd ! (get ! refl)) refl (tt, tt) $
    sets ! (of_opd ! (get ! refl)) refl (tt, (tt, (record { fits = are.1.1.0.0.1.0 }, tt))) $
    nothing ! $ move ! (4 ∷ 0 ∷ []) $ fjoin ! $ feq_i ! (List Val) (vptr b o ∷ []) (vptr b o ∷ []) refl $ move ! (0 ∷ 2 ∷ []) $ fjoin ! $ fjoin ! $ move ! (4 ∷ 0 ∷ []) $ fjoin ! $
    nothing ! $ move ! (5 ∷ 0 ∷ []) $ join ! $ move ! (3 ∷ 0 ∷ []) $ join ! $ join ! $ nothing ! $ move ! (1 ∷ 0 ∷ []) $ join ! $ use1 𝓛 (raw (G.pre (x b o))) (id⊢ 𝓤 _) $
    calls_at ! (framed 𝓤 𝓛.H 𝓜 𝓣) G (met 𝓤 𝓛 𝓜 𝓡 (code.calls-krl_c::stored::ask 𝓡.env wired)) (x b o) (and_then ! (get ! refl) (and_then ! (get ! refl) (and_then ! (get ! refl) (no_more !)))) (λ v.
    use1 𝓛 (later (some (λ (r : ℤ). ((‵ (flft loan.life loan.share) ⊛ (‵ (flft κ q) ⊛ ‵ ftrue)) ⊛ ‵ (i32.own_val r (v ∷ [])))
    ⊛ some (λ (ws : Lasts e.ended (loan.life, (κ, tt)) (x b o).0.3). ‵ (lasts e.ended (loan.life, (κ, tt)) (x b o).0.3 ws) ⊛ raw (fact 𝓤 (Told r)))))) (id⊢ 𝓤 _) $
    await ! tt $ pick ! (λ r. split ! $ move ! (1 ∷ []) $ pick ! (λ ws. split ! $ drop ! $ heard ! _ (λ says_so. split ! $ split ! $ move ! (2 ∷ []) $
    peeks ! i32 (Is i32) (shows 𝓛 i32) r (v ∷ []) (λ is. lands_as ! refl refl ((sint_Lawful 𝓛 w32).typed r _ is).0 $
    returns ! (look_at ! 0 refl) $ free_all ! refl $
    move ! (1 ∷ 3 ∷ []) $ fjoin ! $ keep ! (2 ∷ 1 ∷ 0 ∷ []) $
    suffices ! _ (ends_at 𝓛 f.ended stayed c (At (g ∷ []) (rawptr_vals (block_ptr b o)) (shr_slice_vals blob)) v r (tt, (tt, (tt, tt))) (tt, (tt, (tt, tt)))) $
    nothing ! $ nothing ! $ join ! $ nothing ! $ join ! $ nothing ! $ join ! $ move ! (1 ∷ 0 ∷ []) $ group ! 3 $ frame ! $ says ! says_so $ done !)))))))
    in
    subst (λ us. Goes us z.0.4.1.0 z.0.4.1.1.0) (sym is_g) (subst (λ vs. Goes (g ∷ []) vs z.0.4.1.1.0) (sym at) (subst (λ ws. Goes (g ∷ []) (rawptr_vals p) ws) (sym slice) walk)))
