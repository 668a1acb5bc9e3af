use Rattle.pathindex_c.proofs.Steps.{[], ◌∷◌, refl, heard, fact, drop, proved, full_share, id⊢, ftrue, flft, named, tables, ‵, raw, prop, ◌⊛◌, some, later, ◌$◌, ◌∵◌, !, qed, done, move, keep, use1, use2, split, join, fsplit, pick, await, regoal, suffices, group, enter, of_opd, stop, no_more, and_then, first, blocks, exec, returns, alloc_all, pass_all, free_all, look_at, get, through, sets, lands_as, env, yes, Ptr, RawPtr, block_ptr, lies_at, in_a_block, rawptr_vals, rawptr_Tells, plain, nothing, peeks, shows, calls_at, lasts, triple_of, Stays, walk_of, stay_dropped, Goes-dropped, ends_at, framed, at_ret}
use Rattle.std.proofs.Common.{◌++◌}
use prog.Wp.{WpFn}
use base.Fml.{fex}
use types.Kit.{fpack}
use denote.RattleType.{owns}
use denote.Signature.{shr_ref_to}
use denote.Ref.{ShrRef, shr_vals, shr_Tells}
use denote.RawPtr.{room_at}
use borrow.Table.OneValue.{part_in}
use Rattle.std_heap.specs.contracts.Global.{the_row as A}
use Rattle.pathindex_calls.proofs.held.Held.TheLaws.{the_row_laws}
use types.Run.{init, assigns_last, unit_lit}
use types.Kit.{feq_i}
use mir.Val.{vunit}
use denote.Laws.{Is}
use denote.Memory.{part_at}
use Rattle.pathindex_calls.specs.contracts.held.Held.{the_row as R}
use Rattle.pathindex_calls.specs.Calls.{IsEmpty}
use Rattle.pathindex_c.specs.contracts.pathindex_c_new as f
use Rattle.pathindex_c.proofs.pathindex_c_new.Statement.{statement}
use Rattle.pathindex_c.proofs.pathindex_c_new.Code as code
use Rattle.pathindex_calls.specs.contracts.held.Held.new as g
use Rattle.pathindex_calls.proofs.held.Held.new.Met.{met}

abbrev stayed : Stays f.ended.signature.params f.ended.kept
stayed = (stay_dropped _ yes, (stay_dropped _ yes, tt))

pub pathindex_c_new_spec : {M : Type 1} → statement M
pathindex_c_new_spec 𝓤 𝓛 𝓜 𝓡 wired =
    let c = f.clauses 𝓛 𝓜.mem 𝓡.returns in let W = walk_of 𝓛 f.ended stayed c in let 𝓣 = tables 𝓤 𝓛.H 𝓜 𝓡 𝓡.env in
    proved 𝓛 f.ended stayed c 𝓜 𝓡
    (Goes-dropped 𝓛 1 (shr_ref_to (0 ∷ []) tt (plain (λ _. A))) yes (λ κs x w. refl), (Goes-dropped 𝓛 1 (plain (λ _. RawPtr)) yes (λ κs x w. refl), tt))
    f.Key.name code.function (code.unfolded 𝓤 𝓛.H 𝓜 𝓡 wired)
    (λ κs. (shr_vals, (rawptr_vals, tt))) (λ κs. (shr_Tells (named 0) κs.0 A, (rawptr_Tells, tt))) (λ κs qs bounds a v are.
    let κ = κs.0 in let q = qs.0 in let alloc = a.0 in
    let y : Ptr → W.Ghost = λ p. ((κs, qs, bounds, (alloc, (p, tt)), (shr_vals alloc, (rawptr_vals p, tt))), v) in
    qed 𝓛 (((‵ (flft κ q) ⊛ ‵ ftrue) ⊛ ‵ (owns (ShrRef (named 0) κ A ∷ RawPtr ∷ []) (y a.1.0).0.3 (y a.1.0).0.4)) ∷ ‵ (room_at R a.1.0) ∷ []) ∵
    split ! $ move ! (1 ∷ []) $ fsplit ! $ keep ! (3 ∷ 0 ∷ 2 ∷ []) $
    in_a_block ! a.1.0 (λ p. room_at R p) (id⊢ 𝓤 _) (λ b o e.
    regoal ! (λ p. prop (WpFn 𝓤 𝓛.H 𝓣.C 𝓣.Λ code.function (shr_vals alloc ++ rawptr_vals p) (W.post (y p)))) e refl $
    enter ! _ _ _ _ _ $ alloc_all ! (λ l. pass_all ! refl ((tt, tt), ((tt, tt), tt)) $
    -- [the place; the allocator; the token of κ and nothing; the locals]
    let G = triple_of 𝓛 g.signature (g.spec 𝓛 𝓜.mem 𝓡.returns) in
    let z : G.Ghost = ((κs, qs, tt, (alloc, tt), (shr_vals alloc, tt)), tt) in
    move ! (1 ∷ []) $ nothing ! $ move ! (1 ∷ 0 ∷ []) $ join ! $ move ! (2 ∷ 0 ∷ []) $ join ! $ nothing ! $ move ! (1 ∷ 0 ∷ []) $ use2 𝓛 (raw (G.pre z)) (id⊢ 𝓤 _) $
    calls_at ! (framed 𝓤 𝓛.H 𝓜 (tables 𝓤 𝓛.H 𝓜 𝓡 𝓡.env)) G (met 𝓤 𝓛 𝓜 𝓡 (code.calls-pathindex_calls::held::Held::new 𝓡.env wired)) z (and_then ! (get ! refl) (no_more !)) (λ w.
    use1 𝓛 (later (some (λ (r : R.Denot). ((‵ (flft κ q) ⊛ ‵ ftrue) ⊛ ‵ (R.own_val r (w ∷ []))) ⊛ some (λ (ws : Unit {0} × Unit {0}). ‵ (lasts g.ended z.0.0 z.0.3 ws) ⊛ raw (fact 𝓤 (IsEmpty r)))))) (id⊢ 𝓤 _) $
    await ! tt $ pick ! (λ r. split ! $ split ! $ move ! (1 ∷ []) $
    -- [what is held; the token of κ and nothing; the rest; the place; the locals]
    move ! (2 ∷ []) $ pick ! (λ ws. split ! $ move ! (1 ∷ []) $ heard ! _ (λ empty. drop ! $
    peeks ! R (Is R) (shows 𝓛 R) r (w ∷ []) (λ is. let t = ((the_row_laws.lawful 𝓛).typed r (w ∷ []) is).0 in lands_as ! refl refl t $
    first ! $ blocks ! $ sets ! (of_opd ! (get ! refl)) refl (tt, tt) $ sets ! (of_opd ! (get ! refl)) refl t $
    assigns_last ! (of_opd ! (get ! refl)) (through ! refl (stop !)) (init ! 2 refl t) $
    exec ! 𝓣.C 𝓣.Λ (env code.Mir.locals l) code.Mir.t-3 (at_ret _ (W.post (y (block_ptr b o)))) $
    sets ! (of_opd ! (unit_lit !)) refl (tt, tt) $ returns ! (look_at ! 0 refl) $ free_all ! refl $
    keep ! (2 ∷ 0 ∷ 1 ∷ []) $ use2 𝓛 (‵ (part_at R full_share r b o)) (part_in 𝓛 R refl full_share r b o w) $
    suffices ! _ (ends_at 𝓛 f.ended stayed c (y (block_ptr b o)) vunit tt (tt, (tt, tt)) (tt, (tt, tt))) $
    fpack ! (IsEmpty r) (λ _. lies_at R full_share (block_ptr b o) r) empty $
    fpack ! R.Denot (λ u. fex (IsEmpty u) (λ _. lies_at R full_share (block_ptr b o) u)) r $ feq_i ! _ (vunit ∷ []) _ refl $
    -- [the result; what lies there; the token of κ and nothing]
    nothing ! $ nothing ! $ join ! $ nothing ! $ join ! $ move ! (3 ∷ []) $ group ! 3 $ done !))))))))
