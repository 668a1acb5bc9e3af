use Rattle.pathindex_c.proofs.Steps.{ℕ, [], ◌∷◌, refl, MutBor, heard, fact, proved, full_share, id⊢, ftrue, flft, named, vint, tables, ‵, raw, prop, ◌⊛◌, some, later, ◌$◌, ◌∵◌, !, qed, done, move, keep, drop, use1, use2, use3, split, join, fsplit, pick, await, regoal, suffices, group, enter, of_opd, addr, stop, no_more, and_then, first, blocks, exec, returns, alloc_all, pass_all, free_all, look_at, get, through, sets, lands_as, env, yes, uint_Makes, uint_vals, uint_Tells, Ptr, RawPtr, block_ptr, lies_at, in_a_block, rawptr_vals, rawptr_Tells, MutRef, plain, nothing, owned, peeks, shows, calls_at, lasts, triple_of, on_entry, Stays, walk_of, stay_dropped, Goes-dropped, ends_at, framed, at_ret}
use mir.Val.{vptr}
use types.ByLocal.{sets_last}
use Rattle.std.proofs.Common.{w32, w64, ◌++◌}
use prog.Wp.{WpFn}
use base.Fml.{fex, flent}
use types.Kit.{fpack}
use types.Tokens.{lft_new, lft_end}
use types.SemTy.{Body}
use denote.Builtin.{u32, u64}
use denote.Laws.{Is}
use denote.Plain.{uint_Lawful}
use denote.Memory.{mem, part_at}
use denote.Lend.{lends_ref, ref_back}
use Rattle.pathindex_calls.specs.contracts.held.Held.{the_row as R}
use Rattle.pathindex_calls.specs.Calls.{IsReported}
use Rattle.pathindex_c.specs.contracts.pathindex_c_told as f
use Rattle.pathindex_c.proofs.pathindex_c_told.Statement.{statement}
use Rattle.pathindex_c.proofs.pathindex_c_told.Code as code
use Rattle.pathindex_calls.specs.contracts.held.Held.reported as g
use Rattle.pathindex_calls.proofs.held.Held.reported.Met.{met}

abbrev stayed : Stays f.ended.signature.params f.ended.kept
stayed = (stay_dropped _ yes, (stay_dropped _ yes, tt))

pub pathindex_c_told_spec : {M : Type 1} → statement M
pathindex_c_told_spec 𝓤 𝓛 𝓜 𝓡 wired =
    let c = f.clauses 𝓛 𝓜.mem 𝓡.returns in let W = walk_of 𝓛 f.ended stayed c in let 𝓣 = tables 𝓤 𝓛.H 𝓜 𝓡 𝓡.env in
    let number = Goes-dropped 𝓛 0 (plain (λ _. u32)) yes (λ κs x w. refl) in
    proved 𝓛 f.ended stayed c 𝓜 𝓡 (Goes-dropped 𝓛 0 (plain (λ _. RawPtr)) yes (λ κs x w. refl), (number, tt))
    f.Key.name code.function (code.unfolded 𝓤 𝓛.H 𝓜 𝓡 wired)
    (λ κs. (rawptr_vals, (uint_vals w32, tt))) (λ κs. (rawptr_Tells, (uint_Tells w32, tt))) (λ κs qs bounds a v are.
    let x = a.1.0 in
    let y : Ptr → W.Ghost = λ p. ((κs, qs, bounds, (p, (x, tt)), (rawptr_vals p, (uint_vals w32 x, tt))), v) in
    qed 𝓛 (raw (on_entry 𝓛 f.signature κs qs a (y a.0).0.4) ∷ ‵ (lies_at R full_share a.0 v) ∷ []) ∵ drop ! $
    in_a_block ! a.0 (λ p. lies_at R full_share p v) (id⊢ 𝓤 _) (λ b o e.
    regoal ! (λ p. prop (WpFn 𝓤 𝓛.H 𝓣.C 𝓣.Λ code.function (rawptr_vals p ++ (vint w32 x ∷ [])) (W.post (y p)))) e refl $
    enter ! _ _ _ _ _ $ alloc_all ! (λ l. pass_all ! refl ((tt, tt), ((tt, record { fits = are.1.0.1 }), tt)) $
    -- [the session; the locals]
    first ! $ blocks ! $ sets ! (of_opd ! (get ! refl)) refl (tt, tt) $ sets_last ! (addr ! (through ! refl (stop !))) refl (tt, tt) $
    exec ! 𝓣.C 𝓣.Λ (env code.Mir.locals l) code.Mir.t-2 (at_ret _ (W.post (y (block_ptr b o)))) $
    sets ! (of_opd ! (get ! refl)) refl (tt, tt) $ sets ! (addr ! (through ! refl (stop !))) refl (tt, tt) $
    lft_new ! tt (λ α. move ! (1 ∷ []) $
    use1 𝓛 (later (some (λ (δ : ℕ). ‵ ((MutRef (named 0) (α ∷ []) R).own_val (record { ref_ptr = (b, o); ghost_name = δ; now = v }) (vptr b o ∷ [])) ⊛ ‵ (flent (α ∷ []) (Body (mem R) b o δ)))))
    (lends_ref 𝓛 R (named 0) (α ∷ []) v b o) $ await ! tt $ pick ! (λ δ. split ! $
    -- [the loan; what the lender keeps; the token of α; the locals]
    let G = triple_of 𝓛 g.signature (g.spec 𝓛 𝓜.mem 𝓡.returns) in
    let lent : MutBor R.Denot = record { ref_ptr = (b, o); ghost_name = δ; now = v } in
    let z : G.Ghost = (((α ∷ [], tt), (full_share, tt), tt, (lent, (x, tt)), (vptr b o ∷ [], (uint_vals w32 x, tt))), tt) in
    nothing ! $ owned ! u32 _ (uint_Makes 𝓛 w32) x _ (refl, are.1.0.1) $ join ! $ move ! (1 ∷ 0 ∷ []) $ join ! $
    nothing ! $ move ! (3 ∷ 0 ∷ []) $ join ! $ join ! $ nothing ! $ move ! (1 ∷ 0 ∷ []) $ use2 𝓛 (raw (G.pre z)) (id⊢ 𝓤 _) $
    calls_at ! (framed 𝓤 𝓛.H 𝓜 (tables 𝓤 𝓛.H 𝓜 𝓡 𝓡.env)) G (met 𝓤 𝓛 𝓜 𝓡 (code.calls-pathindex_calls::held::Held::reported 𝓡.env wired)) z
    (and_then ! (get ! refl) (and_then ! (get ! refl) (no_more !))) (λ w.
    use1 𝓛 (later (some (λ (r : ℕ). ((‵ (flft (α ∷ []) full_share) ⊛ ‵ ftrue) ⊛ ‵ (u64.own_val r (w ∷ []))) ⊛
    some (λ (ws : R.Denot × (Unit {0} × Unit {0})). ‵ (lasts g.ended z.0.0 z.0.3 ws) ⊛ raw (fact 𝓤 (IsReported x v ws.0 r)))))) (id⊢ 𝓤 _) $
    await ! tt $ pick ! (λ r. split ! $ split ! $ split ! $ lft_end ! tt $ move ! (2 ∷ []) $
    peeks ! u64 (Is u64) (shows 𝓛 u64) r (w ∷ []) (λ is. lands_as ! refl refl ((uint_Lawful 𝓛 w64).typed r _ is).0 $
    move ! (3 ∷ []) $ pick ! (λ ws. split ! $ move ! (1 ∷ []) $ heard ! _ (λ reported. fsplit ! $ fsplit ! $
    -- [the loan's last value; its borrow; nothing; the result; α is over; nothing; what the lender keeps; the locals]
    move ! (4 ∷ 6 ∷ 0 ∷ []) $ use3 𝓛 (later (‵ (part_at R full_share ws.0 b o))) (ref_back 𝓛 R (α ∷ []) δ ws.0 b o) $ await ! tt $
    returns ! (look_at ! 0 refl) $ free_all ! refl $ keep ! (0 ∷ 3 ∷ []) $
    suffices ! _ (ends_at 𝓛 f.ended stayed c (y (block_ptr b o)) w r (tt, (tt, tt)) (tt, (tt, tt))) $
    fpack ! (IsReported x v ws.0 r) (λ _. lies_at R full_share (block_ptr b o) ws.0) reported $
    fpack ! R.Denot (λ u. fex (IsReported x v u r) (λ _. lies_at R full_share (block_ptr b o) u)) ws.0 $ move ! (1 ∷ []) $
    nothing ! $ nothing ! $ join ! $ nothing ! $ join ! $ nothing ! $ group ! 3 $ done !))))))))))
