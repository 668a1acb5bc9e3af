use Rattle.pathindex_c.proofs.Steps.{ℕ, [], ◌∷◌, refl, MutBor, heard, fact, proved, full_share, id⊢, ftrue, flft, named, vint, tables, ‵, raw, prop, ◌⊛◌, some, later, ◌$◌, ◌∵◌, !, qed, done, move, keep, drop, use1, use2, use3, split, join, fsplit, pick, await, regoal, suffices, group, enter, of_opd, addr, stop, no_more, and_then, first, blocks, exec, returns, alloc_all, pass_all, free_all, look_at, get, through, sets, lands_as, env, yes, uint_Makes, uint_vals, uint_Tells, Ptr, RawPtr, block_ptr, lies_at, in_a_block, rawptr_vals, rawptr_Tells, MutRef, plain, nothing, owned, peeks, shows, calls_at, lasts, triple_of, Stays, walk_of, stay_dropped, Goes-dropped, ends_at, framed, at_ret, u8}
use mir.Val.{vptr}
use types.ByLocal.{sets_last}
use Rattle.std.proofs.Common.{w32, ◌++◌}
use prog.Wp.{WpFn}
use base.Fml.{fex, flent}
use types.Kit.{fpack}
use types.Tokens.{lft_new, lft_end}
use types.SemTy.{Body}
use denote.Builtin.{u32}
use denote.RattleType.{owns}
use denote.Signature.{shr_slice_of}
use denote.Slice.{ShrSlice, shr_slice_vals, shr_slice_Tells}
use denote.Laws.{Is}
use denote.Plain.{uint_Lawful}
use denote.Memory.{mem, part_at}
use denote.Lend.{lends_ref, ref_back}
use Rattle.pathindex_calls.specs.contracts.held.Held.{the_row as R}
use Rattle.pathindex_calls.specs.Calls.{IsChecked}
use Rattle.pathindex_c.specs.contracts.pathindex_c_check as f
use Rattle.pathindex_c.proofs.pathindex_c_check.Statement.{statement}
use Rattle.pathindex_c.proofs.pathindex_c_check.Code as code
use Rattle.pathindex_calls.specs.contracts.held.Held.check as g
use Rattle.pathindex_calls.proofs.held.Held.check.Met.{met}

abbrev stayed : Stays f.ended.signature.params f.ended.kept
stayed = (stay_dropped _ yes, (stay_dropped _ yes, (stay_dropped _ yes, (stay_dropped _ yes, tt))))

pub pathindex_c_check_spec : {M : Type 1} → statement M
pathindex_c_check_spec 𝓤 𝓛 𝓜 𝓡 wired =
    let c = f.clauses 𝓛 𝓜.mem 𝓡.returns in let W = walk_of 𝓛 f.ended stayed c in let 𝓣 = tables 𝓤 𝓛.H 𝓜 𝓡 𝓡.env in
    proved 𝓛 f.ended stayed c 𝓜 𝓡 (
      Goes-dropped 𝓛 2 (plain (λ _. RawPtr)) yes (λ κs x w. refl),
      (
        Goes-dropped 𝓛 2 (plain (λ _. u32)) yes (λ κs x w. refl),
        (
          Goes-dropped 𝓛 2 (shr_slice_of (0 ∷ []) tt (plain (λ _. u32))) yes (λ κs x w. refl),
          (Goes-dropped 𝓛 2 (shr_slice_of (1 ∷ []) tt (plain (λ _. u8))) yes (λ κs x w. refl), tt),
        ),
      ),
    )
    f.Key.name code.function (code.unfolded 𝓤 𝓛.H 𝓜 𝓡 wired)
    (λ κs. (rawptr_vals, (uint_vals w32, (shr_slice_vals, (shr_slice_vals, tt)))))
    (λ κs. (rawptr_Tells, (uint_Tells w32, (shr_slice_Tells (named 0) κs.0 u32, (shr_slice_Tells (named 1) κs.1.0 u8, tt))))) (λ κs qs bounds a v are.
    let κ = κs.0 in let q = qs.0 in let κ' = κs.1.0 in let q' = qs.1.0 in let x = a.1.0 in let walk = a.1.1.0 in let text = a.1.1.1.0 in
    let y : Ptr → W.Ghost = λ p. ((κs, qs, bounds, (p, (x, (walk, (text, tt)))), (rawptr_vals p, (uint_vals w32 x, (shr_slice_vals walk, (shr_slice_vals text, tt))))), v) in
    qed 𝓛 (((‵ (flft κ q) ⊛ (‵ (flft κ' q') ⊛ ‵ ftrue)) ⊛ ‵ (owns (RawPtr ∷ u32 ∷ ShrSlice (named 0) κ u32 ∷ ShrSlice (named 1) κ' u8 ∷ []) (y a.0).0.3 (y a.0).0.4)) ∷ ‵ (lies_at R full_share a.0 v) ∷ []) ∵
    split ! $ move ! (1 ∷ []) $ fsplit ! $ drop ! $ fsplit ! $ drop ! $ fsplit ! $ move ! (1 ∷ []) $ fsplit ! $
    -- [the text; nothing; the walk; the tokens; the session]
    move ! (3 ∷ []) $ split ! $ move ! (1 ∷ []) $ split ! $ keep ! (6 ∷ 5 ∷ 3 ∷ 2 ∷ 0 ∷ []) $
    in_a_block ! a.0 (λ p. lies_at R full_share p v) (id⊢ 𝓤 _) (λ b o e.
    regoal ! (λ p. prop (WpFn 𝓤 𝓛.H 𝓣.C 𝓣.Λ code.function (rawptr_vals p ++ (vint w32 x ∷ (shr_slice_vals walk ++ shr_slice_vals text))) (W.post (y p)))) e refl $
    enter ! _ _ _ _ _ $ alloc_all ! (λ l. pass_all ! refl (
      (tt, tt),
      (
        (tt, record { fits = are.1.0.1 }),
        ((tt, (tt, (record { fits = are.1.1.0.0.1.0 }, tt))), ((tt, (tt, (record { fits = are.1.1.1.0.0.1.0 }, tt))), tt)),
      ),
    ) $
    -- [the session; the walk; the text; the tokens of κ and κ'; the locals]
    first ! $ blocks ! $ sets ! (of_opd ! (get ! refl)) refl (tt, tt) $ sets_last ! (addr ! (through ! refl (stop !))) refl (tt, tt) $
    exec ! 𝓣.C 𝓣.Λ (env code.Mir.locals l) code.Mir.t-2 (at_ret _ (W.post (y (block_ptr b o)))) $
    sets ! (of_opd ! (get ! refl)) refl (tt, tt) $ sets ! (addr ! (through ! refl (stop !))) refl (tt, tt) $
    lft_new ! tt (λ α. move ! (1 ∷ []) $
    use1 𝓛 (later (some (λ (δ : ℕ). ‵ ((MutRef (named 0) (α ∷ []) R).own_val (record { ref_ptr = (b, o); ghost_name = δ; now = v }) (vptr b o ∷ [])) ⊛ ‵ (flent (α ∷ []) (Body (mem R) b o δ)))))
    (lends_ref 𝓛 R (named 0) (α ∷ []) v b o) $ await ! tt $ pick ! (λ δ. split ! $
    -- [the loan; what the lender keeps; the token of α; the walk; the text; the tokens of κ and κ'; the locals]
    let G = triple_of 𝓛 g.signature (g.spec 𝓛 𝓜.mem 𝓡.returns) in
    let lent : MutBor R.Denot = record { ref_ptr = (b, o); ghost_name = δ; now = v } in
    let z : G.Ghost = (((α ∷ [], (κ, (κ', tt))), (full_share, (q, (q', tt))), tt, (lent, (x, (walk, (text, tt)))), (vptr b o ∷ [], (uint_vals w32 x, (shr_slice_vals walk, (shr_slice_vals text, tt))))), tt) in
    nothing ! $ move ! (5 ∷ 0 ∷ []) $ join ! $ move ! (4 ∷ 0 ∷ []) $ join ! $
    owned ! u32 _ (uint_Makes 𝓛 w32) x _ (refl, are.1.0.1) $ join ! $ move ! (1 ∷ 0 ∷ []) $ join ! $
    -- [the arguments; what the lender keeps; the token of α; the tokens of κ and κ'; the locals]
    nothing ! $ move ! (5 ∷ 0 ∷ []) $ join ! $ move ! (4 ∷ 0 ∷ []) $ join ! $ move ! (3 ∷ 0 ∷ []) $ join ! $ join ! $ nothing ! $ move ! (1 ∷ 0 ∷ []) $ use2 𝓛 (raw (G.pre z)) (id⊢ 𝓤 _) $
    calls_at ! (framed 𝓤 𝓛.H 𝓜 (tables 𝓤 𝓛.H 𝓜 𝓡 𝓡.env)) G (met 𝓤 𝓛 𝓜 𝓡 (code.calls-pathindex_calls::held::Held::check 𝓡.env wired)) z
    (and_then ! (get ! refl) (and_then ! (get ! refl) (and_then ! (get ! refl) (and_then ! (get ! refl) (no_more !))))) (λ w.
    use1 𝓛 (later (some (λ (r : ℕ). ((‵ (flft (α ∷ []) full_share) ⊛ (‵ (flft κ q) ⊛ (‵ (flft κ' q') ⊛ ‵ ftrue))) ⊛ ‵ (u32.own_val r (w ∷ []))) ⊛
    some (λ (ws : R.Denot × (Unit {0} × (Unit {0} × (Unit {0} × Unit {0})))). ‵ (lasts g.ended z.0.0 z.0.3 ws) ⊛ raw (fact 𝓤 (IsChecked x walk.now text.now v ws.0 r)))))) (id⊢ 𝓤 _) $
    await ! tt $ pick ! (λ r. split ! $ split ! $ split ! $ lft_end ! tt $ move ! (2 ∷ []) $
    -- [the result; α is over; the token of κ; the rest; what the lender keeps; the locals]
    peeks ! u32 (Is u32) (shows 𝓛 u32) r (w ∷ []) (λ is. lands_as ! refl refl ((uint_Lawful 𝓛 w32).typed r _ is).0 $
    move ! (3 ∷ []) $ pick ! (λ ws. split ! $ move ! (1 ∷ []) $ heard ! _ (λ checked. fsplit ! $ fsplit ! $
    -- [the loan's last value; its borrow; nothing; the result; α is over; the token of κ; what the lender keeps; the locals]
    move ! (4 ∷ 6 ∷ 0 ∷ []) $ use3 𝓛 (later (‵ (part_at R full_share ws.0 b o))) (ref_back 𝓛 R (α ∷ []) δ ws.0 b o) $ await ! tt $
    -- [the session; its borrow; nothing; the result; the token of κ and nothing; the locals]
    returns ! (look_at ! 0 refl) $ free_all ! refl $ keep ! (0 ∷ 3 ∷ 4 ∷ []) $
    suffices ! _ (ends_at 𝓛 f.ended stayed c (y (block_ptr b o)) w r (tt, (tt, (tt, (tt, tt)))) (tt, (tt, (tt, (tt, tt))))) $
    fpack ! (IsChecked x walk.now text.now v ws.0 r) (λ _. lies_at R full_share (block_ptr b o) ws.0) checked $
    fpack ! R.Denot (λ u. fex (IsChecked x walk.now text.now v u r) (λ _. lies_at R full_share (block_ptr b o) u)) ws.0 $ move ! (1 ∷ []) $
    -- [the result; the session; the token of κ and nothing]
    nothing ! $ nothing ! $ join ! $ nothing ! $ join ! $ nothing ! $ join ! $ nothing ! $ join ! $ move ! (3 ∷ []) $ group ! 3 $ done !))))))))))
