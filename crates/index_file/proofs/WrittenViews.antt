-- The lines of a view give its ranks.
use Rattle.std.proofs.Common.{◌≡◌, ℕ, zero, suc, ◌+◌, ◌-◌, ◌<◌, ◌≤◌, ◌^◌, List, [], ◌∷◌, ◌++◌, length, take, Option, Some, None, is_some, true, false, Bool, nat_eq, true≢false, refl, sym, ◌∙◌, ap, subst, arith, inl, inr, append-nil, length-append}
use Rattle.std.specs.Prelude.{codes, decimal, nat_le, option_and_then, ◌&&◌, if◌then◌else◌}
use Rattle.std.proofs.Math.Seq.{take-suc, take-length}
use Rattle.std.proofs.lemmas.Bool.{cases_Bool, and_parts, le-leb, leb-true, lt-ltb, eqb-true}
use Rattle.graph_spec.specs.Graphs.{Graph, IsGraph, label_of}
use Rattle.graph_spec.specs.Shapes.{IsNode, shape_of}
use Rattle.graph_spec.specs.Lines.{IsUncut}
use Rattle.index_api.specs.declared.kinds.Via.{Via}
use Rattle.index_api.specs.declared.kinds.Via.TheVariants.{Data, A, One, Fb, B}
use Rattle.index_api.specs.Spelling.{via_word}
use Rattle.index_file.specs.declared.due.Due.TheVariants as due
use Rattle.index_file.specs.SavedFiles.{ranks_at}
use Rattle.index_file.specs.Statements.{view, rank, NamesIndex}
use Rattle.index_file.specs.Readings.{Reading, RankedView, next_reading, next_rank, with_rank, follows, last_via, live_in, is_live_in, can_take_view, view_in}
use Rattle.index_file.specs.WrittenFiles.{rank_of, rank_line, rank_lines, view_text}
use Rattle.index_file.specs.WholeFiles.{blocks_below, saved_view, IsEquivalence}
use Rattle.index_file.proofs.SavedViewLaws.{places_more, places_few}
use Rattle.index_file.proofs.ReadViewLaws.{next_few}
use Rattle.index_file.proofs.WrittenLines.{uncut_both, uncut_above, uncut_decimal, number_written}
use Rattle.index_file.proofs.TakenTexts.{Leads, leads_line, leads_none, leads_one, leads_below, leads_to, leads_text}
use Rattle.index_file.proofs.TestedRanks.{ranks_below, ranks_live, ranks_gone, rank_fits, block_some, block_none}
use Rattle.index_file.proofs.WrittenNodes.{label_at}

-- ---- names of indexes

-- an index that may be named in a file, as it is written
pub record IsName (via : Via) : Type 0 where
  pub names : NamesIndex (via_word via) via
  pub uncut : IsUncut (via_word via)

level_name : (level : ℕ) → level ≤ 8 → IsName (A level)
level_name level h = record {
  names = (decimal level, refl, number_written level (omega (arith, h)));
  uncut = uncut_both (codes "a") (decimal level) (uncut_above (codes "a") refl) (uncut_decimal level (omega (arith, h)));
}

bounded_name : (level : ℕ) → level ≤ 8 → IsName (B level)
bounded_name level h = record {
  names = (decimal level, refl, number_written level (omega (arith, h)));
  uncut = uncut_both (codes "b") (decimal level) (uncut_above (codes "b") refl) (uncut_decimal level (omega (arith, h)));
}

pub named : (k : ℕ) (last : Option Via) (via : Via) → k ≤ 8 → follows k last via ≡ true → IsName via
named k last Data low h = absurd (true≢false (sym h))
named k last One low h = record { names = refl; uncut = uncut_above (codes "one") refl }
named k last Fb low h = record { names = refl; uncut = uncut_above (codes "fb") refl }
named k None (A level) low h = level_name level (let e = eqb-true level 0 h in omega (arith, e))
named k (Some Data) (A level) low h = absurd (true≢false (sym h))
named k (Some (A below)) (A level) low h = level_name level (let l = leb-true level k (and_parts (nat_eq level (below + 1)) (nat_le level k) h).1 in omega (arith, l, low))
named k (Some One) (A level) low h = absurd (true≢false (sym h))
named k (Some Fb) (A level) low h = absurd (true≢false (sym h))
named k (Some (B below)) (A level) low h = absurd (true≢false (sym h))
named k None (B level) low h = bounded_name level (let e = eqb-true level 0 h in omega (arith, e))
named k (Some Data) (B level) low h = absurd (true≢false (sym h))
named k (Some (A below)) (B level) low h = bounded_name level (let e = eqb-true level 0 (and_parts (nat_eq below k) (nat_eq level 0) h).1 in omega (arith, e))
named k (Some One) (B level) low h = bounded_name level (let e = eqb-true level 0 h in omega (arith, e))
named k (Some Fb) (B level) low h = bounded_name level (let e = eqb-true level 0 h in omega (arith, e))
named k (Some (B below)) (B level) low h = bounded_name level (let l = leb-true level k (and_parts (nat_eq level (below + 1)) (nat_le level k) h).1 in omega (arith, l, low))

-- ---- ranks

put_rank : (views : List RankedView) (v : RankedView) (x : ℕ) → nat_le x (next_rank 0 v.ranks) ≡ true
    → with_rank (views ++ v ∷ []) x ≡ Some (views ++ record { via = v.via; ranks = v.ranks ++ x ∷ [] } ∷ [])
put_rank [] v x h = rw h refl
put_rank (w ∷ []) v x h = ap (option_and_then (λ vs. Some (w ∷ vs))) (put_rank [] v x h)
put_rank (w ∷ z ∷ views) v x h = ap (option_and_then (λ vs. Some (w ∷ vs))) (put_rank (z ∷ views) v x h)

live_prefix : (allocated : List (Option (List ℕ))) (n : ℕ) → live_in (take n allocated) ≤ live_in allocated
live_prefix allocated zero = omega arith
live_prefix [] (suc n) = omega arith
live_prefix (None ∷ allocated) (suc n) = live_prefix allocated n
live_prefix (Some t ∷ allocated) (suc n) = (let l = live_prefix allocated n in omega (arith, l))

ranks_put : (allocated : List (Option (List ℕ))) (ranks more : List ℕ) (o : Option (List ℕ)) → length ranks ≡ live_in allocated
    → ranks_at (allocated ++ o ∷ []) (ranks ++ more) ≡ ranks_at allocated ranks ++ ranks_at (o ∷ []) more
ranks_put [] [] more o h = refl
ranks_put [] (x ∷ ranks) more o h = absurd (omega (arith, h))
ranks_put (None ∷ allocated) ranks more o h = ap (λ xs. None ∷ xs) (ranks_put allocated ranks more o h)
ranks_put (Some t ∷ allocated) [] more o h = absurd (omega (arith, h))
ranks_put (Some t ∷ allocated) (x ∷ ranks) more o h = ap (λ xs. Some x ∷ xs) (ranks_put allocated ranks more o (omega (arith, h)))

-- how many views there are to be, how many ranks of the last are due, and what was read before
abbrev pub views_read : ℕ → List (Option (List ℕ)) → List (ℕ × ℕ) → ℕ → ℕ → List RankedView → Reading
views_read k allocated pairs n left views = record { due = due.Ranks left n; k = k; allocated = allocated; pairs = pairs; views = views }

module _ (g : Graph) (w : IsGraph g) (few : length g.allocated ≤ 4294967295) (k : ℕ) (pairs : List (ℕ × ℕ)) (n : ℕ) (done : List RankedView) (via : Via) (r : ℕ → ℕ → Bool)
    (e : IsEquivalence (shape_of g) r) where
  abbrev ranks_to : ℕ → List ℕ
  ranks_to i = ranks_below i (shape_of g) r

  abbrev ranked_to : ℕ → RankedView
  ranked_to i = record { via = via; ranks = ranks_to i }

  abbrev ranks_read : ℕ → Reading
  ranks_read i = views_read k g.allocated pairs n (live_in g.allocated - length (ranks_to i)) (done ++ ranked_to i ∷ [])

  ranks_long : (i : ℕ) → i ≤ length g.allocated → length (ranks_to i) ≡ live_in (take i g.allocated)
  ranks_long zero h = refl
  ranks_long (suc i) h =
      let before = ranks_long i (omega (arith, h)) in
      let more = places_more g.allocated i (omega (arith, h)) in
      elim (cases_Bool (is_live_in g.allocated i)) [
        | inl on ↦
            (let a = ap length (ranks_live i (shape_of g) r on) in
            let b = length-append (ranks_to i) (rank_of (shape_of g) r i ∷ []) in
            let c = more ∙ ap (λ b. if b then suc (live_in (take i g.allocated)) else live_in (take i g.allocated)) on in
            omega (arith, a, b, c, before))
        | inr off ↦
            (let a = ap length (ranks_gone i (shape_of g) r off) in
            let c = more ∙ ap (λ b. if b then suc (live_in (take i g.allocated)) else live_in (take i g.allocated)) off in
            omega (arith, a, c, before))
      ]

  -- there are no more blocks than nodes, and so few enough to be written
  rank_few : (i : ℕ) → i ≤ length g.allocated → IsNode (shape_of g) i → rank_of (shape_of g) r i < 2 ^ 64
  rank_few i h node =
      let fits = rank_fits (shape_of g) r e i node in
      let next = next_few 0 (ranks_to i) in
      let long = ranks_long i h in
      let most = places_few g.allocated i in
      omega (arith, fits, next, long, most, few, h)

  abbrev line_at : ℕ → List ℕ
  line_at i = rank_line (shape_of g) r i

  rank_taken : (left : ℕ) (v : RankedView) (x : ℕ) → nat_le x (next_rank 0 v.ranks) ≡ true
      → next_reading (rank x) (views_read k g.allocated pairs n (suc left) (done ++ v ∷ [])) ≡ Some (views_read k g.allocated pairs n left (done ++ record { via = v.via; ranks = v.ranks ++ x ∷ [] } ∷ []))
  rank_taken left v x h =
      ap (option_and_then (λ vs. Some (views_read k g.allocated pairs n left vs))) (put_rank done v x h)

  rank_lead : (i : ℕ) → i < length g.allocated → Leads (line_at i) (ranks_read i) (ranks_read (suc i))
  rank_lead i h = elim (cases_Bool (is_live_in g.allocated i)) [
    | inl on ↦
        (let x = rank_of (shape_of g) r i in
        let left : ℕ = live_in g.allocated - length (ranks_to (suc i)) in
        let small = rank_few i (omega (arith, h)) on in
        let fits = le-leb x (next_rank 0 (ranks_to i)) (rank_fits (shape_of g) r e i on) in
        let one = ap length (ranks_live i (shape_of g) r on) in
        let put = length-append (ranks_to i) (x ∷ []) in
        let long = ranks_long (suc i) (omega (arith, h)) in
        let most = live_prefix g.allocated (suc i) in
        leads_text (decimal x ++ 10 ∷ []) (line_at i) (ranks_read i) (ranks_read (suc i)) (rw on refl)
        (leads_to (decimal x ++ 10 ∷ []) (views_read k g.allocated pairs n (suc left) (done ++ ranked_to i ∷ [])) (ranks_read i)
        (views_read k g.allocated pairs n left (done ++ record { via = via; ranks = ranks_to i ++ x ∷ [] } ∷ [])) (ranks_read (suc i))
        (ap (λ m. views_read k g.allocated pairs n m (done ++ ranked_to i ∷ [])) (let same : suc left ≡ live_in g.allocated - length (ranks_to i) = omega (arith, one, put, long, most) in same))
        (ap (λ rs. views_read k g.allocated pairs n left (done ++ record { via = via; ranks = rs } ∷ [])) (sym (ranks_live i (shape_of g) r on)))
        (leads_one (decimal x) (rank x) (views_read k g.allocated pairs n (suc left) (done ++ ranked_to i ∷ []))
        (views_read k g.allocated pairs n left (done ++ record { via = via; ranks = ranks_to i ++ x ∷ [] } ∷ [])) (uncut_decimal x small) (number_written x small)
        (rank_taken left (ranked_to i) x fits))))
    | inr off ↦
        leads_text [] (line_at i) (ranks_read i) (ranks_read (suc i)) (rw off refl)
        (subst (λ rs. Leads [] (ranks_read i) (views_read k g.allocated pairs n (live_in g.allocated - length rs) (done ++ record { via = via; ranks = rs } ∷ [])))
        (sym (ranks_gone i (shape_of g) r off)) (leads_none (ranks_read i)))
  ]

  abbrev pub ranked : RankedView
  ranked = ranked_to (length g.allocated)

  ranks_lead : Leads (rank_lines (shape_of g) r) (views_read k g.allocated pairs n (live_in g.allocated) (done ++ record { via = via; ranks = [] } ∷ []))
      (views_read k g.allocated pairs n 0 (done ++ ranked ∷ []))
  ranks_lead =
      let long = ranks_long (length g.allocated) (omega arith) in
      let all = ap live_in (take-length g.allocated) in
      leads_to (rank_lines (shape_of g) r) (ranks_read 0) (views_read k g.allocated pairs n (live_in g.allocated) (done ++ record { via = via; ranks = [] } ∷ []))
      (ranks_read (length g.allocated)) (views_read k g.allocated pairs n 0 (done ++ ranked ∷ []))
      (ap (λ m. views_read k g.allocated pairs n m (done ++ record { via = via; ranks = [] } ∷ [])) (let same : live_in g.allocated - 0 ≡ live_in g.allocated = omega arith in same))
      (ap (λ m. views_read k g.allocated pairs n m (done ++ ranked ∷ [])) (let same : live_in g.allocated - length (ranks_to (length g.allocated)) ≡ 0 = omega (arith, long, all) in same))
      (leads_below line_at ranks_read (length g.allocated) rank_lead)

  view_taken : can_take_view (views_read k g.allocated pairs n 0 done) n via ≡ true
      → next_reading (view via) (views_read k g.allocated pairs n 0 done) ≡ Some (views_read k g.allocated pairs n (live_in g.allocated) (done ++ record { via = via; ranks = [] } ∷ []))
  view_taken h = rw h refl

  -- the lines of a view
  pub view_lead : k ≤ 8 → length done < n → follows k (last_via done) via ≡ true
      → Leads (view_text (shape_of g) r via) (views_read k g.allocated pairs n 0 done) (views_read k g.allocated pairs n 0 (done ++ ranked ∷ []))
  view_lead low fits next =
      let name = named k (last_via done) via low next in
      leads_line (codes "view " ++ via_word via) (rank_lines (shape_of g) r) (view via) (views_read k g.allocated pairs n 0 done)
      (views_read k g.allocated pairs n (live_in g.allocated) (done ++ record { via = via; ranks = [] } ∷ [])) (views_read k g.allocated pairs n 0 (done ++ ranked ∷ []))
      (uncut_both (codes "view ") (via_word via) (uncut_above (codes "view ") refl) name.uncut)
      (via_word via, refl, name.names)
      (view_taken (ap (λ b. b && follows k (last_via done) via) (lt-ltb (length done) n fits) ∙ next))
      ranks_lead

  -- ---- what it holds

  put_block : (i : ℕ) (o : Option (List ℕ)) → label_of g i ≡ o → length (ranks_to i) ≡ live_in (take i g.allocated)
      → ranks_at (take i g.allocated) (ranks_to i) ≡ blocks_below i (shape_of g) r → ranks_at (take i g.allocated ++ o ∷ []) (ranks_to (suc i)) ≡ blocks_below (suc i) (shape_of g) r
  put_block i None same long before =
      let off : is_some (label_of g i) ≡ false = ap is_some same in
      ap (ranks_at (take i g.allocated ++ None ∷ [])) (ranks_gone i (shape_of g) r off ∙ sym (append-nil (ranks_to i)))
      ∙ ranks_put (take i g.allocated) (ranks_to i) [] None long ∙ ap (λ xs. xs ++ None ∷ []) before
      ∙ ap (λ b. blocks_below i (shape_of g) r ++ b ∷ []) (sym (block_none (shape_of g) r i off))
  put_block i (Some t) same long before =
      let on : is_some (label_of g i) ≡ true = ap is_some same in
      let x = rank_of (shape_of g) r i in
      ap (ranks_at (take i g.allocated ++ Some t ∷ [])) (ranks_live i (shape_of g) r on)
      ∙ ranks_put (take i g.allocated) (ranks_to i) (x ∷ []) (Some t) long ∙ ap (λ xs. xs ++ Some x ∷ []) before
      ∙ ap (λ b. blocks_below i (shape_of g) r ++ b ∷ []) (sym (block_some (shape_of g) r i on))

  blocks_read : (i : ℕ) → i ≤ length g.allocated → ranks_at (take i g.allocated) (ranks_to i) ≡ blocks_below i (shape_of g) r
  blocks_read zero h = refl
  blocks_read (suc i) h =
      let before = blocks_read i (omega (arith, h)) in
      let long = ranks_long i (omega (arith, h)) in
      let front : take (suc i) g.allocated ≡ take i g.allocated ++ label_of g i ∷ [] =
      take-suc g.allocated i None (omega (arith, h)) ∙ ap (λ o. take i g.allocated ++ o ∷ []) (label_at g i (omega (arith, h))) in
      ap (λ xs. ranks_at xs (ranks_to (suc i))) front ∙ put_block i (label_of g i) refl long before

  pub view_held : view_in g.allocated ranked ≡ saved_view (shape_of g) (record { via = via; test = r })
  view_held =
      ap (λ b. record { via = via; block_of = b })
      (ap (λ xs. ranks_at xs (ranks_to (length g.allocated))) (sym (take-length g.allocated)) ∙ blocks_read (length g.allocated) (omega arith))
