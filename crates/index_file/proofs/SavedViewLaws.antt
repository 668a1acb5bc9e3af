-- The views of a file, by their places.
use Rattle.std.proofs.Common.{◌≡◌, ℕ, zero, suc, ◌+◌, ◌<◌, ◌≤◌, List, [], ◌∷◌, ◌++◌, length, map, take, get_or, Option, Some, None, IsSome, Bool, true, false, true≢false, refl, sym, ◌∙◌, ap, subst, arith, inl, inr, nat_lt, length-append}
use Rattle.std.specs.Prelude.{slice_get, option_and_then, option_map, bytes_eq, position, if◌then◌else◌}
use Rattle.std.specs.List.{IsDistinct}
use Rattle.std.proofs.lemmas.Bool.{cases_Bool, ltb-true, ltb-false}
use Rattle.std.proofs.lemmas.List.{get_or_append_left, get_or_push, length-map}
use Rattle.graph_spec.specs.Graphs.{Graph, IsGraph}
use Rattle.graph_spec.specs.Members.{at, Lists}
use Rattle.graph_spec.specs.Shapes.{shape_of}
use Rattle.label_graph.specs.GraphViews.{label_number, is_linked}
use Rattle.label_graph.proofs.Viewed.{linked_is}
use Rattle.label_graph.proofs.Positions.{position-at}
use Rattle.bisim_spec.specs.Partitions.{IsPartition}
use Rattle.index_api.specs.declared.kinds.Via.{Via}
use Rattle.adjacency.specs.Rows.{row}
use Rattle.index_file.specs.SavedFiles.{SavedFile, graph_of, ranks_at}
use Rattle.index_file.specs.Readings.{RankedView, is_live_in, live_in, view_in}
use Rattle.index_file.specs.ReadViews.{HaveRanks}
use Rattle.index_file.specs.ReadNodes.{texts_at, AreReadNodes}
use Rattle.index_file.specs.SavedGraphs.{saved_file, AreNeighbours, ArePlaces, ArePlacesBelow, IsSaved, via_of_view, blocks_of, blocks_at, via_at}
use Rattle.index_file.proofs.ReadNodeLaws.{live_below}
use Rattle.index_file.proofs.SavedLaws.{seen_distinct}

one_view : (a b : RankedView) → Some a ≡ Some b → a ≡ b
one_view a b s = cc

one_list : (a b : List ℕ) → Some a ≡ Some b → a ≡ b
one_list a b s = cc

-- each view has as many ranks as there are live nodes
pub ranks_full : (live : ℕ) (views : List RankedView) (j : ℕ) (v : RankedView) → HaveRanks live views 0 → slice_get views j ≡ Some v → length v.ranks ≡ live
ranks_full live [] j v h e = absurd (let z : None ≡ Some v = e in cc)
ranks_full live (x ∷ []) zero v h e = (let same = ap (λ (w : RankedView). length w.ranks) (one_view x v e) in let l : length x.ranks + 0 ≡ live = h in omega (arith, same, l))
ranks_full live (x ∷ []) (suc j) v h e = absurd (let z : None ≡ Some v = e in cc)
ranks_full live (x ∷ y ∷ views) zero v h e = ap (λ (w : RankedView). length w.ranks) (one_view v x (sym e)) ∙ h.0
ranks_full live (x ∷ y ∷ views) (suc j) v h e = ranks_full live (y ∷ views) j v h.1 e

-- exactly the live nodes have a rank
rank_live : (allocated : List (Option (List ℕ))) (ranks : List ℕ) (n : ℕ) → length ranks ≡ live_in allocated → is_live_in allocated n ≡ true → IsSome (at (ranks_at allocated ranks) n)
rank_live [] ranks n l h = absurd (true≢false (sym h))
rank_live (None ∷ allocated) ranks zero l h = absurd (true≢false (sym h))
rank_live (None ∷ allocated) ranks (suc n) l h = rank_live allocated ranks n l h
rank_live (Some t ∷ allocated) [] n l h = absurd (omega (arith, l))
rank_live (Some t ∷ allocated) (r ∷ ranks) zero l h = refl
rank_live (Some t ∷ allocated) (r ∷ ranks) (suc n) l h = rank_live allocated ranks n (omega (arith, l)) h

rank_only : (allocated : List (Option (List ℕ))) (ranks : List ℕ) (n : ℕ) → IsSome (at (ranks_at allocated ranks) n) → is_live_in allocated n ≡ true
rank_only [] ranks n h = absurd (true≢false (sym h))
rank_only (None ∷ allocated) ranks zero h = absurd (true≢false (sym h))
rank_only (None ∷ allocated) ranks (suc n) h = rank_only allocated ranks n h
rank_only (Some t ∷ allocated) [] zero h = absurd (true≢false (sym h))
rank_only (Some t ∷ allocated) [] (suc n) h = rank_only allocated [] n h
rank_only (Some t ∷ allocated) (r ∷ ranks) zero h = refl
rank_only (Some t ∷ allocated) (r ∷ ranks) (suc n) h = rank_only allocated ranks n h

-- the rank of a live node stands behind those of the live nodes below it
pub rank_place : (allocated : List (Option (List ℕ))) (ranks : List ℕ) (n : ℕ) → is_live_in allocated n ≡ true → at (ranks_at allocated ranks) n ≡ slice_get ranks (live_in (take n allocated))
rank_place [] ranks n h = absurd (true≢false (sym h))
rank_place (None ∷ allocated) ranks zero h = absurd (true≢false (sym h))
rank_place (None ∷ allocated) ranks (suc n) h = rank_place allocated ranks n h
rank_place (Some t ∷ allocated) [] zero h = refl
rank_place (Some t ∷ allocated) [] (suc n) h = rank_place allocated [] n h
rank_place (Some t ∷ allocated) (r ∷ ranks) zero h = refl
rank_place (Some t ∷ allocated) (r ∷ ranks) (suc n) h = rank_place allocated ranks n h

pub rank_none : (allocated : List (Option (List ℕ))) (ranks : List ℕ) (n : ℕ) → is_live_in allocated n ≡ false → at (ranks_at allocated ranks) n ≡ None
rank_none [] ranks n h = refl
rank_none (None ∷ allocated) ranks zero h = refl
rank_none (None ∷ allocated) ranks (suc n) h = rank_none allocated ranks n h
rank_none (Some t ∷ allocated) [] zero h = refl
rank_none (Some t ∷ allocated) [] (suc n) h = rank_none allocated [] n h
rank_none (Some t ∷ allocated) (r ∷ ranks) zero h = absurd (true≢false h)
rank_none (Some t ∷ allocated) (r ∷ ranks) (suc n) h = rank_none allocated ranks n h

ranks_count : (allocated : List (Option (List ℕ))) (ranks : List ℕ) → length (ranks_at allocated ranks) ≡ length allocated
ranks_count [] ranks = refl
ranks_count (None ∷ allocated) ranks = ap suc (ranks_count allocated ranks)
ranks_count (Some t ∷ allocated) [] = ap suc (ranks_count allocated [])
ranks_count (Some t ∷ allocated) (r ∷ ranks) = ap suc (ranks_count allocated ranks)

-- the view at a place
viewed : (allocated : List (Option (List ℕ))) (views : List RankedView) (j : ℕ) → slice_get (map (view_in allocated) views) j ≡ option_map (view_in allocated) (slice_get views j)
viewed allocated [] j = refl
viewed allocated (v ∷ views) zero = refl
viewed allocated (v ∷ views) (suc j) = viewed allocated views j

there : (views : List RankedView) (j : ℕ) → j < length views → (v : RankedView) × (slice_get views j ≡ Some v)
there [] j h = absurd (omega (arith, h))
there (v ∷ views) zero h = (v, refl)
there (v ∷ views) (suc j) h = there views j (omega (arith, h))

module _ (allocated : List (Option (List ℕ))) (children : List (List ℕ)) (k : ℕ) (views : List RankedView) (j : ℕ) where
  abbrev pub file : SavedFile
  file = saved_file allocated children k views

  pub via_there : (via : Via) → option_map (λ v. v.via) (slice_get views j) ≡ Some via → via_at file j ≡ Some via
  via_there via h = by (slice_get views j) refl h
    where
      by : (o : Option RankedView) → slice_get views j ≡ o → option_map (λ v. v.via) o ≡ Some via → via_at file j ≡ Some via
      by None e h = absurd (let z : None ≡ Some via = h in cc)
      by (Some v) e h = ap via_of_view (viewed allocated views j ∙ ap (option_map (view_in allocated)) e) ∙ h

  pub blocks_there : (ranks : List ℕ) → option_map (λ v. v.ranks) (slice_get views j) ≡ Some ranks → blocks_at file j ≡ ranks_at allocated ranks
  blocks_there ranks h = by (slice_get views j) refl h
    where
      by : (o : Option RankedView) → slice_get views j ≡ o → option_map (λ v. v.ranks) o ≡ Some ranks → blocks_at file j ≡ ranks_at allocated ranks
      by None e h = absurd (let z : None ≡ Some ranks = h in cc)
      by (Some v) e h = ap blocks_of (viewed allocated views j ∙ ap (option_map (view_in allocated)) e) ∙ ap (ranks_at allocated) (one_list v.ranks ranks h)

  pub blocks_count : j < length views → length (blocks_at file j) ≡ length allocated
  blocks_count h =
      let v = there views j h in
      ap length (blocks_there v.0.ranks (ap (option_map (λ w. w.ranks)) v.1)) ∙ ranks_count allocated v.0.ranks

  -- the view is a partition of the nodes
  pub partition_there : (parents : List (List ℕ)) (places : List ℕ) → IsSaved allocated children parents views places → j < length views → IsPartition (shape_of file.graph) (blocks_at file j)
  partition_there parents places s h =
      let v = there views j h in
      let full = ranks_full (live_in allocated) views j v.0 s.ranks v.1 in
      subst (IsPartition (shape_of file.graph)) (sym (blocks_there v.0.ranks (ap (option_map (λ w. w.ranks)) v.1)))
      (record { live = λ n l. rank_live allocated v.0.ranks n full l; only = λ n b. rank_only allocated v.0.ranks n b })

-- what holds of each file that is stored
module _ (allocated : List (Option (List ℕ))) (children parents : List (List ℕ)) (k : ℕ) (views : List RankedView) (places : List ℕ) (s : IsSaved allocated children parents views places) where
  abbrev pub stored : SavedFile
  stored = saved_file allocated children k views

  pub views_told : length stored.views ≡ length views
  views_told = length-map views (view_in allocated)

  pub lists_told : (j : ℕ) → j < length stored.views → length (blocks_at stored j) ≡ length allocated
  lists_told j h = blocks_count allocated children k views j (let c = views_told in omega (arith, c, h))

  pub partitions_told : (j : ℕ) → j < length stored.views → IsPartition (shape_of stored.graph) (blocks_at stored j)
  partitions_told j h = partition_there allocated children k views j parents places s (let c = views_told in omega (arith, c, h))

  -- the rank of a live node, and none of others
  pub rank_read : (j n place : ℕ) (ranks : List ℕ) → option_map (λ v. v.ranks) (slice_get views j) ≡ Some ranks → is_live_in allocated n ≡ true → place ≡ get_or places n 0
      → slice_get ranks place ≡ at (blocks_at stored j) n
  rank_read j n place ranks v live p =
      ap (slice_get ranks) (p ∙ s.placed.each n (live_below allocated n live)) ∙ sym (rank_place allocated ranks n live) ∙ ap (λ b. at b n) (sym (blocks_there allocated children k views j ranks v))

  pub rank_missing : (j n : ℕ) → j < length stored.views → is_live_in allocated n ≡ false → None ≡ at (blocks_at stored j) n
  rank_missing j n h dead =
      let v = there views j (let c = views_told in omega (arith, c, h)) in
      sym (ap (λ b. at b n) (blocks_there allocated children k views j v.0.ranks (ap (option_map (λ w. w.ranks)) v.1)) ∙ rank_none allocated v.0.ranks n dead)

-- the lists of neighbours, as `Digraph` shows them
pub child_list : (g : Graph) (children parents : List (List ℕ)) (n : ℕ) → IsGraph g → AreNeighbours g children parents → n < length g.allocated → Lists (is_linked g n) (row children n)
child_list g children parents n i a h = (let l = a.child_lists n h in record { once = l.once; members = λ m. l.members m ∙ sym (linked_is g i n m) })

pub parent_list : (g : Graph) (children parents : List (List ℕ)) (n : ℕ) → IsGraph g → AreNeighbours g children parents → n < length g.allocated → Lists (λ u. is_linked g u n) (row parents n)
parent_list g children parents n i a h = (let l = a.parent_lists n h in record { once = l.once; members = λ m. l.members m ∙ sym (linked_is g i m n) })

-- the numbers of the labels, as they are stored
label_at : (texts : List (List ℕ)) (numbers : List (Option ℕ)) (n : ℕ) → ((m l : ℕ) → at numbers m ≡ Some l → l < length texts) → IsDistinct bytes_eq texts
    → at numbers n ≡ option_and_then (λ t. position (bytes_eq t) texts) (option_and_then (λ l. l) (slice_get (texts_at texts numbers) n))
label_at texts [] n below d = refl
label_at texts (None ∷ numbers) zero below d = refl
label_at texts (Some l ∷ numbers) zero below d = by (slice_get texts l) refl
  where
    text_there : (xs : List (List ℕ)) (i : ℕ) → i < length xs → slice_get xs i ≡ None → ⊥
    text_there [] i h e = omega (arith, h)
    text_there (x ∷ xs) zero h e = (let z : Some x ≡ None = e in cc)
    text_there (x ∷ xs) (suc i) h e = text_there xs i (omega (arith, h)) e

    by : (o : Option (List ℕ)) → slice_get texts l ≡ o → Some l ≡ option_and_then (λ t. position (bytes_eq t) texts) o
    by None e = absurd (text_there texts l (below 0 l refl) e)
    by (Some t) e = sym (position-at texts l t d e)
label_at texts (o ∷ numbers) (suc n) below d = label_at texts numbers n (λ m l h. below (suc m) l h) d

pub label_told : (texts : List (List ℕ)) (numbers : List (Option ℕ)) (live n : ℕ) → AreReadNodes texts numbers live → at numbers n ≡ label_number (graph_of (texts_at texts numbers) []) n
label_told texts numbers live n a =
    let seen = a.seen in
    label_at texts numbers n a.below (subst (IsDistinct bytes_eq) (sym seen) (seen_distinct (texts_at texts numbers)))
    ∙ ap (λ ts. option_and_then (λ t. position (bytes_eq t) ts) (option_and_then (λ l. l) (slice_get (texts_at texts numbers) n))) seen

-- one more place
pub places_more : (allocated : List (Option (List ℕ))) (n : ℕ) → n < length allocated → live_in (take (suc n) allocated) ≡ (if is_live_in allocated n then suc (live_in (take n allocated)) else live_in (take n allocated))
places_more [] n h = absurd (omega (arith, h))
places_more (None ∷ allocated) zero h = refl
places_more (Some t ∷ allocated) zero h = refl
places_more (None ∷ allocated) (suc n) h = places_more allocated n (omega (arith, h))
places_more (Some t ∷ allocated) (suc n) h = ap suc (places_more allocated n (omega (arith, h))) ∙ inner (is_live_in allocated n) (live_in (take n allocated))
  where
    inner : (b : Bool) (m : ℕ) → suc (if b then suc m else m) ≡ (if b then suc (suc m) else suc m)
    inner true m = refl
    inner false m = refl

pub places_few : (allocated : List (Option (List ℕ))) (n : ℕ) → live_in (take n allocated) ≤ n
places_few allocated zero = omega arith
places_few [] (suc n) = omega arith
places_few (None ∷ allocated) (suc n) = (let l = places_few allocated n in omega (arith, l))
places_few (Some t ∷ allocated) (suc n) = (let l = places_few allocated n in omega (arith, l))

pub places_first : (allocated : List (Option (List ℕ))) → ArePlacesBelow allocated 0 0 []
places_first allocated = record { all = refl; within = omega arith; each = λ m l. absurd (omega (arith, l)); live_is = refl }

pub places_step : (allocated : List (Option (List ℕ))) (n live next : ℕ) (places new : List ℕ) (live_here : Bool) → ArePlacesBelow allocated n live places → n < length allocated
    → live_here ≡ is_live_in allocated n → next ≡ (if live_here then suc live else live) → new ≡ places ++ live ∷ [] → ArePlacesBelow allocated (n + 1) next new
places_step allocated n live next places new live_here a h told count pushed =
    let up : n + 1 ≡ suc n = omega arith in
    record {
      all = ap length pushed ∙ length-append places (live ∷ []) ∙ ap (λ k. k + 1) a.all;
      within = omega (arith, h);
      each = λ m l. elim (cases_Bool (nat_lt m n)) [
        | inl on ↦
            (let b = ltb-true m n on in
            let c = a.all in
            ap (λ xs. get_or xs m 0) pushed ∙ get_or_append_left places (live ∷ []) 0 m (omega (arith, b, c)) ∙ a.each m b)
        | inr off ↦
            (let b = ltb-false m n off in
            let c = a.all in
            let same : m ≡ n = omega (arith, b, l) in
            ap (λ xs. get_or xs m 0) pushed ∙ get_or_push places live 0 m (omega (arith, c, same)) ∙ a.live_is ∙ ap (λ k. live_in (take k allocated)) (sym same))
      ];
      live_is =
          count ∙ ap (λ b. if b then suc live else live) told ∙ ap (λ m. if is_live_in allocated n then suc m else m) a.live_is ∙ sym (places_more allocated n h)
          ∙ ap (λ k. live_in (take k allocated)) (sym up);
    }

pub places_all : (allocated : List (Option (List ℕ))) (n live : ℕ) (places : List ℕ) → ArePlacesBelow allocated n live places → length allocated ≤ n → ArePlaces allocated places
places_all allocated n live places a end = record {
  all = (let c = a.all in let w = a.within in omega (arith, c, w, end));
  each = λ m l. a.each m (omega (arith, l, end));
}

pub live_bound : (allocated : List (Option (List ℕ))) (n live : ℕ) (places : List ℕ) → ArePlacesBelow allocated n live places → n < length allocated → length allocated ≤ 4294967295 → live < 4294967295
live_bound allocated n live places a h few = (let l = a.live_is in let m = places_few allocated n in omega (arith, l, m, h, few))
