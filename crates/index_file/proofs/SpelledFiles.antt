-- The file of a graph and of relations on its nodes is spelled, and holds these.
use Rattle.std.proofs.Common.{◌≡◌, ℕ, suc, ◌+◌, ◌≤◌, List, [], ◌∷◌, ◌++◌, length, map, Option, Some, None, refl, sym, ◌∙◌, ap, subst, arith, append_assoc, append-nil, length-append}
use Rattle.std.specs.Prelude.{slice_get, ◌&&◌}
use Rattle.std.proofs.lemmas.Bool.{eq-eqb}
use Rattle.std.proofs.lemmas.List.{length-map}
use Rattle.graph_spec.specs.Graphs.{Graph, IsGraph}
use Rattle.graph_spec.specs.Shapes.{shape_of}
use Rattle.index_api.specs.declared.kinds.Via.{Via}
use Rattle.index_file.specs.SavedFiles.{seen_of}
use Rattle.index_file.specs.Readings.{RankedView, nothing_read, is_end, last_via, view_in}
use Rattle.index_file.specs.Reads.{Spelled}
use Rattle.index_file.specs.WrittenFiles.{head_text, view_text}
use Rattle.index_file.specs.WholeFiles.{TestedView, views_text, file_text, saved_view, saved_file_of, IsEquivalence, IsWritable}
use Rattle.index_file.proofs.ReadRankLaws.{last_begins}
use Rattle.index_file.proofs.TakenTexts.{Leads, leads_both, leads_none, leads_all}
use Rattle.index_file.proofs.TestedRanks.{ranks_below}
use Rattle.index_file.proofs.WrittenEdges.{pairs_below, edges_same}
use Rattle.index_file.proofs.WrittenHeads.{head_leads}
use Rattle.index_file.proofs.WrittenOrder.{Follow, few_follow, in_order}
use Rattle.index_file.proofs.WrittenViews.{views_read, view_lead, view_held}

-- the view with the ranks of its nodes
abbrev ranked_view : Graph → TestedView → RankedView
ranked_view g v = record { via = v.via; ranks = ranks_below (length g.allocated) (shape_of g) v.test }

module _ (g : Graph) (w : IsGraph g) (few : length g.allocated ≤ 4294967295) (k : ℕ) (low : k ≤ 8) (pairs : List (ℕ × ℕ)) (n : ℕ) where
  views_lead : (views : List TestedView) (done : List RankedView) (next : Option Via)
      → ((j : ℕ) (v : TestedView) → slice_get views j ≡ Some v → IsEquivalence (shape_of g) v.test) → Follow k (last_via done) (map (λ v. v.via) views) next
      → length done + length views ≡ n
      → Leads (views_text (shape_of g) views) (views_read k g.allocated pairs n 0 done) (views_read k g.allocated pairs n 0 (done ++ map (ranked_view g) views))
  views_lead [] done next tests order count =
      subst (λ vs. Leads [] (views_read k g.allocated pairs n 0 done) (views_read k g.allocated pairs n 0 vs)) (sym (append-nil done)) (leads_none (views_read k g.allocated pairs n 0 done))
  views_lead (v ∷ views) done next tests order count =
      let more : List RankedView = done ++ ranked_view g v ∷ [] in
      let long = length-append done (ranked_view g v ∷ []) in
      leads_both (view_text (shape_of g) v.test v.via) (views_text (shape_of g) views) (views_read k g.allocated pairs n 0 done) (views_read k g.allocated pairs n 0 more)
      (views_read k g.allocated pairs n 0 (done ++ map (ranked_view g) (v ∷ views)))
      (view_lead g w few k pairs n done v.via v.test (tests 0 v refl) low (omega (arith, count)) order.0)
      (subst (λ vs. Leads (views_text (shape_of g) views) (views_read k g.allocated pairs n 0 more) (views_read k g.allocated pairs n 0 vs))
      (append_assoc done (ranked_view g v ∷ []) (map (ranked_view g) views))
      (views_lead views more next (λ j x e. tests (suc j) x e)
      (subst (λ l. Follow k l (map (λ x. x.via) views) next) (sym (last_begins done (ranked_view g v))) order.1)
      (omega (arith, long, count))))

  -- the index of the last view
  views_end : (views : List TestedView) (done : List RankedView) (next : Option Via) → Follow k (last_via done) (map (λ v. v.via) views) next
      → last_via (done ++ map (ranked_view g) views) ≡ next
  views_end [] done next order = ap last_via (append-nil done) ∙ order
  views_end (v ∷ views) done next order =
      ap last_via (sym (append_assoc done (ranked_view g v ∷ []) (map (ranked_view g) views)))
      ∙ views_end views (done ++ ranked_view g v ∷ []) next (subst (λ l. Follow k l (map (λ x. x.via) views) next) (sym (last_begins done (ranked_view g v))) order.1)

  views_held : (views : List TestedView) → ((j : ℕ) (v : TestedView) → slice_get views j ≡ Some v → IsEquivalence (shape_of g) v.test)
      → map (view_in g.allocated) (map (ranked_view g) views) ≡ map (saved_view (shape_of g)) views
  views_held [] tests = refl
  views_held (v ∷ views) tests =
      ap (λ x. x ∷ map (view_in g.allocated) (map (ranked_view g) views)) (view_held g w few k pairs n [] v.via v.test (tests 0 v refl))
      ∙ ap (λ xs. saved_view (shape_of g) v ∷ xs) (views_held views (λ j x e. tests (suc j) x e))

-- The theorem on what is written: the text is an index file, which holds the graph, and views with these relations.
pub file_spelled : (g : Graph) (k : ℕ) (views : List TestedView) → IsGraph g → length g.allocated ≤ 4294967295 → IsWritable g k views
    → Spelled (file_text g k views) (saved_file_of g k views)
file_spelled g k views w few can =
    let n = length views in
    let pairs = pairs_below g (length g.allocated) in
    let order = in_order can.kinds k in
    let next = order.0 in
    let follow : Follow k None (map (λ v. v.via) views) next = subst (λ vs. Follow k None vs next) (sym can.indexes) order.1 in
    let most = few_follow k next (map (λ v. v.via) views) can.level follow order.2 in
    let long = length-map views (λ v. v.via) in
    let ranked = map (ranked_view g) views in
    let last = views_read k g.allocated pairs n 0 ranked in
    let held = views_held g w few k can.level pairs n views can.tests in
    let edges = sym (edges_same g w) in
    record {
      last = last;
      takes = leads_all (file_text g k views) nothing_read last
          (leads_both (head_text g k n) (views_text (shape_of g) views) nothing_read (views_read k g.allocated pairs n 0 []) last
          (head_leads g k n w few can.level can.labels (omega (arith, most, long)))
          (views_lead g w few k can.level pairs n views [] next can.tests follow (omega arith)));
      complete = ap (λ b. b && is_end k (last_via ranked)) (eq-eqb (length ranked) n (length-map views (ranked_view g)))
          ∙ ap (is_end k) (views_end g w few k can.level pairs n views [] next follow) ∙ order.2;
      holds = λ i. record { graph = record { allocated = g.allocated; edges = edges i; seen = seen_of g.allocated }; k = k; views = sym held i };
    }
