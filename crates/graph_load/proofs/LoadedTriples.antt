-- What is loaded represents the triples that were taken, by their numbers and those of their terms.
use Rattle.std.proofs.Common.{◌≡◌, ◌≢◌, ℕ, ◌+◌, Bool, true, false, ◌||◌, cond, List, [], ◌∷◌, ◌++◌, length, Option, Some, None, Result, Ok, Err, refl, sym, ap, ◌∙◌, subst, inl, inr, true≢false, is_some, append-nil}
use Rattle.std.specs.Prelude.{unwrap_or, if◌then◌else◌}
use Rattle.std.specs.List.{list_any}
use Rattle.std.specs.Map.{keys_of, lookup}
use Rattle.std.proofs.Math.Bool.{or-true, or-false}
use Rattle.std.proofs.lemmas.Bool.{cases_Bool, or_cases}
use Rattle.std.proofs.lemmas.List.{map-append}
use Rattle.graph_spec.specs.declared.limits.Limits.{Limits}
use Rattle.graph_spec.specs.declared.refusal.Refusal.{Refusal}
use Rattle.graph_spec.specs.Graphs.{Graph}
use Rattle.graph_spec.specs.Changes.{with_node, with_edge}
use Rattle.change_spec.specs.Steps.{Step, node, link, made, after, apply}
use Rattle.triples_read.specs.Canonical.{IsSpelled}
use Rattle.triples_read.specs.declared.term.Term.{Term}
use Rattle.triples_read.specs.declared.term.Triple.{Triple}
use Rattle.term_table.specs.Terms.{same_term, number_of}
use Rattle.term_table.proofs.SameTerms.{term_is}
use Rattle.triple_names.specs.Items.{Item, of_term, of_triple, same_triple, same_item, term_label, predicate_label, is_part, has_item, has_join}
use Rattle.triple_names.specs.Names.{Names, number_in, node_there, if_live}
use Rattle.triple_names.specs.TripleChanges.{placed_in, node_unless, given_number, next_after, object_there, insert_steps, noted}
use Rattle.triple_names.specs.Represented.{IsImage, Represents, is_among, with_triple}
use Rattle.triple_names.proofs.ItemLaws.{triple_is, item_is, item_same, same_by, any_with, distinct_with}
use Rattle.triple_names.proofs.NumberLaws.{named, number_noted}
use Rattle.triple_names.proofs.ImageSteps.{is_there, image_by, length_ensured}
use Rattle.triple_names.proofs.InsertKept.{leaves_after, image_inserted, after_insert}
use Rattle.triple_names.proofs.PlaceLaws.{keys_push, lookup_none}
use Rattle.triple_names.proofs.KeyLaws.{lookup_new}
use Rattle.graph_load.specs.TripleGraphs as load
use Rattle.graph_load.specs.TripleGraphs.{LoadState, nothing_loaded, names_of, is_loaded, then_do, with_graph, changed, numbered, need, from_term, onto_term, linked, placed}
use Rattle.graph_load.proofs.ChangeLaws.{ok_is, not_both}

-- the triples that were taken are represented, and nothing but their parts has a number
pub record IsRepresented (l : LoadState) : Type 0 where
  pub represents : Represents l.graph (names_of l) (keys_of l.triples)
  pub named_parts : (p : Item) → is_some (number_in (names_of l) p) ≡ has_item (keys_of l.triples) p

-- ---- steps that were not refused

pub first_done : (r : Result LoadState Refusal) (f : LoadState → Result LoadState Refusal) (m : LoadState) → then_do r f ≡ Ok m → (a : LoadState) × (r ≡ Ok a) × (f a ≡ Ok m)
first_done (Ok a) f m e = (a, refl, e)
first_done (Err r) f m e = absurd (not_both r m e)

record IsChanged (s : Step) (l m : LoadState) : Type 0 where
  graph : m.graph ≡ made s l.graph
  terms : m.terms ≡ l.terms
  triples : m.triples ≡ l.triples

changed_is : (limits : Limits) (s : Step) (l m : LoadState) → changed limits s l ≡ Ok m → IsChanged s l m
changed_is limits s l m e = by (apply (s ∷ []) l.graph limits) refl e
  where
    by : (r : Result Graph Refusal) → apply (s ∷ []) l.graph limits ≡ r → with_graph l r ≡ Ok m → IsChanged s l m
    by (Ok h) done e =
        let same : record l { graph = h } ≡ m = ok_is (record l { graph = h }) m e in
        record {
          graph = ap (λ (x : LoadState). x.graph) (sym same) ∙ leaves_after (s ∷ []) l.graph h limits done;
          terms = ap (λ (x : LoadState). x.terms) (sym same);
          triples = ap (λ (x : LoadState). x.triples) (sym same);
        }
    by (Err r) done e = absurd (not_both r m e)

record IsNeeded (x : Term) (l m : LoadState) : Type 0 where
  graph : m.graph ≡ after (node_unless (number_of l.terms x) (term_label x)) l.graph
  terms : (z : Term) → number_of m.terms z ≡ cond (same_term z x) (Some (given_number (number_of l.terms x) (length l.graph.allocated))) (number_of l.terms z)
  triples : m.triples ≡ l.triples

need_is : (limits : Limits) (x : Term) (l m : LoadState) → need limits x l ≡ Ok m → IsNeeded x l m
need_is limits x l m e = by (number_of l.terms x) refl e
  where
    stays : (k : ℕ) → number_of l.terms x ≡ Some k → (z : Term) → number_of l.terms z ≡ cond (same_term z x) (Some k) (number_of l.terms z)
    stays k number z = choose (same_term z x) refl
      where
        choose : (b : Bool) → same_term z x ≡ b → number_of l.terms z ≡ cond b (Some k) (number_of l.terms z)
        choose true on = ap (number_of l.terms) (term_is z x on) ∙ number
        choose false off = refl

    by : (o : Option ℕ) → number_of l.terms x ≡ o → (if is_some o then Ok l else changed limits (node (term_label x)) (numbered x (length l.graph.allocated) l)) ≡ Ok m → IsNeeded x l m
    by None none e =
        let c = changed_is limits (node (term_label x)) (numbered x (length l.graph.allocated) l) m e in
        record {
          graph = c.graph ∙ sym (ap (λ o. after (node_unless o (term_label x)) l.graph) none);
          terms = λ z.
              ap (λ ts. number_of ts z) c.terms ∙ lookup_new same_term term_is l.terms x (length l.graph.allocated) none z
              ∙ sym (ap (λ o. cond (same_term z x) (Some (given_number o (length l.graph.allocated))) (number_of l.terms z)) none);
          triples = c.triples;
        }
    by (Some k) number e =
        let same : l ≡ m = ok_is l m e in
        record {
          graph = ap (λ (a : LoadState). a.graph) (sym same) ∙ sym (ap (λ o. after (node_unless o (term_label x)) l.graph) number);
          terms = λ z.
              ap (λ (a : LoadState). number_of a.terms z) (sym same) ∙ stays k number z
              ∙ sym (ap (λ o. cond (same_term z x) (Some (given_number o (length l.graph.allocated))) (number_of l.terms z)) number);
          triples = ap (λ (a : LoadState). a.triples) (sym same);
        }

-- ---- a new triple is loaded

module _ (limits : Limits) (t : Triple) (l : LoadState) (r : IsRepresented l) (new : is_loaded l t ≡ false) where
  abbrev n : Names
  n = names_of l

  abbrev s : List Triple
  s = keys_of l.triples

  abbrev x : Item
  x = of_term t.subject

  abbrev w : Item
  w = of_triple t

  abbrev y : Item
  y = of_term t.object

  abbrev k1 : ℕ
  k1 = (placed_in n l.graph t).subject

  abbrev k2 : ℕ
  k2 = (placed_in n l.graph t).triple

  abbrev k3 : ℕ
  k3 = (placed_in n l.graph t).object

  -- what has a number is there
  there : (p : Item) → node_there n l.graph p ≡ number_in n p
  there p = by (number_in n p) refl
    where
      by : (o : Option ℕ) → number_in n p ≡ o → if_live l.graph o ≡ o
      by None h = refl
      by (Some m) h =
          ap (if_live l.graph) (sym h) ∙ is_there l.graph (number_in n) (has_item s) (has_join s) r.represents.image p m (sym (r.named_parts p) ∙ ap is_some h) h

  no_number : number_in n w ≡ None
  no_number = lookup_none (same_triple t) l.triples new

  module _ (a b c d e : LoadState) (needs : IsNeeded t.subject l a) (adds : IsChanged (node (predicate_label t.predicate)) a b) (onto : IsNeeded t.object b c)
      (links : IsChanged (link (unwrap_or (number_of c.terms t.subject) 0) (length a.graph.allocated)) c d) (links_on : IsChanged (link (length a.graph.allocated) (unwrap_or (number_of d.terms t.object) 0)) d e) where
    graph_a : a.graph ≡ after (node_unless (node_there n l.graph x) (term_label t.subject)) l.graph
    graph_a = needs.graph ∙ sym (ap (λ o. after (node_unless o (term_label t.subject)) l.graph) (there x))

    number_a : (z : Term) → number_of a.terms z ≡ cond (same_term z t.subject) (Some k1) (number_of l.terms z)
    number_a z = needs.terms z ∙ sym (ap (λ o. cond (same_term z t.subject) (Some (given_number o (length l.graph.allocated))) (number_of l.terms z)) (there x))

    long_a : length a.graph.allocated ≡ next_after (node_there n l.graph x) (length l.graph.allocated)
    long_a = ap (λ (g : Graph). length g.allocated) graph_a ∙ length_ensured l.graph (node_there n l.graph x) (term_label t.subject)

    gone : node_there n l.graph w ≡ None
    gone = there w ∙ no_number

    number_w : length a.graph.allocated ≡ k2
    number_w = long_a ∙ sym (ap (λ o. given_number o (next_after (node_there n l.graph x) (length l.graph.allocated))) gone)

    graph_b : b.graph ≡ after (node_unless (node_there n l.graph w) (predicate_label t.predicate)) (after (node_unless (node_there n l.graph x) (term_label t.subject)) l.graph)
    graph_b =
        adds.graph ∙ ap (λ g. with_node g (predicate_label t.predicate)) graph_a
        ∙ sym (ap (λ o. after (node_unless o (predicate_label t.predicate)) (after (node_unless (node_there n l.graph x) (term_label t.subject)) l.graph)) gone)

    long_b : length b.graph.allocated ≡ next_after (node_there n l.graph w) (next_after (node_there n l.graph x) (length l.graph.allocated))
    long_b =
        ap (λ (g : Graph). length g.allocated) graph_b
        ∙ length_ensured (after (node_unless (node_there n l.graph x) (term_label t.subject)) l.graph) (node_there n l.graph w) (predicate_label t.predicate)
        ∙ ap (next_after (node_there n l.graph w)) (length_ensured l.graph (node_there n l.graph x) (term_label t.subject))

    -- the node of the object
    there_b : number_of b.terms t.object ≡ object_there n l.graph t k1
    there_b =
        ap (λ ts. number_of ts t.object) adds.terms ∙ number_a t.object ∙ ap (λ o. cond (same_term t.object t.subject) (Some k1) o) (sym (there y))

    graph_c : c.graph ≡ after (node_unless (object_there n l.graph t k1) (term_label t.object)) b.graph
    graph_c = onto.graph ∙ ap (λ o. after (node_unless o (term_label t.object)) b.graph) there_b

    number_c : (z : Term) → number_of c.terms z ≡ cond (same_term z t.object) (Some k3) (cond (same_term z t.subject) (Some k1) (number_of l.terms z))
    number_c z =
        onto.terms z
        ∙ (λ i. cond (same_term z t.object) (Some (given_number (there_b i) (long_b i))) ((ap (λ ts. number_of ts z) adds.terms ∙ number_a z) i))

    number_x : number_of c.terms t.subject ≡ Some k1
    number_x = number_c t.subject ∙ by (same_term t.subject t.object) refl
      where
        by : (b : Bool) → same_term t.subject t.object ≡ b → cond b (Some k3) (cond (same_term t.subject t.subject) (Some k1) (number_of l.terms t.subject)) ≡ Some k1
        by true on =
            let back : same_term t.object t.subject ≡ true = same_by y x (sym (item_is x y on)) in
            ap (λ b. Some (given_number (if b then Some k1 else node_there n l.graph y) (next_after (node_there n l.graph w) (next_after (node_there n l.graph x) (length l.graph.allocated))))) back
        by false off = ap (λ b. cond b (Some k1) (number_of l.terms t.subject)) (item_same x)

    number_y : number_of d.terms t.object ≡ Some k3
    number_y =
        ap (λ ts. number_of ts t.object) links.terms ∙ number_c t.object
        ∙ ap (λ b. cond b (Some k3) (cond (same_term t.object t.subject) (Some k1) (number_of l.terms t.object))) (item_same y)

    graph_e : e.graph ≡ after (insert_steps n l.graph t) l.graph
    graph_e =
        links_on.graph
        ∙ (λ i. with_edge (links.graph i) (number_w i) (unwrap_or (number_y i) 0))
        ∙ (λ i. with_edge (with_edge (graph_c i) (unwrap_or (number_x i) 0) (number_w i)) k2 k3)
        ∙ ap (λ g. with_edge (with_edge (after (node_unless (object_there n l.graph t k1) (term_label t.object)) g) k1 k2) k2 k3) graph_b
        ∙ sym (after_insert l.graph n s t r.represents.image)

    abbrev m : LoadState
    m = record e { triples = e.triples ++ (t, length a.graph.allocated) ∷ [] }

    triples_e : e.triples ≡ l.triples
    triples_e = links_on.triples ∙ links.triples ∙ onto.triples ∙ adds.triples ∙ needs.triples

    triples_m : m.triples ≡ l.triples ++ (t, k2) ∷ []
    triples_m = λ i. triples_e i ++ (t, number_w i) ∷ []

    number_m : (q : Item) → number_in (names_of m) q ≡ named (named (named (number_in n) x k1) w k2) y k3 q
    number_m (of_term z) = ap (λ ts. number_of ts z) (links_on.terms ∙ links.terms) ∙ number_c z
    number_m (of_triple u) = ap (lookup (same_triple u)) triples_m ∙ lookup_new same_triple triple_is l.triples t k2 no_number u

    keys_m : keys_of m.triples ≡ with_triple s t
    keys_m = ap keys_of triples_m ∙ keys_push l.triples t k2 ∙ sym (ap (λ b. if b then s else s ++ t ∷ []) new)

    some_named : (f : Item → Option ℕ) (p : Item) (k : ℕ) (q : Item) → is_some (named f p k q) ≡ (is_some (f q) || same_item q p)
    some_named f p k q = by (same_item q p)
      where
        by : (b : Bool) → is_some (cond b (Some k) (f q)) ≡ (is_some (f q) || b)
        by true = sym (or-true (is_some (f q)))
        by false = sym (or-false (is_some (f q)))

    three : (f g h k : Bool) → (((f || g) || h) || k) ≡ (f || (g || (h || k)))
    three true g h k = refl
    three false true h k = refl
    three false false h k = refl

    named_m : (q : Item) → is_some (number_in (names_of m) q) ≡ has_item (with_triple s t) q
    named_m q =
        ap is_some (number_m q)
        ∙ some_named (named (named (number_in n) x k1) w k2) y k3 q
        ∙ ap (λ b. b || same_item q y) (some_named (named (number_in n) x k1) w k2 q ∙ ap (λ b. b || same_item q w) (some_named (number_in n) x k1 q ∙ ap (λ b. b || same_item q x) (r.named_parts q)))
        ∙ three (has_item s q) (same_item q x) (same_item q w) (same_item q y) ∙ sym (any_with (λ u. is_part u q) s t)

    represented_new : IsSpelled t → IsRepresented m
    represented_new spelled = record {
      represents = subst (λ ts. Represents m.graph (names_of m) ts) (sym keys_m) (record {
        distinct = distinct_with s t r.represents.distinct;
        spelled = λ u among. elim (or_cases (is_among s u) (same_triple u t) (sym (any_with (same_triple u) s t) ∙ among)) [
          | inl old ↦ r.represents.spelled u old
          | inr now ↦ subst IsSpelled (sym (triple_is u t now)) spelled
        ];
        image =
            subst (λ g. IsImage g (number_in (names_of m)) (has_item (with_triple s t)) (has_join (with_triple s t))) (sym graph_e)
            (image_by (after (insert_steps n l.graph t) l.graph) (number_in (noted t (placed_in n l.graph t) n)) (number_in (names_of m)) (has_item (with_triple s t)) (has_item (with_triple s t)) (has_join (with_triple s t)) (has_join (with_triple s t))
            (λ q. number_noted n t (placed_in n l.graph t) q ∙ sym (number_m q)) (λ q. refl) (λ a b. refl) (image_inserted l.graph n s t r.represents.image));
      });
      named_parts = subst (λ ts. (p : Item) → is_some (number_in (names_of m) p) ≡ has_item ts p) (sym keys_m) named_m;
    }

    keys_new : keys_of m.triples ≡ with_triple s t
    keys_new = keys_m

-- A triple that is loaded leaves what is loaded represented, with it.
pub record IsLoadedWith (t : Triple) (l m : LoadState) : Type 0 where
  pub represented : IsRepresented m
  pub triples : keys_of m.triples ≡ with_triple (keys_of l.triples) t

pub load_keeps : (limits : Limits) (t : Triple) (l m : LoadState) → IsRepresented l → IsSpelled t → load.with_triple limits t l ≡ Ok m → IsLoadedWith t l m
load_keeps limits t l m r spelled done = by (is_loaded l t) refl done
  where
    rest : (a : LoadState) → Result LoadState Refusal
    rest a = then_do (placed limits t (length a.graph.allocated) a) (λ b. Ok (record b { triples = b.triples ++ (t, length a.graph.allocated) ∷ [] }))

    by : (b : Bool) → is_loaded l t ≡ b → (if b then Ok l else then_do (need limits t.subject l) rest) ≡ Ok m → IsLoadedWith t l m
    by true known e =
        let same : l ≡ m = ok_is l m e in
        record {
          represented = subst IsRepresented same r;
          triples = ap (λ (a : LoadState). keys_of a.triples) (sym same) ∙ sym (ap (λ b. if b then keys_of l.triples else keys_of l.triples ++ t ∷ []) known);
        }
    by false new e =
        let a = first_done (need limits t.subject l) rest m e in
        let k = length a.0.graph.allocated in
        let z = first_done (placed limits t k a.0) (λ b. Ok (record b { triples = b.triples ++ (t, k) ∷ [] })) m a.2 in
        let b = first_done (changed limits (node (predicate_label t.predicate)) a.0) (linked limits t.subject k t.object) z.0 z.1 in
        let c = first_done (need limits t.object b.0) (λ v. then_do (from_term limits t.subject k v) (onto_term limits k t.object)) z.0 b.2 in
        let d = first_done (from_term limits t.subject k c.0) (onto_term limits k t.object) z.0 c.2 in
        let same : record z.0 { triples = z.0.triples ++ (t, k) ∷ [] } ≡ m = ok_is (record z.0 { triples = z.0.triples ++ (t, k) ∷ [] }) m z.2 in
        let needs = need_is limits t.subject l a.0 a.1 in
        let adds = changed_is limits (node (predicate_label t.predicate)) a.0 b.0 b.1 in
        let onto = need_is limits t.object b.0 c.0 c.1 in
        let links = changed_is limits (link (unwrap_or (number_of c.0.terms t.subject) 0) k) c.0 d.0 d.1 in
        let links_on = changed_is limits (link k (unwrap_or (number_of d.0.terms t.object) 0)) d.0 z.0 d.2 in
        record {
          represented = subst IsRepresented same (represented_new limits t l r new a.0 b.0 c.0 d.0 z.0 needs adds onto links links_on spelled);
          triples = ap (λ (v : LoadState). keys_of v.triples) (sym same) ∙ keys_new limits t l r new a.0 b.0 c.0 d.0 z.0 needs adds onto links links_on;
        }
