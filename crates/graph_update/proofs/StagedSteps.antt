-- Steps that are staged, one more at a time.
use Rattle.std.proofs.Common.{◌≡◌, ℕ, ◌+◌, Bool, true, false, List, [], ◌∷◌, ◌++◌, length, length-append, Some, None, IsTrue, refl, sym, ap, ◌∙◌, arith, nat_lt}
use Rattle.std.specs.Prelude.{◌&&◌, ◌||◌, not, map, if◌then◌else◌}
use Rattle.std.proofs.lemmas.Bool.{and_parts}
use Rattle.std.proofs.lemmas.List.{append-nil, map-append}
use Rattle.graph_spec.specs.Graphs.{Graph, label_of, is_live, has_edge}
use Rattle.change_spec.specs.Steps.{Step, node, link, unlink, drop, relabel, made, is_idle, is_text, after}
use Rattle.change_spec.specs.Places.{CanMakeAll}
use Rattle.change_spec.specs.Named.{is_dropped}
use Rattle.change_spec.proofs.NamedNodes.{live_after}
use Rattle.change_spec.proofs.StepPlaces.{given_set}
use Rattle.label_graph.specs.ReservedGraphs.{ReservedGraph, Reservation, none_reserved, with_reserved_label, with_reserved_pair, with_reserved_relabel, can_be_joined}
use Rattle.graph_update.specs.declared.staging.Plan.{Plan}
use Rattle.graph_update.specs.declared.staging.Plan.TheVariants.{Node, Link, Unlink, Drop, Relabel}
use Rattle.graph_update.specs.StagedChanges.{effective, needed_labels, needed_pairs, needed_relabels, plan_of, IsStaged}

chosen : (b : Bool) (x : Step) (more rest last : List Step) → more ≡ rest ++ last → (if b then more else x ∷ more) ≡ (if b then rest else x ∷ rest) ++ last
chosen true x more rest last e = e
chosen false x more rest last e = ap (λ c. x ∷ c) e

-- what one more step adds
pub effective_more : (c : List Step) (s : Step) (g : Graph) → effective (c ++ s ∷ []) g ≡ effective c g ++ effective (s ∷ []) (after c g)
effective_more [] s g = refl
effective_more (x ∷ xs) s g =
    chosen (is_idle x g) x (effective (xs ++ s ∷ []) (made x g)) (effective xs (made x g)) (effective (s ∷ []) (after xs (made x g))) (effective_more xs s (made x g))

labels_joined : (a b : List Step) → needed_labels (a ++ b) ≡ needed_labels a ++ needed_labels b
labels_joined [] b = refl
labels_joined (node t ∷ ss) b = ap (λ ts. t ∷ ts) (labels_joined ss b)
labels_joined (link u v ∷ ss) b = labels_joined ss b
labels_joined (unlink u v ∷ ss) b = labels_joined ss b
labels_joined (drop u ∷ ss) b = labels_joined ss b
labels_joined (relabel u t ∷ ss) b = labels_joined ss b

pairs_joined : (a b : List Step) → needed_pairs (a ++ b) ≡ needed_pairs a ++ needed_pairs b
pairs_joined [] b = refl
pairs_joined (node t ∷ ss) b = pairs_joined ss b
pairs_joined (link u v ∷ ss) b = ap (λ ps. (u, v) ∷ ps) (pairs_joined ss b)
pairs_joined (unlink u v ∷ ss) b = pairs_joined ss b
pairs_joined (drop u ∷ ss) b = pairs_joined ss b
pairs_joined (relabel u t ∷ ss) b = pairs_joined ss b

relabels_joined : (a b : List Step) → needed_relabels (a ++ b) ≡ needed_relabels a ++ needed_relabels b
relabels_joined [] b = refl
relabels_joined (node t ∷ ss) b = relabels_joined ss b
relabels_joined (link u v ∷ ss) b = relabels_joined ss b
relabels_joined (unlink u v ∷ ss) b = relabels_joined ss b
relabels_joined (drop u ∷ ss) b = relabels_joined ss b
relabels_joined (relabel u t ∷ ss) b = ap (λ ts. t ∷ ts) (relabels_joined ss b)

-- nothing is staged before the first step
pub staged_none : (held : ReservedGraph) (plans : List Plan) → held.reserved ≡ none_reserved → plans ≡ [] → IsStaged [] held plans
staged_none held plans r p = record { plans_are = p; labels = ap (λ k. k.labels) r; pairs = ap (λ k. k.pairs) r; relabels = ap (λ k. k.relabels) r }

-- what is reserved for more steps
abbrev with_needed : Reservation → List Step → Reservation
with_needed r more = record { labels = r.labels ++ needed_labels more; pairs = r.pairs ++ needed_pairs more; relabels = r.relabels ++ needed_relabels more }

module _ (c : List Step) (s : Step) (old new : ReservedGraph) (plans plans2 : List Plan) (more : List Step) where
  staged_more : effective (s ∷ []) (after c old.graph) ≡ more → new.graph ≡ old.graph → IsStaged c old plans → plans2 ≡ plans ++ map plan_of more
      → new.reserved ≡ with_needed old.reserved more → IsStaged (c ++ s ∷ []) new plans2
  staged_more e same st p r = record {
    plans_are = p ∙ ap (λ x. x ++ map plan_of more) st.plans_are ∙ sym (map-append plan_of (effective c old.graph) more) ∙ ap (map plan_of) whole;
    labels = ap (λ k. k.labels) r ∙ ap (λ x. x ++ needed_labels more) st.labels ∙ sym (labels_joined (effective c old.graph) more) ∙ ap needed_labels whole;
    pairs = ap (λ k. k.pairs) r ∙ ap (λ x. x ++ needed_pairs more) st.pairs ∙ sym (pairs_joined (effective c old.graph) more) ∙ ap needed_pairs whole;
    relabels = ap (λ k. k.relabels) r ∙ ap (λ x. x ++ needed_relabels more) st.relabels ∙ sym (relabels_joined (effective c old.graph) more) ∙ ap needed_relabels whole;
  }
    where
      whole : effective c old.graph ++ more ≡ effective (c ++ s ∷ []) new.graph
      whole = ap (λ m. effective c old.graph ++ m) (sym e) ∙ sym (effective_more c s old.graph) ∙ ap (effective (c ++ s ∷ [])) (sym same)

-- nothing more is reserved
same_needed : (r : Reservation) → r ≡ record { labels = r.labels ++ []; pairs = r.pairs ++ []; relabels = r.relabels ++ [] }
same_needed r i = record { labels = sym (append-nil r.labels) i; pairs = sym (append-nil r.pairs) i; relabels = sym (append-nil r.relabels) i }

pub staged_node : (c : List Step) (t : List ℕ) (old new : ReservedGraph) (plans plans2 : List Plan) → new.graph ≡ old.graph → new.reserved ≡ with_reserved_label old.reserved t
    → plans2 ≡ plans ++ Node ∷ [] → IsStaged c old plans → IsStaged (c ++ node t ∷ []) new plans2
staged_node c t old new plans plans2 same r p st =
    staged_more c (node t) old new plans plans2 (node t ∷ []) refl same st p (r ∙ ap (λ k. with_reserved_label k t) (same_needed old.reserved) ∙ needed)
  where
    needed : with_reserved_label (with_needed old.reserved []) t ≡ with_needed old.reserved (node t ∷ [])
    needed i = record { labels = ap (λ ts. ts ++ t ∷ []) (append-nil old.reserved.labels) i; pairs = old.reserved.pairs ++ []; relabels = old.reserved.relabels ++ [] }

pub staged_link : (c : List Step) (u v : ℕ) (old new : ReservedGraph) (plans plans2 : List Plan) → new.graph ≡ old.graph → new.reserved ≡ with_reserved_pair old.reserved u v
    → plans2 ≡ plans ++ Link u v ∷ [] → has_edge (after c old.graph) u v ≡ false → IsStaged c old plans → IsStaged (c ++ link u v ∷ []) new plans2
staged_link c u v old new plans plans2 same r p absent st =
    staged_more c (link u v) old new plans plans2 (link u v ∷ []) (ap (λ b. if b then [] else link u v ∷ []) absent) same st p
    (r ∙ ap (λ k. with_reserved_pair k u v) (same_needed old.reserved) ∙ needed)
  where
    needed : with_reserved_pair (with_needed old.reserved []) u v ≡ with_needed old.reserved (link u v ∷ [])
    needed i = record { labels = old.reserved.labels ++ []; pairs = ap (λ ps. ps ++ (u, v) ∷ []) (append-nil old.reserved.pairs) i; relabels = old.reserved.relabels ++ [] }

pub staged_relabel : (c : List Step) (u : ℕ) (t : List ℕ) (old new : ReservedGraph) (plans plans2 : List Plan) → new.graph ≡ old.graph → new.reserved ≡ with_reserved_relabel old.reserved t
    → plans2 ≡ plans ++ Relabel u t ∷ [] → is_text t (label_of (after c old.graph) u) ≡ false → IsStaged c old plans → IsStaged (c ++ relabel u t ∷ []) new plans2
staged_relabel c u t old new plans plans2 same r p other st =
    staged_more c (relabel u t) old new plans plans2 (relabel u t ∷ []) (ap (λ b. if b then [] else relabel u t ∷ []) other) same st p
    (r ∙ ap (λ k. with_reserved_relabel k t) (same_needed old.reserved) ∙ needed)
  where
    needed : with_reserved_relabel (with_needed old.reserved []) t ≡ with_needed old.reserved (relabel u t ∷ [])
    needed i = record { labels = old.reserved.labels ++ []; pairs = old.reserved.pairs ++ []; relabels = ap (λ ts. ts ++ t ∷ []) (append-nil old.reserved.relabels) i }

-- a step that is idle needs nothing
pub staged_idle : (c : List Step) (s : Step) (old : ReservedGraph) (plans : List Plan) → is_idle s (after c old.graph) ≡ true → IsStaged c old plans → IsStaged (c ++ s ∷ []) old plans
staged_idle c s old plans idle st =
    staged_more c s old old plans plans [] (ap (λ b. if b then [] else s ∷ []) idle) refl st (sym (append-nil plans)) (same_needed old.reserved)

pub staged_unlink : (c : List Step) (u v : ℕ) (old : ReservedGraph) (plans plans2 : List Plan) → plans2 ≡ plans ++ Unlink u v ∷ [] → IsStaged c old plans → IsStaged (c ++ unlink u v ∷ []) old plans2
staged_unlink c u v old plans plans2 p st = staged_more c (unlink u v) old old plans plans2 (unlink u v ∷ []) refl refl st p (same_needed old.reserved)

pub staged_drop : (c : List Step) (u : ℕ) (old : ReservedGraph) (plans plans2 : List Plan) → plans2 ≡ plans ++ Drop u ∷ [] → IsStaged c old plans → IsStaged (c ++ drop u ∷ []) old plans2
staged_drop c u old plans plans2 p st = staged_more c (drop u) old old plans plans2 (drop u ∷ []) refl refl st p (same_needed old.reserved)

-- ---- the ends of an edge to come

linked_labels : (b : Bool) (u v : ℕ) (more : List Step) → needed_labels (if b then more else link u v ∷ more) ≡ needed_labels more
linked_labels true u v more = refl
linked_labels false u v more = refl

relabelled_labels : (b : Bool) (u : ℕ) (t : List ℕ) (more : List Step) → needed_labels (if b then more else relabel u t ∷ more) ≡ needed_labels more
relabelled_labels true u t more = refl
relabelled_labels false u t more = refl

-- there is a label for each number that steps allocate
allocated_needed : (c : List Step) (g : Graph) → length (after c g).allocated ≡ length g.allocated + length (needed_labels (effective c g))
allocated_needed [] g = omega arith
allocated_needed (node t ∷ ss) g = (let r = allocated_needed ss (made (node t) g) in let one = length-append g.allocated (Some t ∷ []) in omega (arith, r, one))
allocated_needed (link u v ∷ ss) g =
    allocated_needed ss (made (link u v) g) ∙ ap (λ ts. length g.allocated + length ts) (sym (linked_labels (has_edge g u v) u v (effective ss (made (link u v) g))))
allocated_needed (unlink u v ∷ ss) g = allocated_needed ss (made (unlink u v) g)
allocated_needed (drop u ∷ ss) g =
    allocated_needed ss (made (drop u) g) ∙ ap (λ n. n + length (needed_labels (effective ss (made (drop u) g)))) (given_set g u None)
allocated_needed (relabel u t ∷ ss) g =
    allocated_needed ss (made (relabel u t) g) ∙ ap (λ n. n + length (needed_labels (effective ss (made (relabel u t) g)))) (given_set g u (Some t))
    ∙ ap (λ ts. length g.allocated + length ts) (sym (relabelled_labels (is_text t (label_of g u)) u t (effective ss (made (relabel u t) g))))

-- a node that is live behind the first steps is so now, or will have one of their labels
pub joinable : (c : List Step) (held : ReservedGraph) (plans : List Plan) (n : ℕ) → CanMakeAll c held.graph → IsStaged c held plans → IsTrue (is_live (after c held.graph) n)
    → IsTrue (can_be_joined held n)
joinable c held plans n can st live =
    ap (λ k. is_live held.graph n || (not (nat_lt n (length held.graph.allocated)) && nat_lt n k)) (sym count)
    ∙ (and_parts (is_live held.graph n || (not (nat_lt n (length held.graph.allocated)) && nat_lt n (length (after c held.graph).allocated))) (not (is_dropped c n))
    (sym (live_after c held.graph n can) ∙ live)).0
  where
    count : length (after c held.graph).allocated ≡ length held.graph.allocated + length held.reserved.labels
    count = allocated_needed c held.graph ∙ ap (λ ts. length held.graph.allocated + length ts) (sym st.labels)
