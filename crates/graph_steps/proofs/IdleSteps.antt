-- Steps that leave a graph as it is.
use Rattle.std.proofs.Common.{◌≡◌, ℕ, zero, suc, Bool, true, false, List, [], ◌∷◌, ◌++◌, Option, Some, None, refl, sym, ap, ◌∙◌, subst, true≢false}
use Rattle.std.specs.Prelude.{not, if◌then◌else◌, slice_get, slice_set, option_and_then}
use Rattle.std.proofs.lemmas.Bool.{or_parts}
use Rattle.std.proofs.lemmas.Slice.Eq.{bytes_eq-Decides}
use Rattle.graph_spec.specs.Graphs.{Graph, Edges, IsGraph, label_of}
use Rattle.graph_spec.specs.Changes.{with_label}
use Rattle.change_spec.specs.Steps.{Step, node, link, unlink, drop, relabel, made, after, is_idle, is_new, is_text}
use Rattle.graph_steps.proofs.GrownCounts.{edges_same}

text_is : (t : List ℕ) (o : Option (List ℕ)) → is_text t o ≡ true → o ≡ Some t
text_is t None h = absurd (true≢false (sym h))
text_is t (Some r) h = ap Some (sym ((bytes_eq-Decides t r).0 h))

label_there : (given : List (Option (List ℕ))) (u : ℕ) (t : List ℕ) → option_and_then (λ l. l) (slice_get given u) ≡ Some t → slice_set given u (Some t) ≡ given
label_there [] u t h = refl
label_there (x ∷ xs) zero t h = ap (λ o. o ∷ xs) (sym (plain x h))
  where
    plain : (o : Option (List ℕ)) → option_and_then (λ l. l) (Some o) ≡ Some t → o ≡ Some t
    plain o h = h
label_there (x ∷ xs) (suc u) t h = ap (λ ys. x ∷ ys) (label_there xs u t h)

-- a step that is idle leaves the graph as it is
pub idle_same : (s : Step) (g : Graph) → IsGraph g → is_idle s g ≡ true → made s g ≡ g
idle_same (node t) g s h = absurd (true≢false (sym h))
idle_same (link u v) g s h = ap (λ (es : Edges). record g { edges = es }) (edges_same g.edges (u, v) h)
idle_same (unlink u v) g s h = absurd (true≢false (sym h))
idle_same (drop u) g s h = absurd (true≢false (sym h))
idle_same (relabel u t) g s h =
    let label = text_is t (label_of g u) h in
    ap (λ xs. record g { allocated = xs; seen = with_label g.seen t }) (label_there g.allocated u t label)
    ∙ ap (λ (b : Bool). record g { seen = if b then g.seen else g.seen ++ t ∷ [] }) (s.labelled u t label)

true_from : (b : Bool) → not b ≡ false → b ≡ true
true_from true h = refl
true_from false h = sym h

-- so do steps of which none alters it
pub unaltered : (c : List Step) (g : Graph) → IsGraph g → is_new c g ≡ false → after c g ≡ g
unaltered [] g graph h = refl
unaltered (s ∷ ss) g graph h =
    let both = or_parts (not (is_idle s g)) (is_new ss (made s g)) h in
    let same = idle_same s g graph (true_from (is_idle s g) both.0) in
    unaltered ss (made s g) (subst IsGraph (sym same) graph) both.1 ∙ same
