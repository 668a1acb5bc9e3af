-- A change of one step.
use Rattle.std.proofs.Common.{◌≡◌, ℕ, List, [], ◌∷◌, Option, Bool, true, false, refl, sym, ◌∙◌, ap, subst, true≢false}
use Rattle.graph_spec.specs.Graphs.{Graph}
use Rattle.change_spec.specs.Steps.{Step, node, link, unlink, drop, relabel}
use Rattle.change_spec.specs.NextOne.{KeepsParents}
use Rattle.bisim_spec.specs.IndexGraphs.{View}
use Rattle.one_update.specs.OneDrafts.{IsSupported}

-- a node that comes isn't a link or unlink
pub node_moves : (c : List Step) (t : List ℕ) (g : Graph) (block : List (Option ℕ)) → c ≡ node t ∷ [] → KeepsParents c g block → ⊥
node_moves c t g block is keeps = subst (λ (d : List Step). KeepsParents d g block) is keeps

-- nor one that goes
pub drop_moves : (c : List Step) (u : ℕ) (g : Graph) (block : List (Option ℕ)) → c ≡ drop u ∷ [] → KeepsParents c g block → ⊥
drop_moves c u g block is keeps = subst (λ (d : List Step). KeepsParents d g block) is keeps

-- nor one that gives a label
pub relabel_moves : (c : List Step) (u : ℕ) (t : List ℕ) (g : Graph) (block : List (Option ℕ)) → c ≡ relabel u t ∷ [] → KeepsParents c g block → ⊥
relabel_moves c u t g block is keeps = subst (λ (d : List Step). KeepsParents d g block) is keeps

is_link : Step → Bool
is_link (node t) = false
is_link (link u v) = true
is_link (unlink u v) = false
is_link (drop u) = false
is_link (relabel u t) = false

begins_link : List Step → Bool
begins_link [] = false
begins_link (s ∷ ss) = is_link s

no_link : (c : List Step) (s : Step) (u v : ℕ) → is_link s ≡ false → c ≡ s ∷ [] → c ≡ link u v ∷ [] → ⊥
unfolding begins_link is_link
no_link c s u v off is e = true≢false (sym (ap begins_link (sym is ∙ e)) ∙ off)

pub node_no_link : (c : List Step) (t : List ℕ) (u v : ℕ) → c ≡ node t ∷ [] → c ≡ link u v ∷ [] → ⊥
unfolding is_link
node_no_link c t u v is e = no_link c (node t) u v refl is e

pub unlink_no_link : (c : List Step) (x y u v : ℕ) → c ≡ unlink x y ∷ [] → c ≡ link u v ∷ [] → ⊥
unfolding is_link
unlink_no_link c x y u v is e = no_link c (unlink x y) u v refl is e

pub drop_no_link : (c : List Step) (x u v : ℕ) → c ≡ drop x ∷ [] → c ≡ link u v ∷ [] → ⊥
unfolding is_link
drop_no_link c x u v is e = no_link c (drop x) u v refl is e

pub relabel_no_link : (c : List Step) (x : ℕ) (t : List ℕ) (u v : ℕ) → c ≡ relabel x t ∷ [] → c ≡ link u v ∷ [] → ⊥
unfolding is_link
relabel_no_link c x t u v is e = no_link c (relabel x t) u v refl is e

-- the ends of a step that is a link
ends_of : Step → ℕ × ℕ
ends_of (node t) = (0, 0)
ends_of (link u v) = (u, v)
ends_of (unlink u v) = (0, 0)
ends_of (drop u) = (0, 0)
ends_of (relabel u t) = (0, 0)

first_ends : List Step → ℕ × ℕ
first_ends [] = (0, 0)
first_ends (s ∷ ss) = ends_of s

-- a change of one link has one pair of ends
pub same_link : (c : List Step) (w : View) (x y u v : ℕ) → c ≡ link x y ∷ [] → c ≡ link u v ∷ [] → IsSupported w u v → IsSupported w x y
unfolding first_ends ends_of
same_link c w x y u v is e s = subst (λ (p : ℕ × ℕ). IsSupported w p.0 p.1) (ap first_ends (sym e ∙ is)) s
