-- The lines of the nodes of a graph give its nodes.
use Rattle.std.proofs.Common.{◌≡◌, ℕ, suc, ◌-◌, ◌<◌, List, [], ◌∷◌, ◌++◌, length, take, get_or, Option, Some, None, refl, sym, ◌∙◌, ap, arith, append_assoc}
use Rattle.std.specs.Prelude.{codes, option_and_then}
use Rattle.std.proofs.Math.Seq.{take-suc, take-length}
use Rattle.std.proofs.lemmas.Option.{slice_get-get_or}
use Rattle.graph_spec.specs.Graphs.{Graph, label_of}
use Rattle.path_query.specs.Labels.{SpellsLabel}
use Rattle.index_file.specs.declared.due.Due.TheVariants as due
use Rattle.index_file.specs.Statements.{live, gone}
use Rattle.index_file.specs.Readings.{Reading}
use Rattle.index_file.specs.WrittenFiles.{node_line, node_lines}
use Rattle.index_file.specs.WholeFiles.{HasLabels}
use Rattle.index_file.proofs.WrittenLines.{uncut_both, uncut_above}
use Rattle.index_file.proofs.WrittenLabels.{uncut_label}
use Rattle.index_file.proofs.TakenTexts.{Leads, leads_one, leads_below, leads_to, leads_text}

abbrev pub nodes_read : ℕ → ℕ → List (Option (List ℕ)) → Reading
nodes_read k n allocated = record { due = due.Nodes n; k = k; allocated = allocated; pairs = []; views = [] }

node_leads : (k n : ℕ) (allocated : List (Option (List ℕ))) (o : Option (List ℕ)) → ((t : List ℕ) → o ≡ Some t → SpellsLabel t t)
    → Leads (node_line o) (nodes_read k (suc n) allocated) (nodes_read k n (allocated ++ o ∷ []))
node_leads k n allocated None labels =
    leads_one (codes "gone") gone (nodes_read k (suc n) allocated) (nodes_read k n (allocated ++ None ∷ [])) (uncut_above (codes "gone") refl) refl refl
node_leads k n allocated (Some t) labels =
    leads_text ((codes "live " ++ t) ++ 10 ∷ []) (node_line (Some t)) (nodes_read k (suc n) allocated) (nodes_read k n (allocated ++ Some t ∷ [])) (append_assoc (codes "live ") t (10 ∷ []))
    (leads_one (codes "live " ++ t) (live t) (nodes_read k (suc n) allocated) (nodes_read k n (allocated ++ Some t ∷ []))
    (uncut_both (codes "live ") t (uncut_above (codes "live ") refl) (uncut_label t (labels t refl)))
    (t, refl, labels t refl) refl)

pub label_at : (g : Graph) (i : ℕ) → i < length g.allocated → get_or g.allocated i None ≡ label_of g i
label_at g i h = sym (ap (option_and_then (λ l. l)) (slice_get-get_or g.allocated i None h))

-- the lines of all numbers
pub nodes_lead : (g : Graph) (k : ℕ) → HasLabels g → Leads (node_lines g) (nodes_read k (length g.allocated) []) (nodes_read k 0 g.allocated)
nodes_lead g k labels =
    leads_to (node_lines g) (at_number 0) (nodes_read k (length g.allocated) []) (at_number (length g.allocated)) (nodes_read k 0 g.allocated)
    (ap (λ n. nodes_read k n []) (let e : length g.allocated - 0 ≡ length g.allocated = omega arith in e))
    (ap (λ n. nodes_read k n (take (length g.allocated) g.allocated)) (let e : length g.allocated - length g.allocated ≡ 0 = omega arith in e)
    ∙ ap (nodes_read k 0) (take-length g.allocated))
    (leads_below (λ n. node_line (label_of g n)) at_number (length g.allocated) one)
  where
    at_number : ℕ → Reading
    at_number i = nodes_read k (length g.allocated - i) (take i g.allocated)

    one : (i : ℕ) → i < length g.allocated → Leads (node_line (label_of g i)) (at_number i) (at_number (suc i))
    one i h =
        leads_to (node_line (label_of g i)) (nodes_read k (suc (length g.allocated - suc i)) (take i g.allocated)) (at_number i)
        (nodes_read k (length g.allocated - suc i) (take i g.allocated ++ label_of g i ∷ [])) (at_number (suc i))
        (ap (λ n. nodes_read k n (take i g.allocated)) (let e : suc (length g.allocated - suc i) ≡ length g.allocated - i = omega (arith, h) in e))
        (ap (nodes_read k (length g.allocated - suc i)) (sym (take-suc g.allocated i None h ∙ ap (λ o. take i g.allocated ++ o ∷ []) (label_at g i h))))
        (node_leads k (length g.allocated - suc i) (take i g.allocated) (label_of g i) (labels i))
