-- The lines of edges, from a list of children.
use Rattle.std.proofs.Common.{◌≡◌, ℕ, List, [], length, true, false, true≢false, refl, sym, ◌∙◌, inl, inr, arith}
use Rattle.std.specs.List.{flat_map}
use Rattle.std.specs.List.Sorted.{IsStrictlyIncreasing}
use Rattle.std.proofs.lemmas.Bool.{cases_Bool}
use Rattle.graph_spec.specs.Graphs.{Graph, IsGraph, has_edge, is_live}
use Rattle.std.specs.Prelude.{if◌then◌else◌}
use Rattle.graph_spec.specs.Members.{has}
use Rattle.graph_spec.proofs.GraphLaws.{is_shape}
use Rattle.extent_report.proofs.RisingLists.{texts_listed, flat_same}
use Rattle.extent_report.proofs.NumberedTexts.{texts_past}
use Rattle.index_file.specs.WrittenFiles.{edge_line, edges_from}

-- what is written for the edge, where it is there
abbrev line_at : Graph → ℕ → ℕ → List ℕ
line_at g u v = if has_edge g u v then edge_line u v else []

line_on : (g : Graph) (u v : ℕ) → has_edge g u v ≡ true → edge_line u v ≡ line_at g u v
line_on g u v h = rw h refl

line_off : (g : Graph) (u v : ℕ) → has_edge g u v ≡ false → line_at g u v ≡ []
line_off g u v h = rw h refl

pub edges_listed : (g : Graph) (u : ℕ) (xs : List ℕ) → IsGraph g → IsStrictlyIncreasing xs → ((v : ℕ) → has xs v ≡ has_edge g u v) → flat_map (edge_line u) xs ≡ edges_from g u
edges_listed g u xs s rises same =
    flat_same (edge_line u) (line_at g u) xs (λ v h. line_on g u v (sym (same v) ∙ h))
    ∙ sym (texts_listed (line_at g u) (length g.allocated) xs rises (λ k h. (is_shape g s).below k (s.onto u k (sym (same k) ∙ h))) (λ k off. line_off g u k (sym (same k) ∙ off)))

pub no_edges : (g : Graph) (u : ℕ) → IsGraph g → is_live g u ≡ false → edges_from g u ≡ []
no_edges g u s gone = texts_past 0 (length g.allocated) (line_at g u) (omega arith) (λ k a b. line_off g u k (off k))
  where
    off : (k : ℕ) → has_edge g u k ≡ false
    off k = elim (cases_Bool (has_edge g u k)) [
      | inl on ↦ absurd (true≢false (sym (s.from u k on) ∙ gone))
      | inr none ↦ none
    ]
