-- Labels by their numbers and by their texts.
use Rattle.std.proofs.Common.{◌≡◌, ◌∙◌, ◌<◌, ℕ, Bool, List, [], length, sym, ap, Option, Some}
use Rattle.std.specs.Prelude.{slice_get, option_and_then, is_some, IsSome, bytes_eq}
use Rattle.std.specs.List.{IsDistinct, position}
use Rattle.std.proofs.lemmas.Option.{slice_get-get_or}
use Rattle.graph_spec.specs.Shapes.{shape_by}
use Rattle.path_expr.proofs.LabelNumbers.{number_is}
use Rattle.path_expr.proofs.ProductSearch.{some_is}
use Rattle.branch_spec.specs.Trees as tree
use Rattle.branch_spec.specs.BranchAnswers.{Passes}

pub number_of : (texts : List (List ℕ)) (t : List ℕ) (o : Option ℕ) → IsDistinct bytes_eq texts → IsSome o → option_and_then (λ l. slice_get texts l) o ≡ Some t → o ≡ position (bytes_eq t) texts
number_of texts t o d some e =
    let l = some_is o some in
    l.1 ∙ sym (number_is t texts l.0 d (sym (ap (λ x. option_and_then (λ l. slice_get texts l) x) l.1) ∙ e))

-- a node's label has a text
pub label_text : (texts : List (List ℕ)) (o : Option ℕ) → ((l : ℕ) → o ≡ Some l → l < length texts) → IsSome o → IsSome (option_and_then (λ l. slice_get texts l) o)
label_text texts o known some =
    let l = some_is o some in
    ap (λ x. is_some (option_and_then (λ n. slice_get texts n) x)) l.1 ∙ ap is_some (slice_get-get_or texts l.0 [] (known l.0 l.1))

-- whatever the edges are
pub passes_by : (texts : List (List ℕ)) (size : ℕ) (label_at : ℕ → Option ℕ) (e f : ℕ → ℕ → Bool) (t : tree.Test) (v : ℕ) → Passes (shape_by texts size label_at e) t v
    → Passes (shape_by texts size label_at f) t v
passes_by texts size label_at e f (tree.label t) v h = h
passes_by texts size label_at e f tree.any v h = h
