-- The label that was reserved last.
use Rattle.std.proofs.Common.{◌≡◌, ◌∙◌, ap, refl, true, List, ℕ, ◌∷◌, ◌++◌, []}
use Rattle.graph_spec.specs.Graphs.{is_seen}
use Rattle.std.specs.Prelude.{bytes_eq, ◌||◌}
use Rattle.std.specs.List.{list_any}
use Rattle.std.proofs.Math.Bool.{or-true}
use Rattle.std.proofs.lemmas.List.Folds.{list_any-append}
use Rattle.std.proofs.lemmas.Slice.Eq.{bytes_eq-Decides}

pub has_last : (texts : List (List ℕ)) (t : List ℕ) → is_seen (texts ++ t ∷ []) t ≡ true
has_last texts t =
    list_any-append (bytes_eq t) texts (t ∷ [])
    ∙ ap (λ b. list_any (bytes_eq t) texts || (b || list_any (bytes_eq t) [])) ((bytes_eq-Decides t t).1 refl) ∙ or-true (list_any (bytes_eq t) texts)
