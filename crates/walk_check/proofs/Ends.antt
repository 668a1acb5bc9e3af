-- The end of a walk is a node.
use Rattle.std.proofs.Common.{◌≡◌, ℕ, zero, suc, ◌+◌, ◌<◌, ◌≤◌, List, [], ◌∷◌, length, map, drop, get_or, refl, sym, ap, ◌∙◌, arith, Option, Some, None, true≢false}
use Rattle.std.specs.Prelude.{slice_get, option_and_then, is_some, IsSome}
use Rattle.graph_spec.specs.Shapes.{Shape}
use Rattle.path_spec.specs.Matches.{Word}
use Rattle.path_spec.specs.Trees.{Expr}
use Rattle.walk_spec.specs.LeastWalks.{EndIn, Shows}

end_labelled : (s : Shape) (v : ℕ) (nodes : List ℕ) (w : Word) → map s.label nodes ≡ map Some w → EndIn nodes v → (t : List ℕ) × (s.label v ≡ Some t)
end_labelled s v [] w h e = absurd e
end_labelled s v (u ∷ []) [] h e = absurd (cc)
end_labelled s v (u ∷ []) (t ∷ w) h e = let k : s.label u ≡ Some t = cc in (t, ap s.label (sym e) ∙ k)
end_labelled s v (u ∷ c ∷ nodes) [] h e = absurd (cc)
end_labelled s v (u ∷ c ∷ nodes) (t ∷ w) h e = let m : map s.label (c ∷ nodes) ≡ map Some w = cc in end_labelled s v (c ∷ nodes) w m e

has_number : (texts : List (List ℕ)) (o : Option ℕ) (t : List ℕ) → option_and_then (λ l. slice_get texts l) o ≡ Some t → IsSome o
has_number texts None t h = cc
has_number texts (Some l) t h = refl

-- the end of a walk is a node
pub end_node : (texts : List (List ℕ)) (label_at : ℕ → Option ℕ) (s : Shape) (e : Expr) (v : ℕ) (nodes : List ℕ) → s.label v ≡ option_and_then (λ l. slice_get texts l) (label_at v)
    → Shows s e v nodes → IsSome (label_at v)
end_node texts label_at s e v nodes same h = let k = end_labelled s v nodes h.word h.labels h.end in has_number texts (label_at v) k.0 (sym same ∙ k.1)
