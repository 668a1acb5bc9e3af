-- The nodes that walks show are the answers.
use Rattle.std.proofs.Common.{◌≡◌, ℕ, List, [], ◌∷◌, map, Some, ap}
use Rattle.graph_spec.specs.Shapes.{Shape}
use Rattle.graph_spec.specs.Walks.{Leads}
use Rattle.path_spec.specs.Trees.{Expr}
use Rattle.path_spec.specs.Matches.{Word, Matches}
use Rattle.path_spec.specs.PathAnswers.{IsAnswer}
use Rattle.walk_spec.specs.LeastWalks.{AreLinked, EndIn, Shows}

leads_by : (s : Shape) (v : ℕ) (nodes : List ℕ) (u : ℕ) (t : List ℕ) (w : Word) → map s.label (u ∷ nodes) ≡ map Some (t ∷ w) → AreLinked s (u ∷ nodes) → EndIn (u ∷ nodes) v
    → Leads s u (t ∷ w) v
leads_by s v [] u t [] h l e = let k : s.label u ≡ Some t = cc in (k, e)
leads_by s v [] u t (r ∷ w) h l e = absurd (cc)
leads_by s v (c ∷ nodes) u t [] h l e = absurd (cc)
leads_by s v (c ∷ nodes) u t (r ∷ w) h l e =
    let k : s.label u ≡ Some t = cc in
    let m : map s.label (c ∷ nodes) ≡ map Some (r ∷ w) = cc in
    (k, c, l.0, leads_by s v nodes c r w m l.1 e)

-- a node that a walk shows is an answer
pub shown_answers : (s : Shape) (e : Expr) (v : ℕ) (nodes : List ℕ) → Shows s e v nodes → IsAnswer s e v
shown_answers s e v [] h = absurd (h.end)
shown_answers s e v (u ∷ nodes) h = by h.word h.labels h.matches
  where
    by : (w : Word) → map s.label (u ∷ nodes) ≡ map Some w → Matches e w → IsAnswer s e v
    by [] m k = absurd (cc)
    by (t ∷ w) m k = (t ∷ w, k, u, leads_by s v nodes u t w m h.linked h.end)

record Walked (s : Shape) (v u : ℕ) (w : Word) : Type 0 where
  nodes : List ℕ
  labels : map s.label (u ∷ nodes) ≡ map Some w
  linked : AreLinked s (u ∷ nodes)
  end : EndIn (u ∷ nodes) v

walked : (s : Shape) (v : ℕ) (w : Word) (u : ℕ) → Leads s u w v → Walked s v u w
walked s v [] u h = absurd h
walked s v (t ∷ []) u h = record { nodes = []; labels = ap (λ o. o ∷ []) h.0; linked = tt; end = h.1 }
walked s v (t ∷ r ∷ w) u h =
    let k = walked s v (r ∷ w) h.1 h.3 in
    record {
      nodes = h.1 ∷ k.nodes;
      labels = λ i. (h.0 i) ∷ (k.labels i);
      linked = (h.2, k.linked);
      end = k.end;
    }

-- and each answer is shown by a walk
pub answer_shown : (s : Shape) (e : Expr) (v : ℕ) → IsAnswer s e v → (nodes : List ℕ) × Shows s e v nodes
answer_shown s e v h =
    let k = walked s v h.0 h.2 h.3 in
    (h.2 ∷ k.nodes, record { word = h.0; labels = k.labels; linked = k.linked; end = k.end; matches = h.1 })
