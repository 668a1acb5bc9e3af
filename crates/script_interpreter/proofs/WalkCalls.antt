-- What `why` and `check` print, and that they leave the state.
use Rattle.std.proofs.Common.{◌≡◌, ℕ, suc, ◌-◌, Bool, true, false, List, [], ◌∷◌, length, Some, None, refl, sym, ap, ◌∙◌, subst, arith, IsTrue}
use Rattle.std.specs.Prelude.{◌↔◌, slice_get}
use Rattle.graph_spec.specs.declared.refusal.Refusal.TheVariants.{NoNode}
use Rattle.graph_spec.specs.Graphs.{Graph, is_live}
use Rattle.graph_spec.specs.Shapes.{Shape, shape_of}
use Rattle.path_spec.specs.Trees.{Expr}
use Rattle.path_spec.specs.PathAnswers.{IsAnswer}
use Rattle.walk_spec.specs.LeastWalks.{EndIn, Shows, IsLeast}
use Rattle.extent_report.specs.PrintedAnswers.{walk_text}
use Rattle.script_read.specs.Commands.{why, check}
use Rattle.script_interpreter.specs.LineTexts.{refused_line, none_line, yes_line, no_line}
use Rattle.script_interpreter.specs.Outputs.{Gathered, with_printed}
use Rattle.script_interpreter.specs.States.{State}
use Rattle.script_interpreter.specs.Walks.{ShowsWhy, shown, unanswered, not_live, ShowsLast, ShowsCheck, right, wrong}
use Rattle.script_interpreter.specs.Runs.{explains, checks}
use Rattle.script_interpreter.specs.RunSteps.{Obeyed}

why_obeyed : (s : State) (v : ℕ) (e : Expr) (text : List ℕ) (refuses : Bool) (old new : Gathered) → ShowsWhy s v e text refuses → new ≡ with_printed old text refuses → Obeyed s (why v e) old s new
why_obeyed s v e text refuses old new h g = record { printed = text; refuses = refuses; obeys = explains v e text refuses h; gathered_is = g }

-- the least walk of the graph
pub walk_obeyed : (g : Graph) (v : ℕ) (e : Expr) (nodes : List ℕ) (old new : Gathered) → IsLeast (shape_of g) e v nodes → new ≡ with_printed old (walk_text nodes) false
    → (s : State) → s.graph ≡ g → Obeyed s (why v e) old s new
walk_obeyed g v e nodes old new least is s same =
    why_obeyed s v e (walk_text nodes) false old new (shown nodes (subst (λ h. IsLeast (shape_of h) e v nodes) (sym same) least)) is

-- the node is live, and no answer
pub none_obeyed : (g : Graph) (v : ℕ) (e : Expr) (old new : Gathered) → IsTrue (is_live g v) → ¬ IsAnswer (shape_of g) e v → new ≡ with_printed old none_line false
    → (s : State) → s.graph ≡ g → Obeyed s (why v e) old s new
none_obeyed g v e old new live none is s same =
    why_obeyed s v e none_line false old new
    (unanswered (subst (λ h. IsTrue (is_live h v)) (sym same) live) (subst (λ h. ¬ IsAnswer (shape_of h) e v) (sym same) none)) is

-- the node isn't live
pub dead_obeyed : (s : State) (v : ℕ) (e : Expr) (old new : Gathered) → is_live s.graph v ≡ false → new ≡ with_printed old (refused_line NoNode) true → Obeyed s (why v e) old s new
dead_obeyed s v e old new dead is = why_obeyed s v e (refused_line NoNode) true old new (not_live dead) is

check_obeyed : (s : State) (nodes : List ℕ) (e : Expr) (text : List ℕ) (old new : Gathered) → ShowsCheck s nodes e text → new ≡ with_printed old text false → Obeyed s (check nodes e) old s new
check_obeyed s nodes e text old new h g = record { printed = text; refuses = false; obeys = checks nodes e text h; gathered_is = g }

pub yes_obeyed : (s : State) (g : Graph) (nodes : List ℕ) (e : Expr) (old new : Gathered) → s.graph ≡ g → ShowsLast (shape_of g) e nodes → new ≡ with_printed old yes_line false → Obeyed s (check nodes e) old s new
yes_obeyed s g nodes e old new same h is = check_obeyed s nodes e yes_line old new (right (subst (λ x. ShowsLast (shape_of x) e nodes) (sym same) h)) is

pub no_obeyed : (s : State) (g : Graph) (nodes : List ℕ) (e : Expr) (old new : Gathered) → s.graph ≡ g → ¬ ShowsLast (shape_of g) e nodes → new ≡ with_printed old no_line false → Obeyed s (check nodes e) old s new
no_obeyed s g nodes e old new same h is = check_obeyed s nodes e no_line old new (wrong (subst (λ x. ¬ ShowsLast (shape_of x) e nodes) (sym same) h)) is

-- nodes end in the last of them
end_is : (nodes : List ℕ) (v d : ℕ) → EndIn nodes v → Some d ≡ slice_get nodes (length nodes - 1) → v ≡ d
end_is [] v d h e = absurd h
end_is (u ∷ []) v d h e = (let same : d ≡ u = cc in sym h ∙ sym same)
end_is (u ∷ c ∷ nodes) v d h e =
    let next : length (u ∷ c ∷ nodes) - 1 ≡ suc (length (c ∷ nodes) - 1) = omega arith in
    end_is (c ∷ nodes) v d h (e ∙ ap (slice_get (u ∷ c ∷ nodes)) next)

pub shows_last : (s : Shape) (e : Expr) (nodes : List ℕ) (d : ℕ) (b : Bool) → Some d ≡ slice_get nodes (length nodes - 1) → IsTrue b ↔ Shows s e d nodes → IsTrue b ↔ ShowsLast s e nodes
shows_last s e nodes d b last h = (λ t. (d, h.0 t), λ x. h.1 (subst (λ v. Shows s e v nodes) (end_is nodes x.0 d x.1.end last) x.1))

pub none_last : (xs : List ℕ) → None ≡ slice_get xs (length xs - 1) → xs ≡ []
none_last [] e = refl
none_last (x ∷ []) e = cc
none_last (x ∷ y ∷ xs) e =
    let next : length (x ∷ y ∷ xs) - 1 ≡ suc (length (y ∷ xs) - 1) = omega arith in
    let none : y ∷ xs ≡ [] = none_last (y ∷ xs) (e ∙ ap (slice_get (x ∷ y ∷ xs)) next) in
    cc

pub shows_none : (s : Shape) (e : Expr) (nodes : List ℕ) → nodes ≡ [] → ¬ ShowsLast s e nodes
shows_none s e nodes n x = subst (λ ns. EndIn ns x.0) n x.1.end
