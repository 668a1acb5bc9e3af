-- What becomes of a line, by what is due.
use Rattle.std.proofs.Common.{◌≡◌, ◌≢◌, ℕ, suc, List, Some, None, IsFalse, true, false, refl, sym, ◌∙◌, ap, subst}
use Rattle.std.specs.Prelude.{codes, nat_lt}
use Rattle.graph_spec.specs.declared.limits.Limits.{Limits}
use Rattle.path_query.specs.Labels.{SpellsLabel}
use Rattle.index_api.specs.declared.kinds.Via.{Via}
use Rattle.index_file.specs.declared.due.Due.{Due}
use Rattle.index_file.specs.declared.due.Due.TheVariants.{Title, Allocated, Nodes, EdgesLeft, Ranks}
use Rattle.index_file.specs.Statements.{Statement, title, allocated, live, gone, edges, edge, views, view, rank, Says, HasPrefix, AreNumbers, IsNumber, NamesIndex}
use Rattle.index_file.specs.Readings.{Reading, step, exceeds_at, take_allocated, take_edge, take_view, take_rank}
use Rattle.index_file.specs.Reads.{IsTaken, ExceedsAt, IsWrong}

-- the same as `IsWrong`, where this is due
abbrev WrongAt : Limits → List ℕ → Reading → Due → Type 0
WrongAt limits line r d = (s : Statement) → Says line s → IsFalse (exceeds_at limits d s r) × (step d s r ≡ None)

at_title : (limits : Limits) (line : List ℕ) (r : Reading) → (line ≢ codes "pathindex 1") → WrongAt limits line r Title
at_title limits line r bad title says = absurd (bad says)
at_title limits line r bad (allocated n k) says = (refl, refl)
at_title limits line r bad (live t) says = (refl, refl)
at_title limits line r bad gone says = (refl, refl)
at_title limits line r bad (edges m) says = (refl, refl)
at_title limits line r bad (edge u v) says = (refl, refl)
at_title limits line r bad (views n) says = (refl, refl)
at_title limits line r bad (view via) says = (refl, refl)
at_title limits line r bad (rank x) says = (refl, refl)

pub wrong_title : (limits : Limits) (line : List ℕ) (r : Reading) → r.due ≡ Title → (line ≢ codes "pathindex 1") → IsWrong limits line r
wrong_title limits line r due bad = subst (λ d. WrongAt limits line r d) (sym due) (at_title limits line r bad)

at_given : (limits : Limits) (line : List ℕ) (r : Reading) → ((n k : ℕ) → HasPrefix (codes "given ") line (λ rest. AreNumbers (codes " k ") rest n k) → IsFalse (nat_lt limits.nodes n) × (take_allocated n k r ≡ None)) → WrongAt limits line r Allocated
at_given limits line r bad title says = (refl, refl)
at_given limits line r bad (allocated n k) says = bad n k says
at_given limits line r bad (live t) says = (refl, refl)
at_given limits line r bad gone says = (refl, refl)
at_given limits line r bad (edges m) says = (refl, refl)
at_given limits line r bad (edge u v) says = (refl, refl)
at_given limits line r bad (views n) says = (refl, refl)
at_given limits line r bad (view via) says = (refl, refl)
at_given limits line r bad (rank x) says = (refl, refl)

pub wrong_given : (limits : Limits) (line : List ℕ) (r : Reading) → r.due ≡ Allocated → ((n k : ℕ) → HasPrefix (codes "given ") line (λ rest. AreNumbers (codes " k ") rest n k) → IsFalse (nat_lt limits.nodes n) × (take_allocated n k r ≡ None)) → IsWrong limits line r
wrong_given limits line r due bad = subst (λ d. WrongAt limits line r d) (sym due) (at_given limits line r bad)

at_node : (limits : Limits) (line : List ℕ) (r : Reading) (left : ℕ) → ((t : List ℕ) → HasPrefix (codes "live ") line (λ word. SpellsLabel word t) → ⊥) → (line ≢ codes "gone") → WrongAt limits line r (Nodes (suc left))
at_node limits line r left dead bad title says = (refl, refl)
at_node limits line r left dead bad (allocated n k) says = (refl, refl)
at_node limits line r left dead bad (live t) says = absurd (dead t says)
at_node limits line r left dead bad gone says = absurd (bad says)
at_node limits line r left dead bad (edges m) says = (refl, refl)
at_node limits line r left dead bad (edge u v) says = (refl, refl)
at_node limits line r left dead bad (views n) says = (refl, refl)
at_node limits line r left dead bad (view via) says = (refl, refl)
at_node limits line r left dead bad (rank x) says = (refl, refl)

pub wrong_node : (limits : Limits) (line : List ℕ) (r : Reading) (left : ℕ) → r.due ≡ (Nodes (suc left)) → ((t : List ℕ) → HasPrefix (codes "live ") line (λ word. SpellsLabel word t) → ⊥) → (line ≢ codes "gone") → IsWrong limits line r
wrong_node limits line r left due dead bad = subst (λ d. WrongAt limits line r d) (sym due) (at_node limits line r left dead bad)

at_edge_count : (limits : Limits) (line : List ℕ) (r : Reading) → ((m : ℕ) → HasPrefix (codes "edges ") line (λ digits. IsNumber digits m) → ⊥) → WrongAt limits line r (Nodes 0)
at_edge_count limits line r bad title says = (refl, refl)
at_edge_count limits line r bad (allocated n k) says = (refl, refl)
at_edge_count limits line r bad (live t) says = (refl, refl)
at_edge_count limits line r bad gone says = (refl, refl)
at_edge_count limits line r bad (edges m) says = absurd (bad m says)
at_edge_count limits line r bad (edge u v) says = (refl, refl)
at_edge_count limits line r bad (views n) says = (refl, refl)
at_edge_count limits line r bad (view via) says = (refl, refl)
at_edge_count limits line r bad (rank x) says = (refl, refl)

pub wrong_edge_count : (limits : Limits) (line : List ℕ) (r : Reading) → r.due ≡ (Nodes 0) → ((m : ℕ) → HasPrefix (codes "edges ") line (λ digits. IsNumber digits m) → ⊥) → IsWrong limits line r
wrong_edge_count limits line r due bad = subst (λ d. WrongAt limits line r d) (sym due) (at_edge_count limits line r bad)

at_edge : (limits : Limits) (line : List ℕ) (r : Reading) (left : ℕ) → ((u v : ℕ) → AreNumbers (codes " ") line u v → take_edge left u v r ≡ None) → WrongAt limits line r (EdgesLeft (suc left))
at_edge limits line r left bad title says = (refl, refl)
at_edge limits line r left bad (allocated n k) says = (refl, refl)
at_edge limits line r left bad (live t) says = (refl, refl)
at_edge limits line r left bad gone says = (refl, refl)
at_edge limits line r left bad (edges m) says = (refl, refl)
at_edge limits line r left bad (edge u v) says = (refl, bad u v says)
at_edge limits line r left bad (views n) says = (refl, refl)
at_edge limits line r left bad (view via) says = (refl, refl)
at_edge limits line r left bad (rank x) says = (refl, refl)

pub wrong_edge : (limits : Limits) (line : List ℕ) (r : Reading) (left : ℕ) → r.due ≡ (EdgesLeft (suc left)) → ((u v : ℕ) → AreNumbers (codes " ") line u v → take_edge left u v r ≡ None) → IsWrong limits line r
wrong_edge limits line r left due bad = subst (λ d. WrongAt limits line r d) (sym due) (at_edge limits line r left bad)

at_view_count : (limits : Limits) (line : List ℕ) (r : Reading) → ((n : ℕ) → HasPrefix (codes "views ") line (λ digits. IsNumber digits n) → ⊥) → WrongAt limits line r (EdgesLeft 0)
at_view_count limits line r bad title says = (refl, refl)
at_view_count limits line r bad (allocated n k) says = (refl, refl)
at_view_count limits line r bad (live t) says = (refl, refl)
at_view_count limits line r bad gone says = (refl, refl)
at_view_count limits line r bad (edges m) says = (refl, refl)
at_view_count limits line r bad (edge u v) says = (refl, refl)
at_view_count limits line r bad (views n) says = absurd (bad n says)
at_view_count limits line r bad (view via) says = (refl, refl)
at_view_count limits line r bad (rank x) says = (refl, refl)

pub wrong_view_count : (limits : Limits) (line : List ℕ) (r : Reading) → r.due ≡ (EdgesLeft 0) → ((n : ℕ) → HasPrefix (codes "views ") line (λ digits. IsNumber digits n) → ⊥) → IsWrong limits line r
wrong_view_count limits line r due bad = subst (λ d. WrongAt limits line r d) (sym due) (at_view_count limits line r bad)

at_view : (limits : Limits) (line : List ℕ) (r : Reading) (count : ℕ) → ((via : Via) → HasPrefix (codes "view ") line (λ word. NamesIndex word via) → take_view count via r ≡ None) → WrongAt limits line r (Ranks 0 count)
at_view limits line r count bad title says = (refl, refl)
at_view limits line r count bad (allocated n k) says = (refl, refl)
at_view limits line r count bad (live t) says = (refl, refl)
at_view limits line r count bad gone says = (refl, refl)
at_view limits line r count bad (edges m) says = (refl, refl)
at_view limits line r count bad (edge u v) says = (refl, refl)
at_view limits line r count bad (views n) says = (refl, refl)
at_view limits line r count bad (view via) says = (refl, bad via says)
at_view limits line r count bad (rank x) says = (refl, refl)

pub wrong_view : (limits : Limits) (line : List ℕ) (r : Reading) (count : ℕ) → r.due ≡ (Ranks 0 count) → ((via : Via) → HasPrefix (codes "view ") line (λ word. NamesIndex word via) → take_view count via r ≡ None) → IsWrong limits line r
wrong_view limits line r count due bad = subst (λ d. WrongAt limits line r d) (sym due) (at_view limits line r count bad)

at_rank : (limits : Limits) (line : List ℕ) (r : Reading) (left : ℕ) (count : ℕ) → ((x : ℕ) → IsNumber line x → take_rank left count x r ≡ None) → WrongAt limits line r (Ranks (suc left) count)
at_rank limits line r left count bad title says = (refl, refl)
at_rank limits line r left count bad (allocated n k) says = (refl, refl)
at_rank limits line r left count bad (live t) says = (refl, refl)
at_rank limits line r left count bad gone says = (refl, refl)
at_rank limits line r left count bad (edges m) says = (refl, refl)
at_rank limits line r left count bad (edge u v) says = (refl, refl)
at_rank limits line r left count bad (views n) says = (refl, refl)
at_rank limits line r left count bad (view via) says = (refl, refl)
at_rank limits line r left count bad (rank x) says = (refl, bad x says)

pub wrong_rank : (limits : Limits) (line : List ℕ) (r : Reading) (left : ℕ) (count : ℕ) → r.due ≡ (Ranks (suc left) count) → ((x : ℕ) → IsNumber line x → take_rank left count x r ≡ None) → IsWrong limits line r
wrong_rank limits line r left count due bad = subst (λ d. WrongAt limits line r d) (sym due) (at_rank limits line r left count bad)

-- a line that is taken, and one that passes a limit, where this is due
pub taken_at : (limits : Limits) (line : List ℕ) (old new : Reading) (d : Due) (s : Statement) → old.due ≡ d → Says line s → exceeds_at limits d s old ≡ false
    → step d s old ≡ Some new → IsTaken limits line old new
taken_at limits line old new d s due says within next = record {
  statement = s;
  says = says;
  within = ap (λ e. exceeds_at limits e s old) due ∙ within;
  next = ap (λ e. step e s old) due ∙ next;
}

pub over_at : (limits : Limits) (line : List ℕ) (old : Reading) (d : Due) (s : Statement) → old.due ≡ d → Says line s → exceeds_at limits d s old ≡ true → ExceedsAt limits line old
over_at limits line old d s due says over = record {
  statement = s;
  says = says;
  over = ap (λ e. exceeds_at limits e s old) due ∙ over;
}
