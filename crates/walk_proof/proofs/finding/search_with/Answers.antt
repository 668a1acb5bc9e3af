use Rattle.std.proofs.Common.{◌≡◌, ◌∙◌, ℕ, sym, subst, true≢false}
use Rattle.std.specs.Prelude.{slice_get}
use Rattle.graph_spec.specs.Members.{has}
use Rattle.walk_proof.specs.Marking.{row}
use Rattle.walk_proof.proofs.LayerLaws.{none_read}
use Rattle.walk_proof.proofs.finding.search_with.Goals as goal

pub returns-then-not-is_marked : goal.returns-then-not-is_marked
returns-then-not-is_marked g c =
    let at = λ (k : ℕ). slice_get c.args.program.now k in
    let size = g.G.Digraph.span c.args.g.now in
    let start = c.args.start in
    let rows = c.layers_to.new.rows.items in
    let is = c.in_ok-layers.ensures in
    let told = subst (λ n. c.is_marked.result ≡ has (row rows start).members n) c.size.ensures
    (subst (λ r. c.is_marked.result ≡ has (row r start).members c.size.result) c.deref.ensures.value c.is_marked.ensures) in
    none_read at size (g.G.Digraph.label_at c.args.g.now) (g.G.Digraph.edge c.args.g.now) c.args.end c.in_ok-layers.layers.items rows is.layered start size
    (λ m. true≢false (sym m ∙ sym told ∙ c.if-not-is_marked.true)) is.end
