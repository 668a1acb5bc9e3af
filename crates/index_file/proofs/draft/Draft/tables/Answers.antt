use Rattle.std.proofs.Common.{◌≡◌, length, sym, ap, subst, ◌∙◌, arith}
use Rattle.bisim_spec.specs.declared.sides.Side.TheVariants.{Parents, Children}
use Rattle.adjacency.specs.Rows.{rows_of}
use Rattle.adjacency.specs.Targets.{targets_of, from_own, BeginBelow}
use Rattle.index_file.specs.Readings.{Reading, is_complete, file_of}
use Rattle.index_file.specs.SavedGraphs.{IsSaved, saved_file}
use Rattle.index_file.proofs.SavedLaws.{children_below, parents_below, read_saved, read_file}
use Rattle.index_file.proofs.draft.Draft.tables.Goals as goal

pub places-requires : goal.places-requires
places-requires c = (let few = c.self.invariant.few_nodes in record { few = omega (arith, few) })

pub to_u32-size-requires : goal.to_u32-size-requires
to_u32-size-requires c = (let few = c.self.invariant.few_nodes in let count = c.len.ensures in omega (arith, few, count))

pub of-requires-clause-few : goal.of-requires-clause-few
of-requires-clause-few c = (let few = c.self.invariant.few_edges in let same = ap length c.deref.ensures.value in omega (arith, few, same))

pub of-requires-clause-below : goal.of-requires-clause-below
of-requires-clause-below c =
    let s = c.self.inside in
    let size = c.to_u32-size.ensures ∙ c.len.ensures in
    subst (λ ps. BeginBelow c.to_u32-size.result (from_own Children ps)) (sym c.deref.ensures.value)
    (subst (λ n. BeginBelow n (from_own Children s.pairs.items)) (sym size) (children_below s.nodes s.pairs.items c.self.invariant.edges.live))

pub of-requires-2-clause-few : goal.of-requires-2-clause-few
of-requires-2-clause-few c = (let few = c.self.invariant.few_edges in let same = ap length c.deref-2.ensures.value in omega (arith, few, same))

pub of-requires-2-clause-below : goal.of-requires-2-clause-below
of-requires-2-clause-below c =
    let s = c.self.inside in
    let size = c.to_u32-size.ensures ∙ c.len.ensures in
    subst (λ ps. BeginBelow c.to_u32-size.result (from_own Parents ps)) (sym c.deref-2.ensures.value)
    (subst (λ n. BeginBelow n (from_own Parents s.pairs.items)) (sym size) (parents_below s.nodes s.pairs.items c.self.invariant.edges.live))

pub returns-clause-saved : goal.returns-clause-saved
returns-clause-saved c =
    let s = c.self.inside in
    let size = c.to_u32-size.ensures ∙ c.len.ensures in
    let children =
    c.in_ok-children.ensures ∙ ap (λ ps. rows_of (targets_of (from_own Children ps)) 0 c.to_u32-size.result) c.deref.ensures.value
    ∙ ap (rows_of (targets_of (from_own Children s.pairs.items)) 0) size in
    let parents =
    c.in_ok-parents.ensures ∙ ap (λ ps. rows_of (targets_of (from_own Parents ps)) 0 c.to_u32-size.result) c.deref-2.ensures.value
    ∙ ap (rows_of (targets_of (from_own Parents s.pairs.items)) 0) size in
    subst (λ (r : Reading). IsSaved r.allocated c.in_ok-children.children c.in_ok-parents.parents r.views c.in_ok-places.places.items) c.self.view_is
    (read_saved (record { due = s.due; k = s.k; allocated = s.nodes; pairs = s.pairs.items; views = s.views }) c.self.invariant (ap is_complete c.self.view_is ∙ c.requires)
    c.in_ok-children.children c.in_ok-parents.parents c.in_ok-places.places.items children parents c.in_ok-places.ensures)

pub returns-clause-file : goal.returns-clause-file
returns-clause-file c =
    let s = c.self.inside in
    let size = c.to_u32-size.ensures ∙ c.len.ensures in
    let children =
    c.in_ok-children.ensures ∙ ap (λ ps. rows_of (targets_of (from_own Children ps)) 0 c.to_u32-size.result) c.deref.ensures.value
    ∙ ap (rows_of (targets_of (from_own Children s.pairs.items)) 0) size in
    let parents =
    c.in_ok-parents.ensures ∙ ap (λ ps. rows_of (targets_of (from_own Parents ps)) 0 c.to_u32-size.result) c.deref-2.ensures.value
    ∙ ap (rows_of (targets_of (from_own Parents s.pairs.items)) 0) size in
    subst (λ (r : Reading). saved_file r.allocated c.in_ok-children.children r.k r.views ≡ file_of r) c.self.view_is
    (read_file (record { due = s.due; k = s.k; allocated = s.nodes; pairs = s.pairs.items; views = s.views }) c.self.invariant (ap is_complete c.self.view_is ∙ c.requires)
    c.in_ok-children.children c.in_ok-parents.parents c.in_ok-places.places.items children parents)
