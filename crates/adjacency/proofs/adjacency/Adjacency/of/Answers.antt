use Rattle.std.proofs.Common.{length, sym, ap, ◌∙◌, subst}
use Rattle.std.proofs.lemmas.List.{length-replicate}
use Rattle.adjacency.specs.Rows.{rows_of}
use Rattle.adjacency.specs.Targets.{targets_of, from_own, BeginBelow, AreStarts}
use Rattle.adjacency.proofs.RowLaws.{rows_filled, ends_filled}
use Rattle.adjacency.proofs.adjacency.Adjacency.of.Goals as goal

pub fill-requires-clause-below : goal.fill-requires-clause-below
fill-requires-clause-below c = subst (λ n. BeginBelow n (from_own c.args.side c.args.edges.now)) (sym c.in_ok-ends.ensures.all) c.requires.below

pub fill-requires-clause-starts : goal.fill-requires-clause-starts
fill-requires-clause-starts c = subst (λ n. AreStarts (from_own c.args.side c.args.edges.now) n c.in_ok-ends.ends.items) (sym c.in_ok-ends.ensures.all) c.in_ok-ends.ensures

pub fill-requires-clause-sized : goal.fill-requires-clause-sized
fill-requires-clause-sized c = ap length (c.in_ok-items.ensures.items_if_clones_equal (λ y h. h)) ∙ length-replicate (length c.args.edges.now) 0

pub returns : goal.returns
returns c =
    let es = from_own c.args.side c.args.edges.now in
    rows_filled es c.fill.new.items.items (length c.in_ok-ends.ends.items) c.fill.new.places.items c.fill.ensures ∙ ap (rows_of (targets_of es) 0) c.in_ok-ends.ensures.all

pub invariant_of-result : goal.invariant_of-result
invariant_of-result c = ends_filled (from_own c.args.side c.args.edges.now) c.fill.new.items.items (length c.in_ok-ends.ends.items) c.fill.new.places.items c.fill.ensures
