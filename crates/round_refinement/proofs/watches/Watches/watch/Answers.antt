use Rattle.std.proofs.Common.{◌∙◌, ap}
use Rattle.std.proofs.lemmas.List.{with_items_is}
use Rattle.std.specs.Vec.{with_items}
use Rattle.round_refinement.specs.Active.{mark_in}
use Rattle.round_refinement.proofs.WatchLaws.{watched_more}
use Rattle.round_refinement.proofs.watches.Watches.watch.Goals as goal

pub returns : goal.returns
returns g c =
    watched_more (g.G.Digraph.edge c.args.g.now) c.args.block.now c.args.self.now
    (record { places = c.put_nodes-2.new.self; watched = with_items c.make_marks.new.marks c.mark.new.marks; neighbours = c.saturating_add-self.result; passed = c.args.self.now.passed }) c.put_nodes.new.self c.args.n
    c.neighbours-parents.result.now c.neighbours-children.result.now c.requires.watched c.neighbours-parents.ensures c.neighbours-children.ensures c.in_ok-put_nodes.ensures
    c.in_ok-put_nodes-2.ensures (λ m apart. ap (λ marks. mark_in marks m) (with_items_is c.make_marks.new.marks c.mark.new.marks (c.mark.auto.marks ∙ c.deref_mut.ensures.len)) ∙ c.mark.ensures m apart ∙ ap (λ marks. mark_in marks m) c.deref_mut.ensures.value ∙ c.in_ok-make_marks.ensures m)
