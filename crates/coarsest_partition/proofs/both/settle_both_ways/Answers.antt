use Rattle.coarsest_partition.proofs.both.settle_both_ways.Goals as goal

pub settle_active-requires : goal.settle_active-requires
settle_active-requires c = record {
  start = record {
    graph = c.in_ok-parents.ensures.graph;
    labels = c.requires.labels;
    parents_are = c.in_ok-parents.ensures.nodes;
    children_are = c.in_ok-children.ensures.nodes;
    parents_size = c.in_ok-parents.ensures.size;
    children_size = c.in_ok-children.ensures.size;
    by_parents = c.in_ok-parents.ensures.all;
    by_children = c.in_ok-children.ensures.all;
  };
}
