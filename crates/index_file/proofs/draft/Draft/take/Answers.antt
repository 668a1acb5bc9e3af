use Rattle.std.proofs.Common.{ap, sym, ◌∙◌}
use Rattle.index_file.specs.Readings.{Reading}
use Rattle.index_file.proofs.draft.Draft.take.Goals as goal

pub take_title-requires : goal.take_title-requires
take_title-requires c = record { due = ap (λ (r : Reading). r.due) (sym c.self.view_is) ∙ c.in-Title.is }

pub take_allocated-requires : goal.take_allocated-requires
take_allocated-requires c = record { due = ap (λ (r : Reading). r.due) (sym c.self.view_is) ∙ c.in-Allocated.is }

pub take_behind_nodes-requires : goal.take_behind_nodes-requires
take_behind_nodes-requires c = record { due = ap (λ (r : Reading). r.due) (sym c.self.view_is) ∙ c.in-Nodes.is }

pub take_behind_edges-requires : goal.take_behind_edges-requires
take_behind_edges-requires c = record { due = ap (λ (r : Reading). r.due) (sym c.self.view_is) ∙ c.in-EdgesLeft.is }

pub take_behind_ranks-requires : goal.take_behind_ranks-requires
take_behind_ranks-requires c = record { due = ap (λ (r : Reading). r.due) (sym c.self.view_is) ∙ c.in-Ranks.is }
