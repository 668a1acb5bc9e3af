use Rattle.std.proofs.Common.{arith, ◌∙◌, sym, inl, inr, length, nat_eq}
use Rattle.std.specs.Prelude.{◌&&◌}
use Rattle.std.proofs.lemmas.Bool.{and_parts}
use Rattle.block_partition.specs.LabelledPartitions.{block_count}
use Rattle.coarsest_partition.proofs.StepLaws.{start, step, fb_target, fb_part, fb_end}
use Rattle.coarsest_partition.proofs.BothLaws.{two_all, two_none, turned}
use Rattle.coarsest_partition.proofs.RoundLaws.{falls, length_empty}
use Rattle.coarsest_partition.proofs.both.take_turns.Goals as goal

pub rounds-init : goal.rounds-init
rounds-init c = record {
  refined = start _ _ _ _ _ (fb_target _ c.requires.start.graph) c.requires.start.labels (λ t k n h. two_all _ _ t n (c.requires.start.by_parents n h) (c.requires.start.by_children n h));
  parents_are = c.requires.start.parents_are;
  children_are = c.requires.start.children_are;
  parents_size = c.requires.start.parents_size;
  children_size = c.requires.start.children_size;
  labelled = λ h. h;
  inhabited = λ h. h;
  reserved = c.requires.reserved;
}

pub round_on-requires-clause-refine : goal.round_on-requires-clause-refine
round_on-requires-clause-refine c = record {
  graph = c.requires.start.graph;
  partition = fb_part _ c.requires.start.graph _ _ c.rounds.invariant.refined;
  reserved = c.rounds.invariant.reserved;
}

pub round_on-requires-clause-own : goal.round_on-requires-clause-own
round_on-requires-clause-own c = record { nodes = c.rounds.invariant.parents_are; size = c.rounds.invariant.parents_size }

pub round_on-requires-clause-other : goal.round_on-requires-clause-other
round_on-requires-clause-other c = record { nodes = c.rounds.invariant.children_are; size = c.rounds.invariant.children_size }

pub round_on-requires-in-rounds-clause-refine : goal.round_on-requires-in-rounds-clause-refine
round_on-requires-in-rounds-clause-refine c = record {
  graph = c.requires.start.graph;
  partition = fb_part _ c.requires.start.graph _ _ (step _ _ _ _ _ _ _ (fb_target _ c.requires.start.graph) c.rounds.invariant.refined c.in_ok-round_on.ensures.step);
  reserved = let a = c.rounds.invariant.reserved in let b = c.in_ok-round_on.ensures.reserved in omega (arith, a, b);
}

pub round_on-requires-in-rounds-clause-own : goal.round_on-requires-in-rounds-clause-own
round_on-requires-in-rounds-clause-own c = record { nodes = c.in_ok-round_on.ensures.other; size = c.in_ok-round_on.ensures.other_size ∙ c.rounds.invariant.children_size }

pub round_on-requires-in-rounds-clause-other : goal.round_on-requires-in-rounds-clause-other
round_on-requires-in-rounds-clause-other c = record { nodes = c.in_ok-round_on.ensures.own; size = c.in_ok-round_on.ensures.own_size ∙ c.rounds.invariant.parents_size }

pub rounds-smaller : goal.rounds-smaller
rounds-smaller c =
    falls (block_count c.rounds.blocks) (block_count c.round_on-in-rounds.new.blocks) _
    (nat_eq (length c.round_on-in-rounds.new.other.nodes) 0 && nat_eq (length c.round_on-in-rounds.new.own.nodes) 0) (sym c.rounds-test.ensures) c.in_ok-round_on-2.ensures.few
    (turned (block_count c.rounds.blocks) (block_count c.round_on.new.blocks) (block_count c.round_on-in-rounds.new.blocks) c.round_on.new.own.nodes c.round_on-in-rounds.new.own.nodes
    c.round_on-in-rounds.new.other.nodes (elim c.in_ok-round_on.ensures.more [ inl (none, same, le) ↦ inl (none, le) | inr more ↦ inr more ]) c.in_ok-round_on-2.ensures.more)

pub rounds-preserved : goal.rounds-preserved
rounds-preserved c = record {
  refined = step _ _ _ _ _ _ _ (fb_target _ c.requires.start.graph) (step _ _ _ _ _ _ _ (fb_target _ c.requires.start.graph) c.rounds.invariant.refined c.in_ok-round_on.ensures.step) c.in_ok-round_on-2.ensures.step;
  parents_are = c.in_ok-round_on-2.ensures.other;
  children_are = c.in_ok-round_on-2.ensures.own;
  parents_size = c.in_ok-round_on-2.ensures.other_size ∙ c.in_ok-round_on.ensures.own_size ∙ c.rounds.invariant.parents_size;
  children_size = c.in_ok-round_on-2.ensures.own_size ∙ c.in_ok-round_on.ensures.other_size ∙ c.rounds.invariant.children_size;
  labelled = λ h. c.in_ok-round_on-2.ensures.kept.labelled (c.in_ok-round_on.ensures.kept.labelled (c.rounds.invariant.labelled h));
  inhabited = λ h. c.in_ok-round_on-2.ensures.kept.inhabited (c.in_ok-round_on.ensures.kept.inhabited (c.rounds.invariant.inhabited h));
  reserved = (let a = c.rounds.invariant.reserved in let b = c.in_ok-round_on.ensures.reserved in let d = c.in_ok-round_on-2.ensures.reserved in omega (arith, a, b, d));
}

pub returns-clause-agrees : goal.returns-clause-agrees
returns-clause-agrees c =
    let both = and_parts (nat_eq (length c.rounds.parents.nodes) 0) (nat_eq (length c.rounds.children.nodes) 0) (sym c.rounds-test.ensures) in
    fb_end _ c.requires.start.graph _ _ c.rounds.invariant.refined (two_none _ _ (length_empty c.rounds.parents.nodes both.0) (length_empty c.rounds.children.nodes both.1))
