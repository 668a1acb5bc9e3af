use Rattle.graph_steps.specs.StepLists.{step_of}
use Rattle.graph_steps.proofs.StepLinks.{ends_more, links_more}
use Rattle.graph_steps.proofs.links.note_next.Goals as goal

pub returns-clause-ends : goal.returns-clause-ends
returns-clause-ends c =
    ends_more c.args.steps.now (step_of c.args.step.now) c.note_first.new.ends.entries c.note_ends.new.ends.entries c.requires.some c.requires.few c.note_first.ensures.noted c.note_ends.ensures.notes

pub returns-clause-links : goal.returns-clause-links
returns-clause-links c =
    links_more c.args.steps.now (step_of c.args.step.now) c.note_first.new.ends.entries c.args.links.now.items c.lead_ends.new.links.items c.push_reserved.new.self.items c.unlinked.result
    c.requires.few c.note_first.ensures.noted c.requires.links c.lead_ends.ensures.count c.lead_ends.ensures.leads c.unlinked.ensures c.push_reserved.ensures.items
