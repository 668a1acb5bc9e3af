use Rattle.std.proofs.Common.{◌∙◌, ap, sym, Some}
use Rattle.term_table.specs.Terms.{number_of}
use Rattle.term_table.specs.Terms.{place_in}
use Rattle.graph_load.proofs.SoundSteps.{term_steps, term_number}
use Rattle.triple_names.proofs.KeyLaws.{term_place}
use Rattle.graph_load.proofs.loader.Loader.add_term.Goals as goal

pub returns-clause-steps : goal.returns-clause-steps
returns-clause-steps c =
    term_steps c.args.limits.now c.args.term.now c.args.self.now c.add_node.new.graph c.in_ok-number.number c.insert.new.self c.requires.sound c.requires.absent
    (rw (c.node.ensures, c.term.ensures) at c.in_ok-number.ensures.made) c.in_ok-number.ensures.reserved c.in_ok-number.ensures.number c.in_ok-place.ensures.added

pub returns-clause-place : goal.returns-clause-place
returns-clause-place c =
    ap (λ ts. place_in ts c.args.term.now) c.in_ok-place.ensures.added ∙ term_place c.args.self.now.terms c.args.term.now c.in_ok-number.number c.requires.absent ∙ ap Some (sym c.in_ok-place.ensures.place)

pub returns-clause-number : goal.returns-clause-number
returns-clause-number c = ap (λ ts. number_of ts c.args.term.now) c.in_ok-place.ensures.added ∙ term_number c.args.self.now.terms c.args.term.now c.in_ok-number.number c.requires.absent
