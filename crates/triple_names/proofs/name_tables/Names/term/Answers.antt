use Rattle.std.proofs.Common.{◌∙◌, ap, sym}
use Rattle.term_table.specs.Terms.{number_of}
use Rattle.triple_names.specs.Names.{ReservedNames}
use Rattle.triple_names.proofs.TableLaws.{term_by}
use Rattle.triple_names.proofs.name_tables.Names.term.Goals as goal

pub returns : goal.returns
returns c =
    c.number_of_term.ensures ∙ sym (term_by c.self.inside.terms c.self.inside.later_terms.entries c.args.term.now)
    ∙ ap (λ (n : ReservedNames). number_of n.names.terms c.args.term.now) c.self.view_is
