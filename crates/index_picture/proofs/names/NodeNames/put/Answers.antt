use Rattle.std.proofs.Common.{◌≡◌, ◌++◌, ◌∙◌, ap}
use Rattle.std.specs.Prelude.{slice_set}
use Rattle.std.proofs.lemmas.List.{map-set}
use Rattle.index_picture.specs.ShownNames.{term_name}
use Rattle.index_picture.proofs.names.NodeNames.put.Goals as goal

pub returns : goal.returns
returns c =
    let name : c.push_term.new.out.items ≡ term_name c.args.term.now = c.in_ok-push_term.ensures ∙ ap (λ o. o ++ term_name c.args.term.now) c.new-text.ensures.items in
    map-set (λ t. t.items) c.self.inside.texts.items c.args.n c.push_term.new.out
    ∙ ap (λ ls. slice_set ls c.args.n c.push_term.new.out.items) c.self.view_is
    ∙ ap (slice_set c.args.self.now c.args.n) name
