use Rattle.std.proofs.Common.{sym, ap, subst, ◌∙◌}
use Rattle.index_file.specs.Readings.{Reading}
use Rattle.index_file.specs.SavedGraphs.{IsSaved, saved_file}
use Rattle.index_file.proofs.draft.Draft.into_saved.Goals as goal

pub of_parts-requires : goal.of_parts-requires
of_parts-requires c =
    subst (λ (r : Reading). IsSaved r.allocated c.in-Ok.children c.in-Ok.parents r.views c.in-Ok.places.items) (sym c.self.view_is) c.in-Ok.ensures.saved

pub returns-in-Ok : goal.returns-in-Ok
returns-in-Ok c = c.of_parts.ensures ∙ ap (λ (r : Reading). saved_file r.allocated c.in-Ok.children r.k r.views) c.self.view_is ∙ c.in-Ok.ensures.file
