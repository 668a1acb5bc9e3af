use Rattle.std.proofs.Common.{length, ap, sym, ◌∙◌, arith}
use Rattle.index_file.specs.SavedFiles.{SavedFile}
use Rattle.index_file.proofs.SavedViewLaws.{views_told}
use Rattle.index_file.proofs.saved.Saved.views.Goals as goal

pub to_u32-requires : goal.to_u32-requires
to_u32-requires c = (let few = c.self.invariant.few_views in let count = c.len.ensures in omega (arith, few, count))

pub returns : goal.returns
returns c =
    let s = c.self.inside in
    c.to_u32.ensures ∙ c.len.ensures ∙ sym (views_told s.nodes s.children s.parents s.k s.views s.places.items c.self.invariant) ∙ ap (λ (f : SavedFile). length f.views) c.self.view_is
