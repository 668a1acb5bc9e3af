use Rattle.std.proofs.Common.{length, ap, sym, ◌∙◌, arith}
use Rattle.index_file.specs.SavedFiles.{SavedFile}
use Rattle.index_file.specs.SavedGraphs.{via_at}
use Rattle.index_file.proofs.SavedViewLaws.{views_told, via_there}
use Rattle.index_file.proofs.saved.Saved.via.Goals as goal

pub via-requires : goal.via-requires
via-requires c =
    let s = c.self.inside in
    let count = views_told s.nodes s.children s.parents s.k s.views s.places.items c.self.invariant in
    let same = ap (λ (f : SavedFile). length f.views) c.self.view_is in
    let requires = c.requires in
    omega (arith, count, same, requires)

pub returns : goal.returns
returns c =
    let s = c.self.inside in
    ap (λ (f : SavedFile). via_at f c.args.j) (sym c.self.view_is) ∙ via_there s.nodes s.children s.k s.views c.args.j c.via.result c.via.ensures
