use Rattle.std.proofs.Common.{◌<◌, length, get_or, ap, sym, subst, ◌∙◌, arith}
use Rattle.graph_spec.specs.Members.{at}
use Rattle.index_file.specs.SavedFiles.{SavedFile}
use Rattle.index_file.specs.SavedGraphs.{blocks_at}
use Rattle.index_file.proofs.ReadNodeLaws.{live_below}
use Rattle.index_file.proofs.SavedViewLaws.{views_told, rank_read, rank_missing}
use Rattle.index_file.proofs.saved.Saved.block_of.Goals as goal

pub ranks-requires : goal.ranks-requires
ranks-requires c =
    let s = c.self.inside in
    let count = views_told s.nodes s.children s.parents s.k s.views s.places.items c.self.invariant in
    let same = ap (λ (f : SavedFile). length f.views) c.self.view_is in
    let requires = c.requires in
    omega (arith, count, same, requires)

pub place_at-requires : goal.place_at-requires
place_at-requires c =
    let s = c.self.inside in
    let below = live_below s.nodes c.args.n (sym c.is_live.ensures ∙ c.if-is_live.true) in
    let all = c.self.invariant.placed.all in
    let same = ap length c.deref.ensures.value in
    omega (arith, below, all, same)

pub returns-then-is_live : goal.returns-then-is_live
returns-then-is_live c =
    let s = c.self.inside in
    let live = sym c.is_live.ensures ∙ c.if-is_live.true in
    c.rank_at.ensures
    ∙ rank_read s.nodes s.children s.parents s.k s.views s.places.items c.self.invariant c.args.j c.args.n c.place_at.result c.ranks.result.now c.ranks.ensures live
    (c.place_at.ensures ∙ ap (λ xs. get_or xs c.args.n 0) c.deref.ensures.value)
    ∙ ap (λ (f : SavedFile). at (blocks_at f c.args.j) c.args.n) c.self.view_is

pub returns-else-is_live : goal.returns-else-is_live
returns-else-is_live c =
    let s = c.self.inside in
    let there = subst (λ (f : SavedFile). c.args.j < length f.views) (sym c.self.view_is) c.requires in
    rank_missing s.nodes s.children s.parents s.k s.views s.places.items c.self.invariant c.args.j c.args.n there (sym c.is_live.ensures ∙ c.if-is_live.false)
    ∙ ap (λ (f : SavedFile). at (blocks_at f c.args.j) c.args.n) c.self.view_is
