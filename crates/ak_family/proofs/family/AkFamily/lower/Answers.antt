use Rattle.std.proofs.Common.{List, ◌∙◌, ap, sym, subst, slice_set}
use Rattle.keyed_quotient.specs.KeyedQuotients.{KeyedQuotient}
use Rattle.keyed_quotient.specs.Changes.{KeyedChanges, IsKeyedOver}
use Rattle.ak_family.specs.Families.{level_at}
use Rattle.ak_family.specs.LevelDrafts.{AreOver, KeepsAllButSupports}
use Rattle.ak_family.proofs.Drafted.{kept_set}
use Rattle.ak_family.proofs.family.AkFamily.lower.Goals as goal

pub returns-clause-kept : goal.returns-clause-kept
returns-clause-kept c =
    let is : IsKeyedOver (level_at c.args.self.now c.args.i) c.lower.new.self =
    subst (λ (q : KeyedQuotient). IsKeyedOver q c.lower.new.self) (c.level_of-level.ensures ∙ ap (λ (ls : List KeyedQuotient). level_at ls c.args.i) c.self.view_is) c.in_ok-lower.ensures.over in
    subst (λ (d : List KeyedChanges). KeepsAllButSupports c.args.self.now c.args.i d (slice_set c.d.inside.levels.items c.args.i c.lower.new.self)) c.d.view_is
    (kept_set c.args.self.now c.d.inside.levels.items c.args.i c.index_mut.result.now c.lower.new.self (subst (AreOver c.args.self.now) (sym c.d.view_is) c.requires.there.over) c.requires.there.level is
    c.index_mut.ensures.value c.lower.ensures.moves c.lower.ensures.added c.lower.ensures.keys)
