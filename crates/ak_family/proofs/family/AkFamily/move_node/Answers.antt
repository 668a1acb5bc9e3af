use Rattle.std.proofs.Common.{List, ◌∙◌, ap, sym, subst}
use Rattle.keyed_quotient.specs.KeyedQuotients.{KeyedQuotient}
use Rattle.keyed_quotient.specs.Changes.{IsKeyedOver}
use Rattle.ak_family.specs.Families.{level_at}
use Rattle.ak_family.specs.LevelDrafts.{AreOver}
use Rattle.ak_family.proofs.Drafted.{over_set}
use Rattle.ak_family.proofs.family.AkFamily.move_node.Goals as goal

pub returns-clause-over : goal.returns-clause-over
returns-clause-over g c =
    over_set c.args.self.now c.d.inside.levels.items c.args.to.level c.move_node.new.self (subst (AreOver c.args.self.now) (sym c.d.view_is) c.requires.over) c.requires.level
    (subst (λ (q : KeyedQuotient). IsKeyedOver q c.move_node.new.self) (c.level_of-level.ensures ∙ ap (λ (ls : List KeyedQuotient). level_at ls c.args.to.level) c.self.view_is) c.in_ok-move_node.ensures.over)
