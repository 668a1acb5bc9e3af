use Rattle.std.proofs.Common.{◌≡◌, Some, sym, ap, ◌∙◌, subst}
use Rattle.ak_family.specs.LevelDrafts.{AreSettled}
use Rattle.kept_levels.specs.KeptFamilies.{KeptFamily}
use Rattle.kept_levels.proofs.Staged.{committed}
use Rattle.kept_levels.proofs.levels.KeptLevelsKeptViews.commit.Goals as goal

pub returns-in-Some : goal.returns-in-Some
returns-in-Some g c =
    let draft = c.in-Some.draft in
    let family = c.settle.new.self in
    let staged : c.args.self.now.staged ≡ Some draft = ap (λ (k : KeptFamily). k.staged) (sym c.self.view_is) ∙ sym c.take.ensures.value ∙ c.in-Some.is in
    let settled = subst (λ (k : KeptFamily). AreSettled k.base draft family) c.self.view_is c.settle.ensures.settled in
    committed g.S.CountedSides.counted c.args.self.now (record { base = family; staged = c.take.new.self }) draft staged settled c.take.ensures.after
