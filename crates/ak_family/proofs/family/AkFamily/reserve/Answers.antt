use Rattle.std.proofs.Common.{List, subst}
use Rattle.keyed_quotient.specs.KeyedQuotients.{KeyedQuotient}
use Rattle.ak_family.specs.LevelDrafts.{AreSeenAs}
use Rattle.ak_family.proofs.FamilyKept.{shows_seen, keys_seen, supported_seen}
use Rattle.ak_family.proofs.family.AkFamily.reserve.Goals as goal

pub returns-in_err-reserve_all-clause-shows : goal.returns-in_err-reserve_all-clause-shows
returns-in_err-reserve_all-clause-shows c =
    shows_seen c.args.self.now c.reserve_all.new.levels.items c.args.d.now
    (subst (λ (f : List KeyedQuotient). AreSeenAs f c.reserve_all.new.levels.items) c.self.view_is c.reserve_all.ensures.same)

pub returns-clause-shows : goal.returns-clause-shows
returns-clause-shows c =
    shows_seen c.args.self.now c.reserve_all.new.levels.items c.args.d.now
    (subst (λ (f : List KeyedQuotient). AreSeenAs f c.reserve_all.new.levels.items) c.self.view_is c.reserve_all.ensures.same)

pub returns-in_err-reserve_all-clause-keys : goal.returns-in_err-reserve_all-clause-keys
returns-in_err-reserve_all-clause-keys c = λ sides.
    keys_seen sides c.args.self.now c.reserve_all.new.levels.items c.args.d.now
    (subst (λ (f : List KeyedQuotient). AreSeenAs f c.reserve_all.new.levels.items) c.self.view_is c.reserve_all.ensures.same)

pub returns-clause-keys : goal.returns-clause-keys
returns-clause-keys c = λ sides.
    keys_seen sides c.args.self.now c.reserve_all.new.levels.items c.args.d.now
    (subst (λ (f : List KeyedQuotient). AreSeenAs f c.reserve_all.new.levels.items) c.self.view_is c.reserve_all.ensures.same)

pub returns-in_err-reserve_all-clause-supported : goal.returns-in_err-reserve_all-clause-supported
returns-in_err-reserve_all-clause-supported c = λ sides.
    supported_seen sides c.args.self.now c.reserve_all.new.levels.items (subst (λ (f : List KeyedQuotient). AreSeenAs f c.reserve_all.new.levels.items) c.self.view_is c.reserve_all.ensures.same)

pub returns-clause-supported : goal.returns-clause-supported
returns-clause-supported c = λ sides.
    supported_seen sides c.args.self.now c.reserve_all.new.levels.items (subst (λ (f : List KeyedQuotient). AreSeenAs f c.reserve_all.new.levels.items) c.self.view_is c.reserve_all.ensures.same)
