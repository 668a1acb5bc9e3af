use Rattle.std.proofs.Common.{List, length, ◌≡◌, ◌<◌, ◌∙◌, ap, sym, subst, arith}
use Rattle.keyed_quotient.specs.KeyedQuotients.{KeyedQuotient}
use Rattle.keyed_quotient.specs.Changes.{KeyedChanges}
use Rattle.ak_family.specs.Families.{IsKeyedFamily}
use Rattle.ak_family.specs.LevelDrafts.{AreSettled}
use Rattle.ak_family.proofs.FamilyKept.{settled_family, settled_supported}
use Rattle.ak_family.proofs.Drafted.{empty_over}
use Rattle.ak_family.proofs.family.AkFamily.settle.Goals as goal

pub invariant_of-self : goal.invariant_of-self
invariant_of-self c =
    let new = c.settle_all.new.levels.items in
    let settled : AreSettled c.args.self.now c.args.d.now new =
    subst (λ (f : List KeyedQuotient). AreSettled f c.args.d.now new) c.self.view_is (subst (λ (d : List KeyedChanges). AreSettled c.self.inside.levels.items d new) c.d.view_is c.settle_all.ensures.settled) in
    let count = c.settle_all.ensures.settled.count in
    let some = c.self.invariant.some in
    let few = c.self.invariant.few in
    record {
      some = omega (arith, count, some);
      few = omega (arith, count, few);
      keyed = settled_family c.args.self.now c.args.d.now new c.requires.shows settled (subst (λ (f : List KeyedQuotient). 0 < length f) c.self.view_is some);
    }

pub returns-clause-keyed : goal.returns-clause-keyed
returns-clause-keyed c =
    let new = c.settle_all.new.levels.items in
    let settled : AreSettled c.args.self.now c.args.d.now new =
    subst (λ (f : List KeyedQuotient). AreSettled f c.args.d.now new) c.self.view_is (subst (λ (d : List KeyedChanges). AreSettled c.self.inside.levels.items d new) c.d.view_is c.settle_all.ensures.settled) in
    settled_family c.args.self.now c.args.d.now new c.requires.shows settled (subst (λ (f : List KeyedQuotient). 0 < length f) c.self.view_is c.self.invariant.some)

pub returns-clause-over : goal.returns-clause-over
returns-clause-over c =
    let new = c.settle_all.new.levels.items in
    let settled : AreSettled c.args.self.now c.args.d.now new =
    subst (λ (f : List KeyedQuotient). AreSettled f c.args.d.now new) c.self.view_is (subst (λ (d : List KeyedChanges). AreSettled c.self.inside.levels.items d new) c.d.view_is c.settle_all.ensures.settled) in
    let keyed : IsKeyedFamily new =
    settled_family c.args.self.now c.args.d.now new c.requires.shows settled (subst (λ (f : List KeyedQuotient). 0 < length f) c.self.view_is c.self.invariant.some) in
    let drafts : length c.args.d.now ≡ length c.settle_all.new.drafts.items = sym (ap (λ (d : List KeyedChanges). length d) c.d.view_is) ∙ sym c.settle_all.ensures.count in
    empty_over new c.settle_all.new.drafts.items keyed (settled.count ∙ sym c.requires.shows.over.count ∙ drafts) c.settle_all.ensures.empty

pub returns-clause-supported : goal.returns-clause-supported
returns-clause-supported c = λ sides keys.
    let new = c.settle_all.new.levels.items in
    let settled : AreSettled c.args.self.now c.args.d.now new =
    subst (λ (f : List KeyedQuotient). AreSettled f c.args.d.now new) c.self.view_is (subst (λ (d : List KeyedChanges). AreSettled c.self.inside.levels.items d new) c.d.view_is c.settle_all.ensures.settled) in
    settled_supported sides c.args.self.now c.args.d.now new c.requires.shows keys settled
