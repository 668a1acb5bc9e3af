use Rattle.std.proofs.Common.{length, refl, sym, subst}
use Rattle.std.specs.List.{zip}
use Rattle.keyed_quotient.specs.KeyedQuotients.{KeyedQuotient}
use Rattle.keyed_quotient.specs.Changes.{KeyedChanges, IsKeyedOver}
use Rattle.keyed_quotient.specs.Numberings.{block_keys}
use Rattle.keyed_quotient.proofs.DraftedKeys.{over_kept}
use Rattle.keyed_quotient.proofs.drafting.KeyedDraft.raise.Goals as goal

pub returns-clause-over : goal.returns-clause-over
returns-clause-over c =
    let q : KeyedQuotient = record { quotient = c.base.inside.summary; keys = block_keys c.base.inside.summary.blocks.labels c.base.inside.numbers; reserved = record { known = c.base.inside.numbers.table; span = length c.base.inside.numbers.number_of } } in
    let d : KeyedChanges = record { drafted = c.self.inside.draft; keys = zip c.self.inside.blocks.items c.self.inside.keys } in
    let o : IsKeyedOver q d = subst (λ (x : KeyedQuotient). IsKeyedOver x d) (sym c.base.view_is) (subst (IsKeyedOver c.args.base.now) (sym c.self.view_is) c.requires.over) in
    let d2 : KeyedChanges = record { drafted = c.raise.new.self; keys = d.keys } in
    subst (λ (x : KeyedQuotient). IsKeyedOver x d2) c.base.view_is (over_kept q d d2 o c.in_ok-raise.ensures.over c.in_ok-raise.ensures.added refl)
