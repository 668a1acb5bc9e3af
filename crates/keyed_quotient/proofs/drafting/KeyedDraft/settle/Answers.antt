use Rattle.std.proofs.Common.{ℕ, List, ◌≡◌, ◌<◌, Some, length, ap, refl, sym, subst, slice_get}
use Rattle.std.specs.List.{zip}
use Rattle.bisim_spec.specs.IndexGraphs.{View}
use Rattle.keyed_quotient.specs.KeyedQuotients.{KeyedQuotient}
use Rattle.keyed_quotient.specs.Changes.{KeyedChanges, IsKeyedOver, IsKnown, HasReservedKeys, IsSettled}
use Rattle.keyed_quotient.specs.Numberings.{block_keys, AreApart, GivenBelow}
use Rattle.keyed_quotient.proofs.SettledKeys.{drafts_apart, settled_numbering, settled_keys}
use Rattle.keyed_quotient.proofs.drafting.KeyedDraft.settle.Goals as goal

pub give_all-requires-clause-apart : goal.give_all-requires-clause-apart
give_all-requires-clause-apart c =
    let q : KeyedQuotient = record { quotient = c.base.inside.summary; keys = block_keys c.base.inside.summary.blocks.labels c.base.inside.numbers; reserved = record { known = c.base.inside.numbers.table; span = length c.base.inside.numbers.number_of } } in
    let d : KeyedChanges = record { drafted = c.self.inside.draft; keys = zip c.self.inside.blocks.items c.self.inside.keys } in
    let o : IsKeyedOver q d = subst (λ (x : KeyedQuotient). IsKeyedOver x d) (sym c.base.view_is) (subst (IsKeyedOver c.args.base.now) (sym c.self.view_is) c.requires.over) in
    subst (λ (bs : List ℕ). AreApart (zip bs c.self.inside.keys)) (sym c.deref.ensures.value) (drafts_apart q d o)

pub give_all-requires-clause-known : goal.give_all-requires-clause-known
give_all-requires-clause-known c =
    let q : KeyedQuotient = record { quotient = c.base.inside.summary; keys = block_keys c.base.inside.summary.blocks.labels c.base.inside.numbers; reserved = record { known = c.base.inside.numbers.table; span = length c.base.inside.numbers.number_of } } in
    let d : KeyedChanges = record { drafted = c.self.inside.draft; keys = zip c.self.inside.blocks.items c.self.inside.keys } in
    let r : HasReservedKeys q d = subst (λ (x : KeyedQuotient). HasReservedKeys x d) (sym c.base.view_is) (subst (HasReservedKeys c.args.base.now) (sym c.self.view_is) c.requires.reserved) in
    subst (λ (bs : List ℕ). (i b : ℕ) (key : List ℕ) → slice_get (zip bs c.self.inside.keys) i ≡ Some (b, key) → IsKnown c.base.inside.numbers.table key) (sym c.deref.ensures.value) r.known

pub give_all-requires-clause-span : goal.give_all-requires-clause-span
give_all-requires-clause-span c =
    let q : KeyedQuotient = record { quotient = c.base.inside.summary; keys = block_keys c.base.inside.summary.blocks.labels c.base.inside.numbers; reserved = record { known = c.base.inside.numbers.table; span = length c.base.inside.numbers.number_of } } in
    let d : KeyedChanges = record { drafted = c.self.inside.draft; keys = zip c.self.inside.blocks.items c.self.inside.keys } in
    let r : HasReservedKeys q d = subst (λ (x : KeyedQuotient). HasReservedKeys x d) (sym c.base.view_is) (subst (HasReservedKeys c.args.base.now) (sym c.self.view_is) c.requires.reserved) in
    subst (λ (bs : List ℕ). (i b : ℕ) (key : List ℕ) → slice_get (zip bs c.self.inside.keys) i ≡ Some (b, key) → b < length c.base.inside.numbers.number_of) (sym c.deref.ensures.value) r.span

pub invariant_of-base : goal.invariant_of-base
invariant_of-base c =
    let q : KeyedQuotient = record { quotient = c.base.inside.summary; keys = block_keys c.base.inside.summary.blocks.labels c.base.inside.numbers; reserved = record { known = c.base.inside.numbers.table; span = length c.base.inside.numbers.number_of } } in
    let d : KeyedChanges = record { drafted = c.self.inside.draft; keys = zip c.self.inside.blocks.items c.self.inside.keys } in
    let o : IsKeyedOver q d = subst (λ (x : KeyedQuotient). IsKeyedOver x d) (sym c.base.view_is) (subst (IsKeyedOver c.args.base.now) (sym c.self.view_is) c.requires.over) in
    let w : GivenBelow d.keys (length d.keys) c.base.inside.numbers c.give_all.new.numbers =
    subst (λ (bs : List ℕ). GivenBelow (zip bs c.self.inside.keys) (length (zip bs c.self.inside.keys)) c.base.inside.numbers c.give_all.new.numbers) c.deref.ensures.value c.give_all.ensures in
    let left = ap (λ (v : View). v.labels) c.settle.ensures.settled in
    settled_numbering q d c.base.inside.summary.blocks.labels c.settle.new.base.blocks.labels c.base.inside.numbers c.give_all.new.numbers o refl c.base.invariant left w

pub returns-clause-settled : goal.returns-clause-settled
returns-clause-settled c =
    let q : KeyedQuotient = record { quotient = c.base.inside.summary; keys = block_keys c.base.inside.summary.blocks.labels c.base.inside.numbers; reserved = record { known = c.base.inside.numbers.table; span = length c.base.inside.numbers.number_of } } in
    let d : KeyedChanges = record { drafted = c.self.inside.draft; keys = zip c.self.inside.blocks.items c.self.inside.keys } in
    let o : IsKeyedOver q d = subst (λ (x : KeyedQuotient). IsKeyedOver x d) (sym c.base.view_is) (subst (IsKeyedOver c.args.base.now) (sym c.self.view_is) c.requires.over) in
    let w : GivenBelow d.keys (length d.keys) c.base.inside.numbers c.give_all.new.numbers =
    subst (λ (bs : List ℕ). GivenBelow (zip bs c.self.inside.keys) (length (zip bs c.self.inside.keys)) c.base.inside.numbers c.give_all.new.numbers) c.deref.ensures.value c.give_all.ensures in
    let left = ap (λ (v : View). v.labels) c.settle.ensures.settled in
    let end : KeyedQuotient = record { quotient = c.settle.new.base; keys = block_keys c.settle.new.base.blocks.labels c.give_all.new.numbers; reserved = record { known = c.give_all.new.numbers.table; span = length c.give_all.new.numbers.number_of } } in
    let s : IsSettled q d end = record {
      view = c.settle.ensures.settled;
      keys = settled_keys q d c.base.inside.summary.blocks.labels c.settle.new.base.blocks.labels c.base.inside.numbers c.give_all.new.numbers o refl c.base.invariant left w;
    } in
    subst (λ (x : KeyedQuotient). IsSettled x c.args.self.now end) c.base.view_is (subst (λ (x : KeyedChanges). IsSettled q x end) c.self.view_is s)
