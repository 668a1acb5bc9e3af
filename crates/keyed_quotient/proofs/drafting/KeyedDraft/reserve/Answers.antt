use Rattle.std.proofs.Common.{ℕ, List, ◌≡◌, ◌<◌, Option, length, ◌∙◌, ap, sym, subst, arith}
use Rattle.std.specs.List.{zip}
use Rattle.std.specs.Prelude.{IsSome}
use Rattle.graph_spec.specs.Members.{at}
use Rattle.bisim_spec.specs.IndexGraphs.{View}
use Rattle.quotient_draft.specs.Drafts.{with_added}
use Rattle.keyed_quotient.specs.KeyedQuotients.{KeyedQuotient}
use Rattle.keyed_quotient.specs.Changes.{KeyedChanges, IsKeyedOver, IsKnown, HasReservedKeys}
use Rattle.keyed_quotient.specs.Numberings.{block_keys}
use Rattle.keyed_quotient.proofs.Grown.{keys_anew, grows_twice, further_below}
use Rattle.keyed_quotient.proofs.DraftedKeys.{zip_got}
use Rattle.keyed_quotient.proofs.drafting.KeyedDraft.reserve.Goals as goal

pub returns-in_err-know_all-clause-keys : goal.returns-in_err-know_all-clause-keys
returns-in_err-know_all-clause-keys c =
    let labels : c.reserve.new.base.blocks.labels ≡ c.base.inside.summary.blocks.labels = ap (λ (v : View). v.labels) c.reserve.ensures.same in
    keys_anew c.base.inside.summary.blocks.labels c.reserve.new.base.blocks.labels c.base.inside.numbers c.compact.new.numbers c.know_all.new.numbers labels c.compact.ensures.keys c.compact.ensures.numbering c.know_all.ensures.grows ∙ ap (λ (x : KeyedQuotient). x.keys) c.base.view_is

pub returns-in_err-reach-clause-keys : goal.returns-in_err-reach-clause-keys
returns-in_err-reach-clause-keys c =
    let labels : c.reserve.new.base.blocks.labels ≡ c.base.inside.summary.blocks.labels = ap (λ (v : View). v.labels) c.reserve.ensures.same in
    keys_anew c.base.inside.summary.blocks.labels c.reserve.new.base.blocks.labels c.base.inside.numbers c.compact.new.numbers c.reach.new.self labels c.compact.ensures.keys c.compact.ensures.numbering (grows_twice c.compact.new.numbers c.know_all.new.numbers c.reach.new.self c.know_all.ensures.grows c.reach.ensures.grows) ∙ ap (λ (x : KeyedQuotient). x.keys) c.base.view_is

pub returns-clause-keys : goal.returns-clause-keys
returns-clause-keys c =
    let labels : c.reserve.new.base.blocks.labels ≡ c.base.inside.summary.blocks.labels = ap (λ (v : View). v.labels) c.reserve.ensures.same in
    keys_anew c.base.inside.summary.blocks.labels c.reserve.new.base.blocks.labels c.base.inside.numbers c.compact.new.numbers c.reach.new.self labels c.compact.ensures.keys c.compact.ensures.numbering (grows_twice c.compact.new.numbers c.know_all.new.numbers c.reach.new.self c.know_all.ensures.grows c.reach.ensures.grows) ∙ ap (λ (x : KeyedQuotient). x.keys) c.base.view_is

pub returns-clause-reserved : goal.returns-clause-reserved
returns-clause-reserved c =
    let q : KeyedQuotient = record { quotient = c.base.inside.summary; keys = block_keys c.base.inside.summary.blocks.labels c.base.inside.numbers; reserved = record { known = c.base.inside.numbers.table; span = length c.base.inside.numbers.number_of } } in
    let d : KeyedChanges = record { drafted = c.self.inside.draft; keys = zip c.self.inside.blocks.items c.self.inside.keys } in
    let o : IsKeyedOver q d = subst (λ (x : KeyedQuotient). IsKeyedOver x d) (sym c.base.view_is) (subst (IsKeyedOver c.args.base.now) (sym c.self.view_is) c.requires.over) in
    let labels : c.reserve.new.base.blocks.labels ≡ c.base.inside.summary.blocks.labels = ap (λ (v : View). v.labels) c.reserve.ensures.same in
    let end : KeyedQuotient = record { quotient = c.reserve.new.base; keys = block_keys c.reserve.new.base.blocks.labels c.reach.new.self; reserved = record { known = c.reach.new.self.table; span = length c.reach.new.self.number_of } } in
    let ok = c.in_ok-reach.ensures.ok in
    let reserved : HasReservedKeys end d = record {
      quotient = c.in_ok-reserve.ensures.reserved;
      known = λ i b key e. subst (λ (t : List (List ℕ)). IsKnown t key) (sym c.reach.ensures.table) (c.in_ok-know_all.ensures.known i key (zip_got c.self.inside.blocks.items c.self.inside.keys i b key e).1);
      span = λ i b key e.
          let below = further_below q d c.span.result i b key o (subst (λ (ls : List (Option ℕ)). (x : ℕ) → IsSome (at (with_added ls c.self.inside.draft.added) x) → x < c.span.result) labels c.span.ensures) e in
          omega (arith, below, ok);
    } in
    subst (HasReservedKeys end) c.self.view_is reserved
