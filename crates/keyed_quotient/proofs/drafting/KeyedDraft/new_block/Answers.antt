use Rattle.std.proofs.Common.{ℕ, List, ◌≡◌, Some, length, ◌∙◌, ap, sym, subst, ◌++◌, ◌∷◌, []}
use Rattle.std.specs.List.{zip}
use Rattle.keyed_quotient.specs.KeyedQuotients.{KeyedQuotient}
use Rattle.keyed_quotient.specs.Changes.{KeyedChanges, IsKeyedOver, shown_key}
use Rattle.keyed_quotient.specs.Numberings.{block_keys}
use Rattle.keyed_quotient.proofs.DraftedKeys.{fresh_absent, free_number, key_more, over_more, zip_more}
use Rattle.keyed_quotient.proofs.drafting.KeyedDraft.new_block.Goals as goal

pub note-requires-clause-absent : goal.note-requires-clause-absent
note-requires-clause-absent c =
    let q : KeyedQuotient = record { quotient = c.base.inside.summary; keys = block_keys c.base.inside.summary.blocks.labels c.base.inside.numbers; reserved = record { known = c.base.inside.numbers.table; span = length c.base.inside.numbers.number_of } } in
    let d : KeyedChanges = record { drafted = c.self.inside.draft; keys = zip c.self.inside.blocks.items c.self.inside.keys } in
    let o : IsKeyedOver q d = subst (λ (x : KeyedQuotient). IsKeyedOver x d) (sym c.base.view_is) (subst (IsKeyedOver c.args.base.now) (sym c.self.view_is) c.requires.over) in
    let fresh : (b : ℕ) → shown_key q d b ≡ Some c.args.key.now → ⊥ =
    subst (λ (x : KeyedQuotient). (b : ℕ) → shown_key x d b ≡ Some c.args.key.now → ⊥) (sym c.base.view_is)
    (subst (λ (x : KeyedChanges). (b : ℕ) → shown_key c.args.base.now x b ≡ Some c.args.key.now → ⊥) (sym c.self.view_is) c.requires.fresh) in
    fresh_absent q c.self.inside.draft c.self.inside.blocks.items c.self.inside.keys c.args.key.now c.self.invariant o fresh

pub returns-in-Ok-clause-keys : goal.returns-in-Ok-clause-keys
returns-in-Ok-clause-keys c =
    let q : KeyedQuotient = record { quotient = c.base.inside.summary; keys = block_keys c.base.inside.summary.blocks.labels c.base.inside.numbers; reserved = record { known = c.base.inside.numbers.table; span = length c.base.inside.numbers.number_of } } in
    let d : KeyedChanges = record { drafted = c.self.inside.draft; keys = zip c.self.inside.blocks.items c.self.inside.keys } in
    let o : IsKeyedOver q d = subst (λ (x : KeyedQuotient). IsKeyedOver x d) (sym c.base.view_is) (subst (IsKeyedOver c.args.base.now) (sym c.self.view_is) c.requires.over) in
    let fresh : (b : ℕ) → shown_key q d b ≡ Some c.args.key.now → ⊥ =
    subst (λ (x : KeyedQuotient). (b : ℕ) → shown_key x d b ≡ Some c.args.key.now → ⊥) (sym c.base.view_is)
    (subst (λ (x : KeyedChanges). (b : ℕ) → shown_key c.args.base.now x b ≡ Some c.args.key.now → ⊥) (sym c.self.view_is) c.requires.fresh) in
    let d2 : KeyedChanges = record { drafted = c.new_block.new.self; keys = zip c.note.new.blocks.items c.note.new.keys } in
    let none = free_number q d c.in_ok-b.b o c.in_ok-b.ensures.least.free in
    let added : d2.keys ≡ d.keys ++ (c.in_ok-b.b, c.args.key.now) ∷ [] =
    ap (λ (bs : List ℕ). zip bs c.note.new.keys) c.in-Ok.ensures.blocks ∙ ap (λ (ks : List (List ℕ)). zip (c.self.inside.blocks.items ++ c.in_ok-b.b ∷ []) ks) c.in-Ok.ensures.keys
    ∙ zip_more c.self.inside.blocks.items c.self.inside.keys c.in_ok-b.b c.args.key.now c.self.invariant in
    rw (← c.self.view_is, ← c.base.view_is) (key_more q d d2 c.in_ok-b.b c.args.key.now none.0 added)

pub returns-in-Ok-clause-over : goal.returns-in-Ok-clause-over
returns-in-Ok-clause-over c =
    let q : KeyedQuotient = record { quotient = c.base.inside.summary; keys = block_keys c.base.inside.summary.blocks.labels c.base.inside.numbers; reserved = record { known = c.base.inside.numbers.table; span = length c.base.inside.numbers.number_of } } in
    let d : KeyedChanges = record { drafted = c.self.inside.draft; keys = zip c.self.inside.blocks.items c.self.inside.keys } in
    let o : IsKeyedOver q d = subst (λ (x : KeyedQuotient). IsKeyedOver x d) (sym c.base.view_is) (subst (IsKeyedOver c.args.base.now) (sym c.self.view_is) c.requires.over) in
    let fresh : (b : ℕ) → shown_key q d b ≡ Some c.args.key.now → ⊥ =
    subst (λ (x : KeyedQuotient). (b : ℕ) → shown_key x d b ≡ Some c.args.key.now → ⊥) (sym c.base.view_is)
    (subst (λ (x : KeyedChanges). (b : ℕ) → shown_key c.args.base.now x b ≡ Some c.args.key.now → ⊥) (sym c.self.view_is) c.requires.fresh) in
    let d2 : KeyedChanges = record { drafted = c.new_block.new.self; keys = zip c.note.new.blocks.items c.note.new.keys } in
    let none = free_number q d c.in_ok-b.b o c.in_ok-b.ensures.least.free in
    let added : d2.keys ≡ d.keys ++ (c.in_ok-b.b, c.args.key.now) ∷ [] =
    ap (λ (bs : List ℕ). zip bs c.note.new.keys) c.in-Ok.ensures.blocks ∙ ap (λ (ks : List (List ℕ)). zip (c.self.inside.blocks.items ++ c.in_ok-b.b ∷ []) ks) c.in-Ok.ensures.keys
    ∙ zip_more c.self.inside.blocks.items c.self.inside.keys c.in_ok-b.b c.args.key.now c.self.invariant in
    subst (λ (x : KeyedQuotient). IsKeyedOver x d2) c.base.view_is
    (over_more q d d2 c.in_ok-b.b c.args.label c.args.key.now o c.in_ok-b.ensures.least.free fresh c.in_ok-b.ensures.over c.in_ok-b.ensures.labels added)
