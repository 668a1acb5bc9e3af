use Rattle.std.proofs.Common.{◌≡◌, ◌≢◌, ◌<◌, ◌∙◌, ℕ, sym, subst}
use Rattle.bisim_spec.specs.IndexGraphs.{support_at}
use Rattle.quotient_draft.specs.Drafts.{Drafted, shown_support, with_supports}
use Rattle.quotient_draft.proofs.Touched.{other_found, others_none}
use Rattle.quotient_draft.proofs.draft.Draft.has_other_parent.Goals as goal

pub returns-then-any_other-clause-yes : goal.returns-then-any_other-clause-yes
returns-then-any_other-clause-yes c = λ _.
    subst (λ (d : Drafted). (a : ℕ) × (a ≢ c.args.b) × (0 < shown_support c.args.base.now d a c.args.b)) c.self.view_is
    (other_found (λ a. support_at (with_supports c.args.base.now.supports c.self.inside.changed) a c.args.b) c.args.b c.base_parents.result.now c.any_other.result c.any_other.ensures
    c.if-any_other.true)

pub returns-clause-yes : goal.returns-clause-yes
returns-clause-yes c = λ h.
    subst (λ (d : Drafted). (a : ℕ) × (a ≢ c.args.b) × (0 < shown_support c.args.base.now d a c.args.b)) c.self.view_is
    (other_found (λ a. support_at (with_supports c.args.base.now.supports c.self.inside.changed) a c.args.b) c.args.b c.parents.result.now c.any_other-2.result c.any_other-2.ensures h)

pub returns-clause-no : goal.returns-clause-no
returns-clause-no c = λ h.
    let t = c.args.base.now.supports in
    let b = c.args.b in
    subst (λ (d : Drafted). (a : ℕ) → a ≢ b → shown_support c.args.base.now d a b ≡ 0) c.self.view_is
    (others_none (λ a. support_at (with_supports t c.self.inside.changed) a b) (λ a. support_at t a b) b c.base_parents.result.now c.parents.result.now c.any_other-2.result
    (sym c.any_other.ensures ∙ c.if-any_other.false) c.any_other-2.ensures h c.base_parents.ensures (λ a k. c.parents.ensures t a k))
