use Rattle.std.proofs.Common.{◌∙◌, ℕ, List, Some, sym, subst, ap, cond}
use Rattle.std.specs.Map.{lookup, keys_of}
use Rattle.std.specs.Prelude.{IsSome}
use Rattle.indexmap.proofs.CallerLemmas.{keys-insert_entry-present}
use Rattle.quotient_draft.specs.PairEnds.{AreNoted}
use Rattle.bisim_spec.specs.IndexGraphs.{support_at}
use Rattle.quotient_draft.specs.Drafts.{with_supports, is_pair}
use Rattle.quotient_draft.proofs.DraftedMoves.{supports_written, pair_turned}
use Rattle.quotient_draft.proofs.changed.Changed.set_again.Goals as goal

pub returns-clause-looked : goal.returns-clause-looked
returns-clause-looked c = λ p.
    c.in_ok-insert.ensures.updates.0 p ∙ ap (λ b. cond b (Some c.args.n) (lookup (is_pair p) c.self.inside.pairs.entries)) (pair_turned (c.args.a, c.args.b) p)
    ∙ ap (λ (es : List ((ℕ × ℕ) × ℕ)). cond (is_pair p (c.args.a, c.args.b)) (Some c.args.n) (lookup (is_pair p) es)) c.self.view_is

pub returns-clause-shown : goal.returns-clause-shown
returns-clause-shown c = λ t x y.
    supports_written t c.self.inside.pairs.entries c.insert.new.self.entries (c.args.a, c.args.b) c.args.n c.self.invariant.once c.in_ok-insert.ensures.unique
    (λ p. c.in_ok-insert.ensures.updates.0 p ∙ ap (λ b. cond b (Some c.args.n) (lookup (is_pair p) c.self.inside.pairs.entries)) (pair_turned (c.args.a, c.args.b) p)) x y
    ∙ ap (λ (es : List ((ℕ × ℕ) × ℕ)). cond (is_pair (x, y) (c.args.a, c.args.b)) c.args.n (support_at (with_supports t es) x y)) c.self.view_is

pub invariant_of-self-2 : goal.invariant_of-self-2
invariant_of-self-2 c =
    let m = c.self.inside.pairs in
    let there = subst (λ (es : List ((ℕ × ℕ) × ℕ)). IsSome (lookup (is_pair (c.args.a, c.args.b)) es)) (sym c.self.view_is) c.requires in
    let keys = ap keys_of c.in_ok-insert.ensures.entries ∙ keys-insert_entry-present is_pair m (c.args.a, c.args.b) c.args.n there in
    subst (λ (ks : List (ℕ × ℕ)). AreNoted ks c.self.inside.from.entries c.self.inside.onto.entries) (sym keys) c.self.invariant
