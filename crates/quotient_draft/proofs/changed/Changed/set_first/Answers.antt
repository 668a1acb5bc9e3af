use Rattle.std.proofs.Common.{◌≡◌, ◌∙◌, ℕ, List, Some, sym, ap, cond, ◌∷◌, ◌++◌, []}
use Rattle.std.specs.Map.{lookup, keys_of}
use Rattle.std.specs.Prelude.{nat_eq}
use Rattle.std.proofs.lemmas.List.{map-append}
use Rattle.indexmap.proofs.CallerLemmas.{insert_entry-new}
use Rattle.quotient_draft.specs.PairEnds.{ends_from, ends_onto}
use Rattle.quotient_draft.proofs.Noted.{ends_more}
use Rattle.bisim_spec.specs.IndexGraphs.{support_at}
use Rattle.quotient_draft.specs.Drafts.{with_supports, is_pair}
use Rattle.quotient_draft.proofs.DraftedMoves.{supports_written, pair_turned}
use Rattle.quotient_draft.proofs.changed.Changed.set_first.Goals as goal

pub returns-clause-looked : goal.returns-clause-looked
returns-clause-looked c = λ p.
    c.in-Ok.ensures.updates.0 p ∙ ap (λ b. cond b (Some c.args.n) (lookup (is_pair p) c.reserve.new.self.entries)) (pair_turned (c.args.a, c.args.b) p)
    ∙ ap (λ (es : List ((ℕ × ℕ) × ℕ)). cond (is_pair p (c.args.a, c.args.b)) (Some c.args.n) (lookup (is_pair p) es)) (c.in_ok-reserve.ensures.entries ∙ c.self.view_is)

pub returns-clause-shown : goal.returns-clause-shown
returns-clause-shown c = λ t x y.
    supports_written t c.self.inside.pairs.entries c.insert.new.self.entries (c.args.a, c.args.b) c.args.n c.self.invariant.once c.in-Ok.ensures.unique
    (λ p. c.in-Ok.ensures.updates.0 p ∙ ap (λ b. cond b (Some c.args.n) (lookup (is_pair p) c.reserve.new.self.entries)) (pair_turned (c.args.a, c.args.b) p)
    ∙ ap (λ (es : List ((ℕ × ℕ) × ℕ)). cond (is_pair p (c.args.a, c.args.b)) (Some c.args.n) (lookup (is_pair p) es)) c.in_ok-reserve.ensures.entries) x y
    ∙ ap (λ (es : List ((ℕ × ℕ) × ℕ)). cond (is_pair (x, y) (c.args.a, c.args.b)) c.args.n (support_at (with_supports t es) x y)) c.self.view_is

pub invariant_of-self-2 : goal.invariant_of-self-2
invariant_of-self-2 c =
    let es = c.self.inside.pairs.entries in
    let m = c.reserve.new.self in
    let same = c.in_ok-reserve.ensures.entries in
    let none = ap (lookup (is_pair (c.args.a, c.args.b))) (same ∙ c.self.view_is) ∙ c.requires in
    let keys : keys_of c.insert.new.self.entries ≡ keys_of es ++ (c.args.a, c.args.b) ∷ [] =
    ap keys_of (c.in-Ok.ensures.entries ∙ insert_entry-new is_pair m (c.args.a, c.args.b) c.args.n none)
    ∙ map-append (λ (e : (ℕ × ℕ) × ℕ). e.0) m.entries (((c.args.a, c.args.b), c.args.n) ∷ [])
    ∙ ap (λ (fs : List ((ℕ × ℕ) × ℕ)). keys_of fs ++ (c.args.a, c.args.b) ∷ []) same in
    record {
      once = c.in-Ok.ensures.unique;
      from_are = λ x.
          c.in_ok-note_both.ensures.from x ∙ ap (λ ys. ys ++ cond (nat_eq x c.args.a) (c.args.b ∷ []) []) (c.self.invariant.from_are x)
          ∙ sym (ends_more (λ q. q.0) (λ q. q.1) (keys_of es) (c.args.a, c.args.b) x) ∙ ap (λ (ks : List (ℕ × ℕ)). ends_from ks x) (sym keys);
      onto_are = λ x.
          c.in_ok-note_both.ensures.onto x ∙ ap (λ ys. ys ++ cond (nat_eq x c.args.b) (c.args.a ∷ []) []) (c.self.invariant.onto_are x)
          ∙ sym (ends_more (λ q. q.1) (λ q. q.0) (keys_of es) (c.args.a, c.args.b) x) ∙ ap (λ (ks : List (ℕ × ℕ)). ends_onto ks x) (sym keys);
    }
