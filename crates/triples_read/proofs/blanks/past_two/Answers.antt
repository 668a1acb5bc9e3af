use Rattle.std.proofs.Common.{◌≡◌, ◌∷◌, ◌∙◌, sym, ap, List, ℕ, false}
use Rattle.triples_read.specs.ByteReaders.{starts_with}
use Rattle.triples_read.proofs.Basics.{no_both, cons-tail}
use Rattle.triples_read.proofs.PrefixLaws.{starts-same, match-map}
use Rattle.triples_read.proofs.blanks.past_two.Goals as goal

pub returns-in_default : goal.returns-in_default
returns-in_default c x is = no_both _ (starts-same c.args.first c.args.text.now (c.args.second ∷ x) is) c.in_default.ensures

pub returns : goal.returns
returns c =
    match-map (starts_with c.args.second c.in-Some.behind.now ≡ false) ((x : List ℕ) → c.args.text.now ≡ c.args.first ∷ c.args.second ∷ x → ⊥)
    (λ after. c.in-Some.behind.now ≡ c.args.second ∷ after.now) (λ after. c.args.text.now ≡ c.args.first ∷ c.args.second ∷ after.now) c.past_byte-2.result
    (λ none x is. no_both _ (starts-same c.args.second c.in-Some.behind.now x (cons-tail (sym c.in-Some.ensures ∙ is))) none)
    (λ after eq. c.in-Some.ensures ∙ ap (λ (z : List ℕ). c.args.first ∷ z) eq) c.past_byte-2.ensures
