use Rattle.std.proofs.Common.{subst, List, ℕ, refl}
use Rattle.triples_read.specs.SpelledPrefixes.{IsText}
use Rattle.triples_read.proofs.LineLaws.{after-subject-ends, text-behind}
use Rattle.triples_read.proofs.line.read_triple.Goals as goal

pub returns-in_default-clause-whole : goal.returns-in_default-clause-whole
returns-in_default-clause-whole c cs t is (s, r, parts, named, after) =
    let text = subst (λ (z : List ℕ). IsText c.args.text.now z) parts is in
    let whole = rw c.in_default.is at c.in_ok-subject.ensures.whole in
    whole s r t.subject text named (after-subject-ends r t.predicate t.object after)

pub returns-in_default-2-clause-whole : goal.returns-in_default-2-clause-whole
returns-in_default-2-clause-whole c cs t is (s, r, parts, named, after) =
    let text = subst (λ (z : List ℕ). IsText c.args.text.now z) parts is in
    let whole = rw c.in-Some.is at c.in_ok-subject.ensures.whole in
    let both = whole s r t.subject text named (after-subject-ends r t.predicate t.object after) in
    let next = rw c.in_default-2.is at c.in_ok-predicate.ensures.whole in
    next r t.predicate t.object (text-behind c.args.text.now c.in-Some.rest.now s r text both.1) after

pub returns-clause-whole : goal.returns-clause-whole
returns-clause-whole c cs t is (s, r, parts, named, after) =
    let text = subst (λ (z : List ℕ). IsText c.args.text.now z) parts is in
    let whole = rw c.in-Some.is at c.in_ok-subject.ensures.whole in
    let both = whole s r t.subject text named (after-subject-ends r t.predicate t.object after) in
    let next = rw c.in-Some-2.is at c.in_ok-predicate.ensures.whole in
    let last = next r t.predicate t.object (text-behind c.args.text.now c.in-Some.rest.now s r text both.1) after in
    rw (both.0, last.0, last.1) refl
