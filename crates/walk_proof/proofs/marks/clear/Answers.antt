use Rattle.std.proofs.Common.{◌≡◌, ◌+◌, ◌<◌, get_or, take, sym, subst, refl}
use Rattle.walk_proof.specs.Marking.{Among}
use Rattle.walk_proof.proofs.MarkLaws.{cleared_then}
use Rattle.walk_proof.proofs.PairLists.{no_pair, among_at, among_take_cases, take_grows, take_last}
use Rattle.walk_proof.proofs.marks.clear.Goals as goal

pub clear_one-requires : goal.clear_one-requires
clear_one-requires c =
    let p = get_or c.args.pairs.now c.loop-i.i no_pair in
    subst (λ n. p.state < n) (sym c.loop-i.invariant.count) (c.requires p.state p.place (among_at c.args.pairs.now c.loop-i.i p c.loop-i-test.true refl))

pub loop-i-preserved : goal.loop-i-preserved
loop-i-preserved c =
    let pairs = c.args.pairs.now in
    let i = c.loop-i.i in
    let p = get_or pairs i no_pair in
    cleared_then (Among (take i pairs)) (λ s x. (s ≡ p.state) × (x ≡ p.place)) (Among (take (i + 1) pairs)) c.args.rows.now.items c.loop-i.rows.items c.clear_one.new.rows.items
    (λ s x a. among_take_cases pairs i p c.loop-i-test.true refl s x a) (λ s x a. take_grows pairs i s x a)
    (λ s x e. subst (λ y. Among (take (i + 1) pairs) s y) (sym e.1) (subst (λ y. Among (take (i + 1) pairs) y p.place) (sym e.0) (take_last pairs i p c.loop-i-test.true refl)))
    c.loop-i.invariant c.clear_one.ensures
