use Rattle.std.proofs.Common.{◌≡◌, ◌||◌, true, ◌∷◌, ap, sym, ◌∙◌}
use Rattle.std.specs.Prelude.{nat_eq}
use Rattle.std.proofs.lemmas.Bool.{or_left, or_right}
use Rattle.std.proofs.lemmas.Bool.Decides.{Decides-eqb}
use Rattle.graph_spec.specs.Members.{has}
use Rattle.block_partition.specs.LabelledPartitions.{is_member}
use Rattle.index_eval.proofs.BlockSets.{moved}
use Rattle.index_eval.proofs.summary_answers.add_extent.Goals as goal

pub insert-requires : goal.insert-requires
insert-requires c =
    let n = c.in-Some.n in
    let first : has (n ∷ c.next.new.self) n ≡ true = or_left (nat_eq n n) (has c.next.new.self n) ((Decides-eqb n n).1 (λ i. n)) in
    c.loop-n.invariant.below n (ap (λ l. has l n) c.in-Some.ensures.steps ∙ first)

pub loop-n-preserved : goal.loop-n-preserved
loop-n-preserved c =
    let n = c.in-Some.n in
    let rest = c.next.new.self in
    let steps = c.in-Some.ensures.steps in
    let set = c.loop-n.set.members in
    record {
      next = tt;
      finite = tt;
      size = c.insert.ensures.size ∙ c.loop-n.invariant.size;
      rising = c.insert.ensures.rising;
      below = λ m h.
          (let l = c.loop-n.invariant.below m (ap (λ l. has l m) steps ∙ or_right (nat_eq m n) (has rest m) h) in rw c.insert.ensures.size l);
      members = λ m.
          ap (λ t. has rest m || t) (c.insert.ensures.members m)
          ∙ moved (nat_eq m n) (has rest m) (has set m) (is_member c.args.summary.now.blocks c.args.b m || has c.args.set.now.members m)
          (ap (λ l. has l m || has set m) (sym steps) ∙ c.loop-n.invariant.members m);
    }
