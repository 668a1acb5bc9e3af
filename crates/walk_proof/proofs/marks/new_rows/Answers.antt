use Rattle.std.proofs.Common.{◌≡◌, ◌+◌, ◌++◌, ◌∷◌, [], length, sym, ap, ◌∙◌, subst, arith}
use Rattle.walk_proof.specs.Marking.{row, IsMarked}
use Rattle.walk_proof.proofs.MarkLaws.{pushed_count, pushed_wide, pushed_unmarked}
use Rattle.walk_proof.proofs.marks.new_rows.Goals as goal

pub loop-preserved : goal.loop-preserved
loop-preserved c =
    let rows = c.loop.rows.items in
    let r = c.in_ok-new.field-0 in
    let items : c.push.new.self.items ≡ rows ++ r ∷ [] = c.in_ok-push.ensures.items in
    let size : r.size ≡ c.args.width = ap (λ x. x.size) c.in_ok-new.ensures in
    let members : r.members ≡ [] = ap (λ x. x.members) c.in_ok-new.ensures in
    let count : length c.push.new.self.items ≡ length rows + 1 = ap length items ∙ pushed_count rows r in
    record {
      count = count ∙ ap (λ n. n + 1) c.loop.invariant.count;
      wide = λ s h. subst (λ xs. (row xs s).size ≡ c.args.width) (sym items)
          (pushed_wide rows r c.args.width c.loop.invariant.wide size s (omega (arith, h, count)));
      unmarked = λ s d m. pushed_unmarked rows r c.loop.invariant.unmarked members s d (subst (λ xs. IsMarked xs s d) items m);
    }
