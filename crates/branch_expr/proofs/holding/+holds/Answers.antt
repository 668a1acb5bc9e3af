use Rattle.std.proofs.Common.{◌≡◌, ◌↔◌, ◌∙◌, ◌∷◌, ℕ, sym, subst, arith, drop, vec_len, IsTrue}
use Rattle.std.specs.Prelude.{IfOk, OnOk}
use Rattle.std.proofs.lemmas.Result.{IfOk-weaker}
use Rattle.std.proofs.lemmas.Bool.Decides.{Decides-eqb}
use Rattle.graph_spec.specs.Members.{has}
use Rattle.path_automaton.specs.Digraphs.{shape_through}
use Rattle.branch_spec.specs.BranchAnswers.{Along, Passes, Meets, HoldsOr, HoldsAnd, Goes}
use Rattle.branch_expr.specs.Axes.{axis_of}
use Rattle.branch_expr.specs.QueryTrees.{test_of, step_of, chain_of, cond_of, and_from, and_of}
use Rattle.branch_expr.specs.Images.{Keeps, Loses}
use Rattle.branch_expr.specs.Sets.{IsSetOf}
use Rattle.branch_expr.specs.Axes.{turned}
use Rattle.branch_expr.proofs.SetLaws.{no_items, IsLed, set_plain, keeps_and, keeps_none, spared_plain, set_and, set_or, set_preds, set_go, set_hop, set_last, drop_back, drop_none}
use Rattle.branch_expr.proofs.holding.+holds.Goals as goal

pub rel_set-loop-j-preserved : goal.rel_set-loop-j-preserved
rel_set-loop-j-preserved g t c =
    let label_at = g.G.Digraph.label_at c.args.g.now in
    let s = shape_through g.G.Digraph c.args.labels.now c.args.g.now in
    let hs = c.args.rel.now.rest.items in
    let x = c.index-in-loop-j.result.now in
    let back = drop_back hs c.loop-j.j x (omega arith) (omega arith) c.index-in-loop-j.ensures in
    record {
      size = c.in_ok-set-2.ensures.size;
      holds = subst (λ y. IsSetOf label_at c.in_ok-set-2.set.members (Goes s (chain_of y))) (sym back)
          (set_go label_at s (g.met.G.Digraph.ends c.args.g.now) (axis_of x.axis) (step_of x.step) (chain_of (drop c.loop-j.j hs)) c.loop-j.set.members c.in_ok-set-2.set.members c.loop-j.invariant.holds c.in_ok-set-2.ensures.set);
    }

pub rel_set-returns-clause-set : goal.rel_set-returns-clause-set
rel_set-returns-clause-set g t c =
    let label_at = g.G.Digraph.label_at c.args.g.now in
    let edge = g.G.Digraph.edge c.args.g.now in
    let s = shape_through g.G.Digraph c.args.labels.now c.args.g.now in
    let h = c.args.rel.now.first in
    let hs = c.args.rel.now.rest.items in
    let behind = c.loop-j.set.members in
    let all = subst (λ y. IsSetOf label_at behind (Goes s (chain_of y))) (drop_none hs c.loop-j.j (omega arith)) c.loop-j.invariant.holds in
    IfOk-weaker c.hop_set-2.result (λ b. IsSetOf label_at b.members (λ v. (x : ℕ) × Along edge (axis_of h.axis) v x × Meets s (step_of h.step) x × IsTrue (has behind x))) _
    (λ b k. set_go label_at s (g.met.G.Digraph.ends c.args.g.now) (axis_of h.axis) (step_of h.step) (chain_of hs) behind b.members all k) c.hop_set-2.ensures.set

pub hop_set-returns-clause-set : goal.hop_set-returns-clause-set
hop_set-returns-clause-set g t c =
    let label_at = g.G.Digraph.label_at c.args.g.now in
    let edge = g.G.Digraph.edge c.args.g.now in
    let s = shape_through g.G.Digraph c.args.labels.now c.args.g.now in
    let h = c.args.hop.now in
    let both = c.intersect.new.set.members in
    let image = subst (λ a. IfOk c.along.result (λ b. (x : ℕ) → IsTrue (has b.members x) ↔ ((v : ℕ) × IsTrue (has both v) × Along edge a v x))) c.turned.ensures c.along.ensures.image in
    IfOk-weaker c.along.result (λ b. (x : ℕ) → IsTrue (has b.members x) ↔ ((v : ℕ) × IsTrue (has both v) × Along edge (turned (axis_of h.axis)) v x)) _
    (λ b k. set_hop label_at edge (g.met.G.Digraph.ends c.args.g.now) (axis_of h.axis) (Meets s (step_of h.step)) c.in_ok-ends.ends.members c.args.behind.now.members both b.members
    c.in_ok-ends.ensures.set c.intersect.ensures.members k) image

pub keep_and-loop-j-preserved : goal.keep_and-loop-j-preserved
keep_and-loop-j-preserved g t c =
    let label_at = g.G.Digraph.label_at c.args.g.now in
    let s = shape_through g.G.Digraph c.args.labels.now c.args.g.now in
    record {
      size = c.in_ok-keep_cond-2.ensures.size ∙ c.loop-j.invariant.size;
      keeps = keeps_and label_at s (g.met.G.Digraph.ends c.args.g.now) (cond_of c.args.and.now.first) c.args.and.now.more.items c.loop-j.j c.index.result.now (omega arith) c.index.ensures
          c.args.set.now.members c.loop-j.set.members c.keep_cond-in-loop-j.new.set.members c.loop-j.invariant.keeps c.in_ok-keep_cond-2.ensures.keeps;
    }

pub or_set-loop-j-preserved : goal.or_set-loop-j-preserved
or_set-loop-j-preserved g t c =
    let label_at = g.G.Digraph.label_at c.args.g.now in
    let s = shape_through g.G.Digraph c.args.labels.now c.args.g.now in
    record {
      size = c.unite.ensures.size ∙ c.loop-j.invariant.size;
      holds = set_or label_at s (g.met.G.Digraph.ends c.args.g.now) (and_of c.or.inside.first) c.or.inside.more.items c.loop-j.j c.index.result.now (omega arith) c.index.ensures
          c.loop-j.set.members c.in_ok-next.next.members c.unite.new.set.members c.loop-j.invariant.holds c.in_ok-next.ensures.set c.unite.ensures.members;
    }

pub and_set-loop-j-preserved : goal.and_set-loop-j-preserved
and_set-loop-j-preserved g t c =
    let label_at = g.G.Digraph.label_at c.args.g.now in
    let s = shape_through g.G.Digraph c.args.labels.now c.args.g.now in
    record {
      size = c.in_ok-keep_cond.ensures.size ∙ c.loop-j.invariant.size;
      holds = set_and label_at s (g.met.G.Digraph.ends c.args.g.now) (cond_of c.args.and.now.first) c.args.and.now.more.items c.loop-j.j c.index.result.now (omega arith) c.index.ensures
          c.loop-j.set.members c.keep_cond.new.set.members c.loop-j.invariant.holds c.in_ok-keep_cond.ensures.keeps;
    }

pub step_set-loop-j-preserved : goal.step_set-loop-j-preserved
step_set-loop-j-preserved g t c =
    let label_at = g.G.Digraph.label_at c.args.g.now in
    let s = shape_through g.G.Digraph c.args.labels.now c.args.g.now in
    record {
      size = c.in_ok-keep_or.ensures.size ∙ c.loop-j.invariant.size;
      holds = set_preds label_at s (g.met.G.Digraph.ends c.args.g.now) c.args.step.now.preds.items c.loop-j.j c.index-in-loop-j.result.now (omega arith) c.index-in-loop-j.ensures
          c.loop-j.set.members c.keep_or.new.set.members c.loop-j.invariant.holds c.in_ok-keep_or.ensures.keeps;
    }

pub keep_cond-returns-in-Group-clause-keeps : goal.keep_cond-returns-in-Group-clause-keeps
keep_cond-returns-in-Group-clause-keeps g t c =
    let label_at = g.G.Digraph.label_at c.args.g.now in
    let s = shape_through g.G.Digraph c.args.labels.now c.args.g.now in
    rw c.in-Group.is (subst (λ o. OnOk c.keep_or.result (Keeps c.args.set.now.members c.keep_or.new.set.members (HoldsOr s o))) c.deref-in-Group.ensures c.keep_or.ensures.keeps)

pub last_set-returns-then-is_empty-clause-set : goal.last_set-returns-then-is_empty-clause-set
last_set-returns-then-is_empty-clause-set g t c =
    let label_at = g.G.Digraph.label_at c.args.g.now in
    let s = shape_through g.G.Digraph c.args.labels.now c.args.g.now in
    let h = c.args.hop.now in
    let test = test_of h.step.test in
    let preds = h.step.preds.items in
    let empty : vec_len h.step.preds ≡ 0 = (Decides-eqb (vec_len h.step.preds) 0).0 (sym c.if-is_empty.ensures) in
    let none = no_items preds (omega (arith, empty)) in
    let image = subst (λ a. IfOk c.axis_leading.result (λ b. IsLed label_at s (g.met.G.Digraph.ends c.args.g.now) a test b.members)) c.turned.ensures c.axis_leading.ensures.image in
    IfOk-weaker c.axis_leading.result (λ b. IsLed label_at s (g.met.G.Digraph.ends c.args.g.now) (turned (axis_of h.axis)) test b.members) _
    (λ b k. set_plain label_at s (g.met.G.Digraph.ends c.args.g.now) (axis_of h.axis) test preds b.members none k) image

pub last_set-returns-clause-set : goal.last_set-returns-clause-set
last_set-returns-clause-set g t c =
    let label_at = g.G.Digraph.label_at c.args.g.now in
    let edge = g.G.Digraph.edge c.args.g.now in
    let s = shape_through g.G.Digraph c.args.labels.now c.args.g.now in
    let h = c.args.hop.now in
    let step = c.in_ok-met.met.members in
    let image = subst (λ a. IfOk c.along.result (λ b. (x : ℕ) → IsTrue (has b.members x) ↔ ((v : ℕ) × IsTrue (has step v) × Along edge a v x))) c.turned-2.ensures c.along.ensures.image in
    IfOk-weaker c.along.result (λ b. (x : ℕ) → IsTrue (has b.members x) ↔ ((v : ℕ) × IsTrue (has step v) × Along edge (turned (axis_of h.axis)) v x)) _
    (λ b k. set_last label_at edge (g.met.G.Digraph.ends c.args.g.now) (axis_of h.axis) (Meets s (step_of h.step)) step b.members c.in_ok-met.ensures.set k) image

pub deny_or-loop-j-preserved : goal.deny_or-loop-j-preserved
deny_or-loop-j-preserved g t c =
    let label_at = g.G.Digraph.label_at c.args.g.now in
    let s = shape_through g.G.Digraph c.args.labels.now c.args.g.now in
    record {
      size = c.in_ok-deny_and-2.ensures.size ∙ c.loop-j.invariant.size;
      keeps = keeps_none label_at s (g.met.G.Digraph.ends c.args.g.now) (and_of c.or.inside.first) c.or.inside.more.items c.loop-j.j c.index.result.now (omega arith) c.index.ensures
          c.args.set.now.members c.loop-j.set.members c.deny_and-in-loop-j.new.set.members c.loop-j.invariant.keeps c.in_ok-deny_and-2.ensures.keeps;
    }

pub deny_last-returns-then-is_empty-clause-keeps : goal.deny_last-returns-then-is_empty-clause-keeps
deny_last-returns-then-is_empty-clause-keeps g t c =
    let label_at = g.G.Digraph.label_at c.args.g.now in
    let s = shape_through g.G.Digraph c.args.labels.now c.args.g.now in
    let h = c.args.hop.now in
    let test = test_of h.step.test in
    let preds = h.step.preds.items in
    let old = c.args.set.now.members in
    let new = c.deny_axis.new.set.members in
    let empty : vec_len h.step.preds ≡ 0 = (Decides-eqb (vec_len h.step.preds) 0).0 (sym c.if-is_empty.ensures) in
    let none = no_items preds (omega (arith, empty)) in
    let image = subst (λ a. OnOk c.deny_axis.result ((x : ℕ) → IsTrue (has new x) ↔ (IsTrue (has old x) × (((v : ℕ) × Passes s test v × Along s.edge a v x) → ⊥)))) c.turned.ensures c.deny_axis.ensures.spared in
    IfOk-weaker c.deny_axis.result (λ u. (x : ℕ) → IsTrue (has new x) ↔ (IsTrue (has old x) × (((v : ℕ) × Passes s test v × Along s.edge (turned (axis_of h.axis)) v x) → ⊥))) _
    (λ u k. spared_plain label_at s (g.met.G.Digraph.ends c.args.g.now) (axis_of h.axis) test preds old new none k) image

pub deny_cond-returns-in-Rel-clause-keeps : goal.deny_cond-returns-in-Rel-clause-keeps
deny_cond-returns-in-Rel-clause-keeps g t c = rw c.in-Rel.is c.deny_rel.ensures.keeps

pub deny_rel-returns-then-is_empty-clause-keeps : goal.deny_rel-returns-then-is_empty-clause-keeps
deny_rel-returns-then-is_empty-clause-keeps g t c =
    let label_at = g.G.Digraph.label_at c.args.g.now in
    let s = shape_through g.G.Digraph c.args.labels.now c.args.g.now in
    let rest = c.args.rel.now.rest in
    let empty : vec_len rest ≡ 0 = (Decides-eqb (vec_len rest) 0).0 (sym c.if-is_empty.ensures) in
    subst (λ y. OnOk c.deny_last.result (Keeps c.args.set.now.members c.deny_last.new.set.members (λ v. Goes s (chain_of (c.args.rel.now.first ∷ y)) v → ⊥)))
    (no_items rest.items (omega (arith, empty))) c.deny_last.ensures.keeps

pub keep_cond-returns-in-Not-clause-keeps : goal.keep_cond-returns-in-Not-clause-keeps
keep_cond-returns-in-Not-clause-keeps g t c =
    let label_at = g.G.Digraph.label_at c.args.g.now in
    let s = shape_through g.G.Digraph c.args.labels.now c.args.g.now in
    rw c.in-Not.is (subst (λ o. OnOk c.deny_or.result (Keeps c.args.set.now.members c.deny_or.new.set.members (λ v. HoldsOr s o v → ⊥))) c.deref.ensures c.deny_or.ensures.keeps)

pub deny_and-returns-then-is_empty-clause-keeps : goal.deny_and-returns-then-is_empty-clause-keeps
deny_and-returns-then-is_empty-clause-keeps g t c =
    let s = shape_through g.G.Digraph c.args.labels.now c.args.g.now in
    let more = c.args.and.now.more in
    let empty : vec_len more ≡ 0 = (Decides-eqb (vec_len more) 0).0 (sym c.if-is_empty.ensures) in
    subst (λ y. OnOk c.deny_cond.result (Loses c.args.set.now.members c.deny_cond.new.set.members (HoldsAnd s (and_from (cond_of c.args.and.now.first) y))))
    (no_items more.items (omega (arith, empty))) c.deny_cond.ensures.keeps
