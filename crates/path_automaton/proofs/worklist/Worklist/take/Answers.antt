use Rattle.std.proofs.Common.{◌≡◌, ◌∙◌, ◌-◌, ap, subst, sym, length, take, arith, Some}
use Rattle.std.specs.Prelude.{slice_get}
use Rattle.path_automaton.specs.ListedPairs.{pairs_in, AreRuns, IsTaken}
use Rattle.path_automaton.proofs.Runs.{last_of, taken, tail_is}
use Rattle.path_automaton.proofs.worklist.Worklist.take.Goals as goal

pub overflow_sub-from : goal.overflow_sub-from
overflow_sub-from c =
    let rs = c.self.inside.runs.items in
    let there : slice_get rs (length rs - 1) ≡ Some c.in-Some.run' =
    ap (λ x. slice_get x (length x - 1)) (sym c.deref.ensures.value) ∙ sym c.last.ensures.value ∙ sym c.copied.ensures ∙ c.in-Some.is in
    let h = last_of rs c.in-Some.run' c.self.inside.places.items there c.self.invariant in
    let f = h.fits in
    omega arith

pub invariant_of-self : goal.invariant_of-self
invariant_of-self c =
    let rs = c.self.inside.runs.items in
    let ps = c.self.inside.places.items in
    let r = c.in-Some.run' in
    let there : slice_get rs (length rs - 1) ≡ Some r =
    ap (λ x. slice_get x (length x - 1)) (sym c.deref.ensures.value) ∙ sym c.last.ensures.value ∙ sym c.copied.ensures ∙ c.in-Some.is in
    let h = last_of rs r ps there c.self.invariant in
    let runs : c.len-2.result ≡ length rs = c.len-2.ensures ∙ sym c.deref.ensures.len ∙ ap length c.deref.ensures.value in
    let places : c.len.result ≡ length ps = c.len.ensures ∙ sym c.deref-2.ensures.len ∙ ap length c.deref-2.ensures.value in
    subst (λ x. AreRuns x c.truncate.new.self.items) (sym (c.truncate-2.ensures.items ∙ ap (λ n. take (n - 1) rs) runs))
    (subst (AreRuns (take (length rs - 1) rs)) (sym (c.truncate.ensures.items ∙ ap (λ n. take (n - r.len) ps) places)) h.others)

pub returns : goal.returns
returns c =
    let rs = c.self.inside.runs.items in
    let ps = c.self.inside.places.items in
    let r = c.in-Some.run' in
    let there : slice_get rs (length rs - 1) ≡ Some r =
    ap (λ x. slice_get x (length x - 1)) (sym c.deref.ensures.value) ∙ sym c.last.ensures.value ∙ sym c.copied.ensures ∙ c.in-Some.is in
    let runs : c.len-2.result ≡ length rs = c.len-2.ensures ∙ sym c.deref.ensures.len ∙ ap length c.deref.ensures.value in
    let places : c.len.result ≡ length ps = c.len.ensures ∙ sym c.deref-2.ensures.len ∙ ap length c.deref-2.ensures.value in
    let cut : c.len.result - r.len ≡ length ps - r.len = ap (λ n. n - r.len) places in
    subst (λ x. IsTaken x (pairs_in c.truncate-2.new.self.items c.truncate.new.self.items) r.state c.extend_from_slice.new.self.items) c.self.view_is
    (taken rs c.truncate-2.new.self.items r ps c.truncate.new.self.items c.extend_from_slice.new.self.items there c.self.invariant
    (c.truncate-2.ensures.items ∙ ap (λ n. take (n - 1) rs) runs) (c.truncate.ensures.items ∙ ap (λ n. take (n - r.len) ps) places)
    (tail_is c.clear.new.self.items c.deref-2.result.now ps c.extend_from_slice.new.self.items (c.len.result - r.len) (length ps - r.len)
    c.clear.ensures.items c.deref-2.ensures.value cut c.in_ok-extend_from_slice.ensures.items))
