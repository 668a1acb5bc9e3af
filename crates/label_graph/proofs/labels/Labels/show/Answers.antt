use Rattle.std.proofs.Common.{ap, sym, subst, arith, length, ◌∙◌, ◌<◌, ◌≤◌, ◌+◌, ◌^◌}
use Rattle.std.specs.Prelude.{bytes_eq}
use Rattle.std.specs.List.{IsDistinct}
use Rattle.std.proofs.lemmas.List.{length-take-le}
use Rattle.std.proofs.lemmas.List.Edits.{length-swap}
use Rattle.label_graph.specs.LabelTable.{entries, table_of}
use Rattle.label_graph.proofs.Tables.{shown-more, shown-same, number-more, number-same, entries-of, swap-distinct}
use Rattle.label_graph.proofs.labels.Labels.show.Goals as goal

pub bring_forward-requires : goal.bring_forward-requires
bring_forward-requires c =
    let s = c.self.inside in
    let entry : c.args.l < length s.table.keys = omega (arith, c.requires.entry, ap (λ l. length (entries l)) c.self.view_is, ap length (entries-of s.table.keys s.effective)) in
    record { first = omega (arith, entry, c.if-l-self.false); entry = entry }

pub invariant_of-self : goal.invariant_of-self
invariant_of-self c =
    let s = c.self.inside in
    let long = length-take-le s.effective s.table.keys c.self.invariant.within in
    let late : s.effective ≤ c.args.l = omega (arith, c.if-l-self.false) in
    let few : s.effective + 1 ≤ 2 ^ 30 = omega (arith, c.requires.few (omega (arith, late, long, ap (λ l. length l.texts) c.self.view_is)), ap (λ l. length l.texts) c.self.view_is, long) in
    let entry : c.args.l < length s.table.keys = omega (arith, c.requires.entry, ap (λ l. length (entries l)) c.self.view_is, ap length (entries-of s.table.keys s.effective)) in
    let keys = c.bring_forward.ensures in
    let size = ap length keys ∙ length-swap s.table.keys s.effective c.args.l in
    record {
      within = omega (arith, entry, late, size);
      few = few;
      few_keys = omega (arith, size, c.self.invariant.few_keys);
      once = subst (IsDistinct bytes_eq) (sym keys) (swap-distinct s.table.keys s.effective c.args.l (omega (arith, entry, late)) entry c.self.invariant.once);
    }

pub returns-then-l-self-clause-shown : goal.returns-then-l-self-clause-shown
returns-then-l-self-clause-shown c =
    let s = c.self.inside in
    rw (← c.self.view_is) (shown-same s.table.keys s.effective c.args.l c.self.invariant.within c.if-l-self.true)

pub returns-then-l-self-clause-number : goal.returns-then-l-self-clause-number
returns-then-l-self-clause-number c =
    let s = c.self.inside in
    rw (← c.self.view_is) (number-same s.table.keys s.effective c.args.l c.self.invariant.within c.if-l-self.true)

pub returns-clause-shown : goal.returns-clause-shown
returns-clause-shown c =
    let s = c.self.inside in
    rw (← c.self.view_is) (ap (λ k. table_of k (s.effective + 1)) c.bring_forward.ensures ∙ shown-more s.table.keys s.effective c.args.l c.self.invariant.within c.if-l-self.false)

pub returns-clause-number : goal.returns-clause-number
returns-clause-number c =
    let s = c.self.inside in
    rw (← c.self.view_is) (number-more s.table.keys s.effective c.args.l c.self.invariant.within c.if-l-self.false)
