use Rattle.std.proofs.Common.{◌∙◌, ap, sym, subst, arith, ◌++◌, ◌∷◌, [], length, false, ◌≡◌, length-append}
use Rattle.std.specs.Prelude.{bytes_eq, if◌then◌else◌}
use Rattle.std.specs.List.{IsDistinct}
use Rattle.indexmap.specs.IndexSet.{insert_key}
use Rattle.graph_spec.specs.Graphs.{is_seen}
use Rattle.label_graph.specs.LabelTable.{entries}
use Rattle.label_graph.proofs.Tables.{put-ahead, distinct-more, entries-of}
use Rattle.label_graph.proofs.labels.Labels.put_ahead.Goals as goal

pub invariant_of-self-2 : goal.invariant_of-self-2
invariant_of-self-2 c =
    let s = c.self.inside in
    let t = c.args.text.now in
    let unseen : is_seen s.table.keys t ≡ false =
    ap (λ k. is_seen k t) (sym (entries-of s.table.keys s.effective)) ∙ ap (λ l. is_seen (entries l) t) c.self.view_is ∙ c.requires.unseen in
    let keys : c.insert.new.self.keys ≡ s.table.keys ++ t ∷ [] =
    c.in_ok-insert.ensures.keys ∙ ap (insert_key bytes_eq s.table.keys) c.in_ok-key.ensures ∙ ap (λ b. if b then s.table.keys else (s.table.keys ++ t ∷ [])) unseen in
    record {
      within = omega (arith, ap length keys, length-append s.table.keys (t ∷ []), c.self.invariant.within);
      few = c.self.invariant.few;
      few_keys = omega (arith, ap length keys, length-append s.table.keys (t ∷ []), c.if-l-ge-MOST_ENTRIES.false, c.len-l.ensures.len);
      once = subst (IsDistinct bytes_eq) (sym keys) (distinct-more s.table.keys t c.self.invariant.once unseen);
    }

pub returns-clause-ok : goal.returns-clause-ok
returns-clause-ok c =
    let s = c.self.inside in
    let t = c.args.text.now in
    let unseen : is_seen s.table.keys t ≡ false =
    ap (λ k. is_seen k t) (sym (entries-of s.table.keys s.effective)) ∙ ap (λ l. is_seen (entries l) t) c.self.view_is ∙ c.requires.unseen in
    let keys : c.insert.new.self.keys ≡ s.table.keys ++ t ∷ [] =
    c.in_ok-insert.ensures.keys ∙ ap (insert_key bytes_eq s.table.keys) c.in_ok-key.ensures ∙ ap (λ b. if b then s.table.keys else (s.table.keys ++ t ∷ [])) unseen in
    rw (← c.self.view_is, keys) (put-ahead s.table.keys s.effective t c.self.invariant.within)

pub returns-clause-number : goal.returns-clause-number
returns-clause-number c =
    let s = c.self.inside in
    omega (arith, c.len-l.ensures.len, ap (λ l. length (entries l)) c.self.view_is, ap length (entries-of s.table.keys s.effective))
