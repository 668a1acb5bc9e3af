use Rattle.std.proofs.Common.{◌<◌, ◌∙◌, [], sym, subst, IsTrue}
use Rattle.std.specs.Prelude.{slice_get}
use Rattle.std.proofs.lemmas.List.{get_or_read}
use Rattle.graph_spec.specs.Members.{has}
use Rattle.walk_proof.proofs.LoopLaws.{takes_leads}
use Rattle.walk_proof.proofs.Inside.{leads_within}
use Rattle.walk_proof.proofs.tracing.is_first.Goals as goal

pub takes_one-requires-clause-sources : goal.takes_one-requires-clause-sources
takes_one-requires-clause-sources g c s h =
    let k = c.args.pair.state in
    let own = c.states.ensures ∙ get_or_read c.args.sources.now k _ (subst (λ n. k < n) (sym c.requires.count) c.requires.pair) c.index-sources-pair.is [] in
    leads_within c.args.program.now s k (c.requires.sources.only s k (subst (λ l. IsTrue (has l s)) own h))

pub returns-then-is_node-clause-all : goal.returns-then-is_node-clause-all
returns-then-is_node-clause-all g c some behind =
    let k = c.args.pair.state in
    let own = c.states.ensures ∙ get_or_read c.args.sources.now k _ (subst (λ n. k < n) (sym c.requires.count) c.requires.pair) c.index-sources-pair.is [] in
    let listed = c.requires.sources.from behind.0 k (takes_leads (g.G.Digraph.label_at c.args.g.now) (slice_get c.args.program.now behind.0) c.args.pair.place k behind.2) in
    c.takes_one.ensures.all behind.0 (subst (λ l. IsTrue (has l behind.0)) (sym own) listed) (behind.1, behind.2)
