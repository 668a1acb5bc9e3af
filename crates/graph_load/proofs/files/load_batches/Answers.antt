use Rattle.std.proofs.Common.{[], Ok, Err, ap, sym, refl, ◌∙◌, rules}
use Rattle.px_base.specs.ReaderStates.{stream}
use Rattle.graph_load.specs.declared.batch.Next.TheVariants.{Lines, End, Syntax, Limit}
use Rattle.graph_load.specs.Loads as outcome
use Rattle.graph_load.specs.Loaders.{load_state}
use Rattle.graph_load.specs.LoadSteps.{with_all, AreLoaded, OneStops}
use Rattle.graph_load.proofs.LineSteps.{tells_map, batch_leads}
use Rattle.graph_load.proofs.files.load_batches.Goals as goal

pub batches-init : goal.batches-init
batches-init g c = record {
  none = c.requires.none;
  triples = [];
  holds = c.requires.nothing;
  leads = λ o h. h;
  sound = c.requires.sound;
  can = c.requires.can;
  files = refl;
  faults = refl;
}

pub batches-preserved : goal.batches-preserved
batches-preserved g c =
    let inv = c.batches.invariant in
    let loaded : AreLoaded c.args.limits.now c.as_slice.result.now c.batches.loader c.add_all.new.self = search rules in
    let d = loaded.does inv.triples inv.holds in
    let all = ap (λ ws. with_all c.args.limits.now ws (load_state c.batches.loader inv.triples)) (sym c.as_slice.ensures.value) ∙ d.2 in
    record {
      none = c.give_back.ensures;
      triples = d.0;
      holds = d.1;
      leads = batch_leads c.args.limits.now c.batches.reader c.read_batch.new.reader (stream c.batches.reader (g.H.Shelf.left c.batches.shelf)) (stream c.read_batch.new.reader (g.H.Shelf.left c.read_batch.new.shelf))
          c.batches.waiting.items c.read_batch.new.waiting.items Lines (load_state c.batches.loader inv.triples) (Ok (load_state c.add_all.new.self d.0)) _
          inv.none (rw (c.in-Ok.is, c.in-Lines.is) at c.read_batch.ensures.reads) all inv.leads;
      sound = loaded.sound;
      can = rw (c.in-Ok.is, c.in-Lines.is) at c.read_batch.ensures.can;
      files = search rules;
      faults = search rules;
    }

pub returns-in-End-clause-loaded : goal.returns-in-End-clause-loaded
returns-in-End-clause-loaded g c =
    let inv = c.batches.invariant in
    let loaded : AreLoaded c.args.limits.now c.as_slice.result.now c.batches.loader c.add_all.new.self = search rules in
    let d = loaded.does inv.triples inv.holds in
    let all = ap (λ ws. with_all c.args.limits.now ws (load_state c.batches.loader inv.triples)) (sym c.as_slice.ensures.value) ∙ d.2 in (
      d.0,
      d.1,
      batch_leads c.args.limits.now c.batches.reader c.read_batch.new.reader (stream c.batches.reader (g.H.Shelf.left c.batches.shelf)) (stream c.read_batch.new.reader (g.H.Shelf.left c.read_batch.new.shelf))
          c.batches.waiting.items c.read_batch.new.waiting.items End (load_state c.batches.loader inv.triples) (Ok (load_state c.add_all.new.self d.0)) _
          inv.none (rw (c.in-Ok.is, c.in-End.is) at c.read_batch.ensures.reads) all inv.leads (outcome.loaded (load_state c.add_all.new.self d.0)) refl,
    )

pub returns-in-Syntax-clause-refused : goal.returns-in-Syntax-clause-refused
returns-in-Syntax-clause-refused g c =
    let inv = c.batches.invariant in
    let loaded : AreLoaded c.args.limits.now c.as_slice.result.now c.batches.loader c.add_all.new.self = search rules in
    let d = loaded.does inv.triples inv.holds in
    let all = ap (λ ws. with_all c.args.limits.now ws (load_state c.batches.loader inv.triples)) (sym c.as_slice.ensures.value) ∙ d.2 in
    batch_leads c.args.limits.now c.batches.reader c.read_batch.new.reader (stream c.batches.reader (g.H.Shelf.left c.batches.shelf)) (stream c.read_batch.new.reader (g.H.Shelf.left c.read_batch.new.shelf))
    c.batches.waiting.items c.read_batch.new.waiting.items (Syntax c.in-Syntax.line) (load_state c.batches.loader inv.triples) (Ok (load_state c.add_all.new.self d.0)) _
    inv.none (rw (c.in-Ok.is, c.in-Syntax.is) at c.read_batch.ensures.reads) all inv.leads (outcome.syntax c.in-Syntax.line) refl

pub returns-in-Limit-clause-refused : goal.returns-in-Limit-clause-refused
returns-in-Limit-clause-refused g c =
    let inv = c.batches.invariant in
    let loaded : AreLoaded c.args.limits.now c.as_slice.result.now c.batches.loader c.add_all.new.self = search rules in
    let d = loaded.does inv.triples inv.holds in
    let all = ap (λ ws. with_all c.args.limits.now ws (load_state c.batches.loader inv.triples)) (sym c.as_slice.ensures.value) ∙ d.2 in
    batch_leads c.args.limits.now c.batches.reader c.read_batch.new.reader (stream c.batches.reader (g.H.Shelf.left c.batches.shelf)) (stream c.read_batch.new.reader (g.H.Shelf.left c.read_batch.new.shelf))
    c.batches.waiting.items c.read_batch.new.waiting.items (Limit c.in-Limit.line) (load_state c.batches.loader inv.triples) (Ok (load_state c.add_all.new.self d.0)) _
    inv.none (rw (c.in-Ok.is, c.in-Limit.is) at c.read_batch.ensures.reads) all inv.leads (outcome.limit c.in-Limit.line) refl

pub returns-in-Err-add_all-clause-refused : goal.returns-in-Err-add_all-clause-refused
returns-in-Err-add_all-clause-refused g c =
    let inv = c.batches.invariant in
    tells_map (OneStops c.args.limits.now c.as_slice.result.now c.batches.loader) _ (λ o stops.
    let s = stops inv.triples inv.holds in
    batch_leads c.args.limits.now c.batches.reader c.read_batch.new.reader (stream c.batches.reader (g.H.Shelf.left c.batches.shelf)) (stream c.read_batch.new.reader (g.H.Shelf.left c.read_batch.new.shelf))
    c.batches.waiting.items c.read_batch.new.waiting.items c.in-Ok.next (load_state c.batches.loader inv.triples) (Err s.0) _
    inv.none (rw c.in-Ok.is at c.read_batch.ensures.reads) (ap (λ ws. with_all c.args.limits.now ws (load_state c.batches.loader inv.triples)) (sym c.as_slice.ensures.value) ∙ s.2) inv.leads o s.1)
    c.in-Err-add_all.error c.in-Err-add_all.ensures.stopped
