use Rattle.std.proofs.Common.{ap}
use Rattle.px_base.specs.ReaderStates.{ReaderState}
use Rattle.graph_load.specs.Loads as outcome
use Rattle.graph_load.specs.Loaders.{load_state}
use Rattle.graph_load.specs.LoadSteps.{LoadsTables}
use Rattle.graph_load.proofs.LineSteps.{start_leads}
use Rattle.graph_load.proofs.files.load_into.Goals as goal

pub returns-in-Ok-clause-loaded : goal.returns-in-Ok-clause-loaded
returns-in-Ok-clause-loaded g c =
    let reader = c.in_ok-reader.ensures in
    let w : LoadsTables c.args.limits.now c.in_ok-reader.reader (g.H.Shelf.left c.args.shelf.now) c.args.loader.now c.load_batches.new.loader = rw c.in-Ok.is at c.load_batches.ensures.loaded in (
      w.0,
      w.1,
      start_leads c.args.limits.now c.in_ok-reader.reader c.args.loader.now (g.H.Shelf.left c.args.shelf.now)
          (ap (λ (x : ReaderState). x.ahead) reader) (ap (λ (x : ReaderState). x.number) reader) (ap (λ (x : ReaderState). x.taken) reader) c.requires.empty
          (outcome.loaded (load_state c.load_batches.new.loader w.0)) w.2,
    )
