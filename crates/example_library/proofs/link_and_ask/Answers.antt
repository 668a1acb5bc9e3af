use Rattle.std.proofs.Common.{◌≡◌, [], ◌∷◌, Ok, subst}
use Rattle.graph_spec.specs.ProgramLimits.{program_limits}
use Rattle.graph_spec.specs.Shapes.{shape_of}
use Rattle.change_spec.specs.Steps.{apply, link}
use Rattle.graph_load.specs.Loads.{Loads, loaded}
use Rattle.branch_query.specs.Queries.{AreQueryAnswers}
use Rattle.path_query.specs.Parsed.{SpellsPath}
use Rattle.pathindex_core.specs.Engines.{graph_in}
use Rattle.example_library.proofs.Facts.{of_kept, not_refused, after_change}
use Rattle.example_library.proofs.link_and_ask.Goals as goal

pub returns : goal.returns
returns c =
    let opens = of_kept _ _ _ _ c.ok.ensures.value c.in_ok-session.was c.open.ensures.opened in
    let asked = of_kept _ _ _ (λ x. x ≡ link 3 0 ∷ []) c.ok-2.ensures.value c.in_ok-change.was c.one.ensures in
    let made = of_kept _ _ _ _ c.ok-3.ensures.value c.in_ok-ok.was c.update.ensures.made in
    let linked = after_change c.in_ok-change.change (record { graph = opens.graph; limits = program_limits; k = 2 }) _ _ opens.opens.opened made.opened
    (λ r e. not_refused _ _ _ _ c.ok-3.ensures.value c.in_ok-ok.was ((c.update.ensures.refused r).1 e)) in
    let found = of_kept _ _ _ _ c.ok-4.ensures.value c.in_ok-ok-2.was c.path.ensures.answers.answered in
    record {
      graph = opens.graph;
      loads = subst (λ text. Loads program_limits text (loaded opens.graph)) c.as_bytes.ensures.value opens.loads;
      linked = graph_in c.update.new.self.engine.opened;
      links = subst (λ change. apply change opens.graph program_limits ≡ Ok (graph_in c.update.new.self.engine.opened)) asked linked;
      expr = found.1.0;
      spells = subst (λ text. SpellsPath text found.1.0) c.as_bytes-2.ensures.value found.1.1;
      answers = subst (λ q. AreQueryAnswers (shape_of (graph_in c.update.new.self.engine.opened)) q c.path.new.self.nodes) found.1.2 found.2.answers;
    }
