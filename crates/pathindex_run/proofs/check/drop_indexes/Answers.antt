use Rattle.std.proofs.Common.{◌∙◌, true, ap, map}
use Rattle.bisim_spec.specs.declared.kind.Kind.TheVariants as kind
use Rattle.index_api.specs.IndexKinds.{kinds_of}
use Rattle.script_interpreter.specs.States.{left_out}
use Rattle.pathindex_run.proofs.DroppedKinds.{none_left}
use Rattle.pathindex_run.proofs.check.drop_indexes.Goals as goal

pub returns-clause-dropped : goal.returns-clause-dropped
returns-clause-dropped g c =
    c.leave_out-4.ensures.kinds
    ∙ ap (left_out true kind.B) (c.leave_out-3.ensures.kinds
    ∙ ap (left_out true kind.Fb) (c.leave_out-2.ensures.kinds ∙ ap (left_out true kind.One) c.leave_out.ensures.kinds))
    ∙ none_left (kinds_of (map g.B.PathIndex.meaning c.args.engine.now.boxes))
