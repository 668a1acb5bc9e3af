use Rattle.std.proofs.Common.{◌++◌, ◌∙◌, ap, string_bytes, codes}
use Rattle.std.specs.Prelude.{decimal}
use Rattle.workload.specs.GeneratorValues.{object_value}
use Rattle.workload.proofs.AddedPieces.{four_added, triple_pieces}
use Rattle.workload.proofs.writing.push_triple.Goals as goal

pub returns : goal.returns
returns c =
    four_added (string_bytes c.args.out.now) _ _ _ _ (codes "<http://e/s" ++ decimal c.args.triple.subject ++ codes "> ")
    (codes "<http://e/p" ++ decimal c.args.triple.predicate ++ codes "> ") (object_value c.args.triple.object) (codes " .\n")
    c.in_ok-push_number.ensures c.in_ok-push_number-2.ensures c.in_ok-push_object.ensures c.in_ok-push_str.ensures.bytes
    ∙ ap (λ t. string_bytes c.args.out.now ++ t) (triple_pieces c.args.triple.subject c.args.triple.predicate (object_value c.args.triple.object))
