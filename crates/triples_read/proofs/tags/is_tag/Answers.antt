use Rattle.std.proofs.Common.{◌∙◌, sym}
use Rattle.triples_read.proofs.CanonicalLaws.{tag_of_text, text_of_tag}
use Rattle.triples_read.proofs.tags.is_tag.Goals as goal

pub returns-then-is_tag_in_any_case-clause-sound : goal.returns-then-is_tag_in_any_case-clause-sound
returns-then-is_tag_in_any_case-clause-sound c e =
    tag_of_text c.args.bytes.now (c.is_tag_in_any_case.ensures.0 c.if-is_tag_in_any_case.true) (sym c.has_no_upper.ensures ∙ e)

pub returns-then-is_tag_in_any_case-clause-complete : goal.returns-then-is_tag_in_any_case-clause-complete
returns-then-is_tag_in_any_case-clause-complete c s langtag = c.has_no_upper.ensures ∙ (text_of_tag c.args.bytes.now s langtag).1

pub returns-else-is_tag_in_any_case-clause-complete : goal.returns-else-is_tag_in_any_case-clause-complete
returns-else-is_tag_in_any_case-clause-complete c s langtag = c.is_tag_in_any_case.ensures.1 (text_of_tag c.args.bytes.now s langtag).0
