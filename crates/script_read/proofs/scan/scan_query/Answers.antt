use Rattle.std.proofs.Common.{refl, sym, true≢false, ap, ◌∙◌}
use Rattle.script_read.specs.FirstWords.{first_word, behind_word, without_blanks}
use Rattle.script_read.proofs.CommandLemmas.{no_path, no_branch, no_why}
use Rattle.script_read.proofs.scan.scan_query.Goals as goal

pub returns-in-Some : goal.returns-in-Some
returns-in-Some c line w r =
    let v = c.in-Some.ensures.via in
    ((sym w ∙ c.if-is_word.ensures.0 refl, ap first_word (sym r) ∙ v.0, v.1), c.in-Some.ensures.text ∙ ap (λ l. without_blanks (behind_word l)) r)

pub returns-in-None : goal.returns-in-None
returns-in-None c line w r = no_path line _ _ c.requires.loud w r (c.if-is_word.ensures.0 refl) c.in-None.ensures.absent

pub returns-in-Some-query_parts : goal.returns-in-Some-query_parts
returns-in-Some-query_parts c line w r =
    let v = c.in-Some-query_parts.ensures.via in
    ((sym w ∙ c.if-is_word-2.ensures.0 refl, ap first_word (sym r) ∙ v.0, v.1), c.in-Some-query_parts.ensures.text ∙ ap (λ l. without_blanks (behind_word l)) r)

pub returns-in-None-query_parts : goal.returns-in-None-query_parts
returns-in-None-query_parts c line w r = no_branch line _ _ c.requires.loud w r (c.if-is_word-2.ensures.0 refl) c.in-None-query_parts.ensures.absent

pub returns-in-Some-why_parts : goal.returns-in-Some-why_parts
returns-in-Some-why_parts c line w r = (
  (sym w ∙ c.if-is_word-3.ensures.0 refl, ap first_word (sym r) ∙ c.in-Some-why_parts.ensures.node, c.in-Some-why_parts.ensures.number),
  c.in-Some-why_parts.ensures.text ∙ ap (λ l. without_blanks (behind_word l)) r,
)

pub returns-in-None-why_parts : goal.returns-in-None-why_parts
returns-in-None-why_parts c line w r = no_why line _ _ c.requires.loud w r (c.if-is_word-3.ensures.0 refl) c.in-None-why_parts.ensures.absent

pub returns-then-is_word-4 : goal.returns-then-is_word-4
returns-then-is_word-4 c line w r = (
  sym w ∙ c.if-is_word-4.ensures.0 refl,
  c.check_parts.ensures.word ∙ ap first_word r,
  c.check_parts.ensures.text ∙ ap (λ l. without_blanks (behind_word l)) r,
)

pub scan_report-requires : goal.scan_report-requires
scan_report-requires c = record {
  other = c.requires;
  no_path = λ e. true≢false (sym (c.if-is_word.ensures.1 e));
  no_branch = λ e. true≢false (sym (c.if-is_word-2.ensures.1 e));
  no_why = λ e. true≢false (sym (c.if-is_word-3.ensures.1 e));
  no_check = λ e. true≢false (sym (c.if-is_word-4.ensures.1 e));
}
