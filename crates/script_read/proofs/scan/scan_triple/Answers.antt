use Rattle.std.proofs.Common.{refl, sym, true≢false, ◌∙◌}
use Rattle.script_read.proofs.CommandLemmas.{none_other}
use Rattle.script_read.proofs.scan.scan_triple.Goals as goal

pub returns-then-is_word : goal.returns-then-is_word
returns-then-is_word c line w r = (sym w ∙ c.if-is_word.ensures.0 refl, r)

pub returns-then-is_word-2 : goal.returns-then-is_word-2
returns-then-is_word-2 c line w r = (sym w ∙ c.if-is_word-2.ensures.0 refl, r)

pub returns-else-is_word-2 : goal.returns-else-is_word-2
returns-else-is_word-2 c line w r =
    none_other line _ _ c.requires.group.report.other.loud w r c.requires
    (λ e. true≢false (sym (c.if-is_word.ensures.1 e))) (λ e. true≢false (sym (c.if-is_word-2.ensures.1 e)))
