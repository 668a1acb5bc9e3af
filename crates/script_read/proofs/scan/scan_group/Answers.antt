use Rattle.std.proofs.Common.{refl, sym, true≢false, []}
use Rattle.std.specs.Prelude.{codes}
use Rattle.script_read.proofs.CommandLemmas.{words_opened, none_begin, none_end}
use Rattle.script_read.proofs.scan.scan_group.Goals as goal

pub returns-then-is_over : goal.returns-then-is_over
returns-then-is_over c line w r = (words_opened line _ _ (codes "begin") [] w r c.requires.report.other.loud (c.if-is_word.ensures.0 refl) (c.if-is_over.ensures.0 refl), tt)

pub returns-else-is_over : goal.returns-else-is_over
returns-else-is_over c line w r = none_begin line _ _ c.requires.report.other.loud w r (c.if-is_word.ensures.0 refl) (λ e. true≢false (sym (c.if-is_over.ensures.1 e)))

pub returns-then-is_over-2 : goal.returns-then-is_over-2
returns-then-is_over-2 c line w r = (words_opened line _ _ (codes "end") [] w r c.requires.report.other.loud (c.if-is_word-2.ensures.0 refl) (c.if-is_over-2.ensures.0 refl), tt)

pub returns-else-is_over-2 : goal.returns-else-is_over-2
returns-else-is_over-2 c line w r = none_end line _ _ c.requires.report.other.loud w r (c.if-is_word-2.ensures.0 refl) (λ e. true≢false (sym (c.if-is_over-2.ensures.1 e)))

pub scan_triple-requires : goal.scan_triple-requires
scan_triple-requires c = record {
  group = c.requires;
  no_begin = λ e. true≢false (sym (c.if-is_word.ensures.1 e));
  no_end = λ e. true≢false (sym (c.if-is_word-2.ensures.1 e));
}
