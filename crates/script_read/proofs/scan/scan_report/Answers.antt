use Rattle.std.proofs.Common.{refl, sym, true≢false, ◌∷◌, []}
use Rattle.std.specs.Prelude.{codes}
use Rattle.index_api.specs.Spelling.{via_word, kind_word}
use Rattle.script_read.proofs.CommandLemmas.{words_opened, none_extents, none_sizes, none_save, none_forget}
use Rattle.script_read.proofs.scan.scan_report.Goals as goal

pub returns-in-Some : goal.returns-in-Some
returns-in-Some c line w r = (
  (
    words_opened line _ _ (codes "extents") (via_word c.in-Some.via ∷ []) w r c.requires.other.loud (c.if-is_word.ensures.0 refl) c.in-Some.ensures.found,
    c.in-Some.ensures.index,
  ),
  tt,
)

pub returns-in-None : goal.returns-in-None
returns-in-None c line w r = none_extents line _ _ c.requires.other.loud w r (c.if-is_word.ensures.0 refl) c.in-None.ensures.absent

pub returns-then-is_over : goal.returns-then-is_over
returns-then-is_over c line w r = (words_opened line _ _ (codes "sizes") [] w r c.requires.other.loud (c.if-is_word-2.ensures.0 refl) (c.if-is_over.ensures.0 refl), tt)

pub returns-else-is_over : goal.returns-else-is_over
returns-else-is_over c line w r = none_sizes line _ _ c.requires.other.loud w r (c.if-is_word-2.ensures.0 refl) (λ e. true≢false (sym (c.if-is_over.ensures.1 e)))

pub returns-then-is_over-2 : goal.returns-then-is_over-2
returns-then-is_over-2 c line w r = (words_opened line _ _ (codes "save") [] w r c.requires.other.loud (c.if-is_word-3.ensures.0 refl) (c.if-is_over-2.ensures.0 refl), tt)

pub returns-else-is_over-2 : goal.returns-else-is_over-2
returns-else-is_over-2 c line w r = none_save line _ _ c.requires.other.loud w r (c.if-is_word-3.ensures.0 refl) (λ e. true≢false (sym (c.if-is_over-2.ensures.1 e)))

pub returns-in-Some-one_kind : goal.returns-in-Some-one_kind
returns-in-Some-one_kind c line w r =
    (words_opened line _ _ (codes "forget") (kind_word c.in-Some-one_kind.kind ∷ []) w r c.requires.other.loud (c.if-is_word-4.ensures.0 refl) c.in-Some-one_kind.ensures.found, tt)

pub returns-in-None-one_kind : goal.returns-in-None-one_kind
returns-in-None-one_kind c line w r = none_forget line _ _ c.requires.other.loud w r (c.if-is_word-4.ensures.0 refl) c.in-None-one_kind.ensures.absent

pub scan_group-requires : goal.scan_group-requires
scan_group-requires c = record {
  report = c.requires;
  no_extents = λ e. true≢false (sym (c.if-is_word.ensures.1 e));
  no_sizes = λ e. true≢false (sym (c.if-is_word-2.ensures.1 e));
  no_save = λ e. true≢false (sym (c.if-is_word-3.ensures.1 e));
  no_forget = λ e. true≢false (sym (c.if-is_word-4.ensures.1 e));
}
