use Rattle.std.proofs.Common.{◌∙◌, ap, sym}
use Rattle.index_file.specs.Readings.{is_behind}
use Rattle.index_file.proofs.DraftLaws.{last_read}
use Rattle.index_file.proofs.draft.is_behind.Goals as goal

pub returns-in-Some : goal.returns-in-Some
returns-in-Some c =
    c.is_past.ensures ∙ ap (λ o. is_behind o c.args.from c.args.onto) (sym c.in-Some.is ∙ c.copied.ensures ∙ c.last.ensures.value ∙ last_read c.args.pairs.now)

pub returns-in-None : goal.returns-in-None
returns-in-None c = ap (λ o. is_behind o c.args.from c.args.onto) (sym c.in-None.is ∙ c.copied.ensures ∙ c.last.ensures.value ∙ last_read c.args.pairs.now)
