use Rattle.std.proofs.Common.{◌-◌, ◌∙◌, ap, length}
use Rattle.quotient.specs.Quotients.{pair_count}
use Rattle.index_picture.proofs.DrawnTexts.{drawn_same}
use Rattle.index_picture.proofs.picture.text_of.Goals as goal

pub returns : goal.returns
returns c =
    let pairs = c.in_ok-pairs.ensures (c.deref.ensures.value ∙ c.in_ok-blocks.ensures.drawn) in
    c.in_ok-text.ensures
    ∙ drawn_same c.args.graph.now.graph c.args.summary.now c.args.names.now c.args.most_members _ _ _ _ _ _ _ _
    (c.deref-3.ensures.value ∙ c.in_ok-blocks.ensures.drawn) (c.deref-4.ensures.value ∙ pairs) c.in_ok-blocks.ensures.others
    (c.others_of-other_pairs.ensures ∙ ap (λ rs. pair_count c.args.summary.now.supports - length rs) (c.deref-2.ensures.value ∙ pairs))
