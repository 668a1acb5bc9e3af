use Rattle.std.proofs.Common.{Some, [], ◌∷◌, ◌++◌, ◌∙◌, ap, sym, subst, rules}
use Rattle.index_file.specs.SavedFiles.{seen_of}
use Rattle.index_file.specs.ReadLabels.{IsOneTooMany, is_too_many}
use Rattle.index_file.specs.ReadNodes.{texts_at, AreReadNodes}
use Rattle.index_file.proofs.Matches.{err_same}
use Rattle.index_file.proofs.ReadNodeLaws.{live_text, live_pushed}
use Rattle.index_file.proofs.read_nodes.ReadNodes.push_live.Goals as goal

pub returns-in-Ok-clause-ok : goal.returns-in-Ok-clause-ok
returns-in-Ok-clause-ok c =
    let s = c.self.inside in
    let most = c.args.most in
    let n = c.in-Ok.ensures.ok in
    let l = c.in-Ok.label in
    let pushed = c.push_reserved.ensures.items ∙ ap (λ xs. xs ++ Some l ∷ []) c.reserve_one.ensures.same in (
      n.label,
      n.spelled,
      ap (λ xs. is_too_many most xs n.label) (sym (c.self.invariant.seen ∙ ap seen_of c.self.view_is)) ∙ n.interned.fits,
      live_text s.labels c.number.new.self n.label most l s.numbers.items c.push_reserved.new.self.items s.live c.self.invariant n.interned pushed
          ∙ ap (λ xs. xs ++ Some n.label ∷ []) c.self.view_is,
    )

pub returns-in-Err-clause-over : goal.returns-in-Err-clause-over
returns-in-Err-clause-over c = λ h.
    subst (λ xs. IsOneTooMany c.args.word.now c.args.most xs) (c.self.invariant.seen ∙ ap seen_of c.self.view_is) (c.in-Err.ensures.over (err_same _ _ h))

pub returns-in-Err-clause-wrong : goal.returns-in-Err-clause-wrong
returns-in-Err-clause-wrong c = λ h. c.in-Err.ensures.wrong (err_same _ _ h)

pub returns-in-Err-clause-err : goal.returns-in-Err-clause-err
returns-in-Err-clause-err c =
    let s = c.self.inside in
    ap (λ texts. texts_at texts c.reserve_one.new.numbers.items) c.in-Err.ensures.err ∙ ap (texts_at s.labels) c.reserve_one.ensures.same ∙ c.self.view_is

pub invariant_of-self-in-Ok : goal.invariant_of-self-in-Ok
invariant_of-self-in-Ok c =
    let s = c.self.inside in
    let n = c.in-Ok.ensures.ok in
    let l = c.in-Ok.label in
    let pushed = c.push_reserved.ensures.items ∙ ap (λ xs. xs ++ Some l ∷ []) c.reserve_one.ensures.same in
    live_pushed s.labels c.number.new.self n.label c.args.most l s.numbers.items c.push_reserved.new.self.items s.live _ c.self.invariant n.interned pushed (search rules)

pub invariant_of-self-in-Err : goal.invariant_of-self-in-Err
invariant_of-self-in-Err c =
    let s = c.self.inside in
    subst (λ texts. AreReadNodes texts c.reserve_one.new.numbers.items s.live) (sym c.in-Err.ensures.err)
    (subst (λ xs. AreReadNodes s.labels xs s.live) (sym c.reserve_one.ensures.same) c.self.invariant)
