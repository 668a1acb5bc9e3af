use Rattle.std.proofs.Common.{◌++◌, ◌∙◌, sym, subst, ap}
use Rattle.path_spec.specs.Spelling.{canonical}
use Rattle.path_query.specs.Parsed.{SpellsPath}
use Rattle.path_query.specs.PathTexts.{expr_text}
use Rattle.path_query.proofs.Canon.{canonical_is}
use Rattle.path_query.proofs.expr.PathExpr.write.Goals as goal

pub returns-clause-canonical : goal.returns-clause-canonical
returns-clause-canonical c =
    c.from_string.ensures ∙ c.in_ok-write_expr.ensures ∙ ap (λ x. x ++ expr_text c.self.inside.tree) c.new-out.ensures.bytes
    ∙ canonical_is c.self.inside.tree ∙ ap canonical c.self.view_is

pub returns-clause-again : goal.returns-clause-again
returns-clause-again c =
    subst (λ t. SpellsPath t c.args.self.now) (sym (returns-clause-canonical c)) (subst (λ e. SpellsPath (canonical e) e) c.self.view_is c.self.invariant.0)
