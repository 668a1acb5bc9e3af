use Rattle.std.proofs.Common.{◌++◌, ◌∙◌, sym, subst, ap}
use Rattle.std.specs.Prelude.{IsTrue}
use Rattle.branch_spec.specs.Spelling.{canonical}
use Rattle.branch_text.specs.Parsed.{SpellsBranch, has_text}
use Rattle.branch_text.specs.BranchTexts.{branch_text}
use Rattle.branch_text.proofs.Canon.{canonical_is}
use Rattle.branch_text.proofs.BranchRoundTrips.{again}
use Rattle.branch_text.proofs.branch.Branch.write.Goals as goal

pub returns-clause-canonical : goal.returns-clause-canonical
returns-clause-canonical c =
    c.from_string.ensures ∙ c.in_ok-write_branch.ensures ∙ ap (λ x. x ++ branch_text c.self.inside.tree) c.new-out.ensures.bytes
    ∙ canonical_is c.self.inside.tree ∙ ap canonical c.self.view_is

pub returns-clause-again : goal.returns-clause-again
returns-clause-again c =
    let text = subst (λ q. IsTrue (has_text q)) (sym c.self.view_is) c.requires in
    subst (λ t. SpellsBranch t c.args.self.now) (sym (returns-clause-canonical c)) (subst (λ q. SpellsBranch (canonical q) q) c.self.view_is (again c.self.inside.tree c.self.invariant.0 text))
