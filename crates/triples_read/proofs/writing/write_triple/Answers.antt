use Rattle.std.proofs.Common.{◌++◌, ◌∙◌, ap, sym, subst, List, ℕ}
use Rattle.std.proofs.Math.Utf8.{encodes}
use Rattle.triples_read.specs.Lines.{SpellsTriple}
use Rattle.triples_read.specs.Canonical.{triple_text}
use Rattle.triples_read.proofs.CanonicalLaws.{canonical_spells}
use Rattle.triples_read.proofs.writing.write_triple.Goals as goal

pub returns-clause-spelled : goal.returns-clause-spelled
returns-clause-spelled c spelled =
    subst (λ (z : List ℕ). SpellsTriple z c.args.t.now) (sym (c.from_string.ensures ∙ c.in_ok-push_triple.ensures ∙ ap (λ (z : List ℕ). z ++ encodes (triple_text c.args.t.now)) c.new-out.ensures.bytes)) (canonical_spells c.args.t.now spelled)
