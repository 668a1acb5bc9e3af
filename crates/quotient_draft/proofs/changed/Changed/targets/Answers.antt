use Rattle.std.proofs.Common.{◌∙◌, ℕ, List, sym, ap}
use Rattle.graph_spec.specs.Members.{has}
use Rattle.bisim_spec.specs.IndexGraphs.{support_at}
use Rattle.quotient_draft.specs.Drafts.{with_supports}
use Rattle.quotient_draft.proofs.Touched.{unended}
use Rattle.quotient_draft.proofs.changed.Changed.targets.Goals as goal

pub returns : goal.returns
returns c = λ t a b h.
    let es = c.self.inside.pairs.entries in
    ap (λ (fs : List ((ℕ × ℕ) × ℕ)). support_at (with_supports t fs) a b) (sym c.self.view_is)
    ∙ unended t es c.self.inside.onto.entries a b c.self.invariant.onto_are (ap (λ xs. has xs b) (sym (c.as_slice.ensures ∙ c.keys.ensures.rest)) ∙ h)
