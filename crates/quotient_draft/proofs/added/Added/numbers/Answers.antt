use Rattle.std.proofs.Common.{◌∙◌, ℕ, List, sym, ap}
use Rattle.graph_spec.specs.Members.{at, has}
use Rattle.quotient_draft.specs.Drafts.{with_added}
use Rattle.quotient_draft.proofs.Scanned.{added_absent}
use Rattle.quotient_draft.proofs.Touched.{unkeyed}
use Rattle.quotient_draft.proofs.added.Added.numbers.Goals as goal

pub returns : goal.returns
returns c = λ labels b h.
    let es = c.self.inside.blocks.entries in
    ap (λ (fs : List (ℕ × ℕ)). at (with_added labels fs) b) (sym c.self.view_is)
    ∙ added_absent labels es b (unkeyed es b (ap (λ xs. has xs b) (sym (c.as_slice.ensures ∙ c.keys.ensures.rest)) ∙ h))
