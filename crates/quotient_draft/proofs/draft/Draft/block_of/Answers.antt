use Rattle.std.proofs.Common.{◌≡◌, ◌∙◌, ℕ, List, Option, ap, unwrap_or}
use Rattle.std.specs.Prelude.{nat_eq}
use Rattle.std.specs.Map.{lookup}
use Rattle.graph_spec.specs.Members.{at}
use Rattle.quotient_draft.specs.Drafts.{Drafted}
use Rattle.quotient_draft.proofs.Over.{shown_live}
use Rattle.quotient_draft.proofs.draft.Draft.block_of.Goals as goal

pub returns-clause-live : goal.returns-clause-live
returns-clause-live c =
    let is : c.self.inside.moves.moves ≡ c.args.self.now.moves = ap (λ (d : Drafted). d.moves) c.self.view_is in
    shown_live c.args.base.now.blocks.block_of c.args.base.now.blocks.labels c.args.self.now c.args.n c.block_of.result c.requires.over
    (c.block_of.ensures.looked ∙ ap (λ (ms : List (ℕ × Option ℕ)). unwrap_or (lookup (nat_eq c.args.n) ms) (at c.args.base.now.blocks.block_of c.args.n)) is)
    (λ none. c.block_of.ensures.live (ap (λ (ms : List (ℕ × Option ℕ)). lookup (nat_eq c.args.n) ms) is ∙ none))
