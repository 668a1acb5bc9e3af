-- Pictures of the same blocks and pairs.
use Rattle.std.proofs.Common.{◌≡◌, ℕ, List, ◌∙◌, ap}
use Rattle.graph_spec.specs.Graphs.{Graph}
use Rattle.quotient.specs.Quotients.{Quotient}
use Rattle.index_picture.specs.declared.blocks.Block.{Block}
use Rattle.index_picture.specs.declared.pairs.Pair.{Pair}
use Rattle.index_picture.specs.Pictures.{drawn_text}

pub drawn_same : (g : Graph) (q : Quotient) (names : List (List ℕ)) (m : ℕ) (bs bs2 : List Block) (rs rs2 : List Pair) (o o2 p p2 : ℕ)
    → bs ≡ bs2 → rs ≡ rs2 → o ≡ o2 → p ≡ p2 → drawn_text g q names m bs rs o p ≡ drawn_text g q names m bs2 rs2 o2 p2
drawn_same g q names m bs bs2 rs rs2 o o2 p p2 a b c d =
    ap (λ x. drawn_text g q names m x rs o p) a
    ∙ ap (λ x. drawn_text g q names m bs2 x o p) b
    ∙ ap (λ x. drawn_text g q names m bs2 rs2 x p) c
    ∙ ap (λ x. drawn_text g q names m bs2 rs2 o2 x) d
