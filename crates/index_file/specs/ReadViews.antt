-- The views of a file as they are read.
use Rattle.std.specs.Prelude.{ℕ, ◌≡◌, ◌+◌, List, [], ◌∷◌, length, Option, None, Some, ⊤, refl}
use Rattle.std.specs.Coded.{Coded, code_by, coded×, coded_ℕ, coded_list}
use Rattle.index_api.specs.declared.kinds.Via.{Via}
use Rattle.index_api.specs.declared.kinds.Via.TheVariants.{Data, A, One, Fb, B}
use Rattle.index_api.specs.contracts.kinds.Via.{the_row as via_row}
use Rattle.index_file.specs.Readings.{RankedView, next_rank}

-- the ranks of the last view
abbrev pub last_ranks : List RankedView → List ℕ
last_ranks [] = []
last_ranks (v ∷ []) = v.ranks
last_ranks (v ∷ w ∷ ws) = last_ranks (w ∷ ws)

-- next is one more than the greatest rank of the last view
abbrev pub AreReadViews : List RankedView → ℕ → Type 0
AreReadViews views next = next ≡ next_rank 0 (last_ranks views)

-- each view has so many ranks, and the last one lacks some of them
abbrev pub HaveRanks : ℕ → List RankedView → ℕ → Type 0
HaveRanks live [] left = ⊤
HaveRanks live (v ∷ []) left = length v.ranks + left ≡ live
HaveRanks live (v ∷ w ∷ ws) left = (length v.ranks ≡ live) × HaveRanks live (w ∷ ws) left

-- how many views there may be up to that of this index, where no level is above 8
abbrev pub most_views : Option Via → ℕ
most_views None = 0
most_views (Some Data) = 0
most_views (Some (A level)) = level + 1
most_views (Some One) = 10
most_views (Some Fb) = 11
most_views (Some (B level)) = level + 12

-- a view is stored as its two parts
abbrev pub ranked_view_code : Coded RankedView
ranked_view_code =
    code_by (Via × List ℕ) (coded× via_row.coded (coded_list coded_ℕ)) (λ v. (v.via, v.ranks)) (λ p. record { via = p.0; ranks = p.1 }) (λ _. refl)

-- the code of views as they are read
abbrev pub read_views_code : Coded (List RankedView)
read_views_code = coded_list ranked_view_code
