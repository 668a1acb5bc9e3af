-- The definitions at a worked file, and at near misses.
use Rattle.std.proofs.Common.{◌≡◌, ℕ, List, [], ◌∷◌, ◌++◌, refl, Option, Some, None, true, false, arith, inl, ap}
use Rattle.std.specs.Prelude.{codes, option_and_then, slice_index, map}
use Rattle.graph_spec.specs.ProgramLimits.{program_limits}
use Rattle.graph_spec.specs.Lines.{cut}
use Rattle.index_api.specs.declared.kinds.Via.{Via}
use Rattle.index_api.specs.declared.kinds.Via.TheVariants.{Data, A, One, Fb, B}
use Rattle.index_file.specs.SavedFiles.{seen_of, ranks_at}
use Rattle.index_file.specs.Statements.{Statement, title, allocated, live, gone, edges, edge, views, view, rank, decimal_value, Says}
use Rattle.index_file.specs.declared.due.Due.TheVariants as due
use Rattle.index_file.specs.Readings.{Reading, RankedView, nothing_read, next_reading, exceeds, is_complete, view_in}

abbrev all_taken : List Statement → Reading → Option Reading
all_taken [] h = Some h
all_taken (f ∷ fs) h = option_and_then (all_taken fs) (next_reading f h)

abbrev ranks : List ℕ → List Statement → List Statement
ranks [] rest = rest
ranks (r ∷ rs) rest = rank r ∷ ranks rs rest

abbrev a : List ℕ
a = codes "a"

abbrev b : List ℕ
b = codes "b"

-- three nodes, of which the first is the parent of the second
abbrev head_of : ℕ → List Statement → List Statement
head_of n rest = title ∷ allocated 3 2 ∷ live a ∷ live b ∷ live a ∷ edges 1 ∷ edge 0 1 ∷ views n ∷ rest

abbrev row : Via → List Statement → List Statement
row via rest = view via ∷ ranks (0 ∷ 1 ∷ 0 ∷ []) rest

abbrev whole_file : List Statement
whole_file = head_of 5 (row (A 0) (row (A 1) (row (A 2) (row One (view Fb ∷ ranks (0 ∷ 1 ∷ 2 ∷ []) [])))))

abbrev ranked : Via → List ℕ → RankedView
ranked via rs = record { via = via; ranks = rs }

abbrev three : List ℕ
three = 0 ∷ 1 ∷ 0 ∷ []

abbrev whole_reading : Reading
whole_reading = record {
  due = due.Ranks 0 5;
  k = 2;
  allocated = Some a ∷ Some b ∷ Some a ∷ [];
  pairs = (0, 1) ∷ [];
  views = ranked (A 0) three ∷ ranked (A 1) three ∷ ranked (A 2) three ∷ ranked One three ∷ ranked Fb (0 ∷ 1 ∷ 2 ∷ []) ∷ [];
}

takes_all : all_taken whole_file nothing_read ≡ Some whole_reading
takes_all = refl

is_all : is_complete whole_reading ≡ true
is_all = refl

-- labels come in the order of their first nodes
labels_seen : seen_of whole_reading.allocated ≡ a ∷ b ∷ []
labels_seen = refl

blocks_of_fb : view_in whole_reading.allocated (ranked Fb (0 ∷ 1 ∷ 2 ∷ [])) ≡ record { via = Fb; block_of = Some 0 ∷ Some 1 ∷ Some 2 ∷ [] }
blocks_of_fb = refl

-- a number that is gone has no block, and no line in a view
gone_between : ranks_at (Some a ∷ None ∷ Some b ∷ []) (0 ∷ 1 ∷ []) ≡ Some 0 ∷ None ∷ Some 1 ∷ []
gone_between = refl

-- what can't stand at its place

-- a rank that jumps by two, and one that doesn't begin at 0
jumps : all_taken (head_of 1 (view One ∷ ranks (0 ∷ 2 ∷ []) [])) nothing_read ≡ None
jumps = refl

begins_late : all_taken (head_of 1 (view One ∷ ranks (1 ∷ []) [])) nothing_read ≡ None
begins_late = refl

-- a level above 8
level_nine : all_taken (title ∷ allocated 3 9 ∷ []) nothing_read ≡ None
level_nine = refl

-- views out of order, or twice
fb_before_one : all_taken (head_of 2 (row Fb (view One ∷ []))) nothing_read ≡ None
fb_before_one = refl

one_twice : all_taken (head_of 2 (row One (view One ∷ []))) nothing_read ≡ None
one_twice = refl

a_after_one : all_taken (head_of 2 (row One (view (A 0) ∷ []))) nothing_read ≡ None
a_after_one = refl

fb_after_bounded : all_taken (head_of 2 (row (B 0) (view Fb ∷ []))) nothing_read ≡ None
fb_after_bounded = refl

-- a level that is missing: in front, in between, at the end
first_level_missing : all_taken (head_of 2 (view (A 1) ∷ [])) nothing_read ≡ None
first_level_missing = refl

level_missing : all_taken (head_of 3 (row (A 0) (view (A 2) ∷ []))) nothing_read ≡ None
level_missing = refl

one_too_early : all_taken (head_of 2 (row (A 0) (view One ∷ []))) nothing_read ≡ None
one_too_early = refl

bounded_missing : all_taken (head_of 2 (row Fb (view (B 1) ∷ []))) nothing_read ≡ None
bounded_missing = refl

level_too_high : all_taken (head_of 4 (row (A 0) (row (A 1) (row (A 2) (view (A 3) ∷ []))))) nothing_read ≡ None
level_too_high = refl

abbrev two_levels : Reading
two_levels = record whole_reading { due = due.Ranks 0 2; views = ranked (A 0) three ∷ ranked (A 1) three ∷ [] }

takes_two_levels : all_taken (head_of 2 (row (A 0) (row (A 1) []))) nothing_read ≡ Some two_levels
takes_two_levels = refl

ends_too_early : is_complete two_levels ≡ false
ends_too_early = refl

-- fewer views than were told, and more
one_is_missing : option_and_then (λ h. Some (is_complete h)) (all_taken (head_of 2 (row One [])) nothing_read) ≡ Some false
one_is_missing = refl

one_too_many : all_taken (head_of 1 (row One (view Fb ∷ []))) nothing_read ≡ None
one_too_many = refl

-- no view at all
without_views : option_and_then (λ h. Some (is_complete h)) (all_taken (head_of 0 []) nothing_read) ≡ Some true
without_views = refl

-- an edge that doesn't rise, one that stands twice, one from a node that is gone
abbrev pair_after : Statement → List Statement
pair_after next = title ∷ allocated 3 2 ∷ live a ∷ gone ∷ live a ∷ edges 2 ∷ edge 0 2 ∷ next ∷ []

not_rising : all_taken (pair_after (edge 0 0)) nothing_read ≡ None
not_rising = refl

same_again : all_taken (pair_after (edge 0 2)) nothing_read ≡ None
same_again = refl

from_gone : all_taken (pair_after (edge 1 2)) nothing_read ≡ None
from_gone = refl

past_all : all_taken (pair_after (edge 2 3)) nothing_read ≡ None
past_all = refl

rises : option_and_then (λ h. Some h.pairs) (all_taken (pair_after (edge 2 0)) nothing_read) ≡ Some ((0, 2) ∷ (2, 0) ∷ [])
rises = refl

-- limits are tested first, where the line may stand
abbrev at_given : Reading
at_given = record nothing_read { due = due.Allocated }

too_many_nodes : exceeds program_limits (allocated 3000000 9) at_given ≡ true
too_many_nodes = refl

misplaced_nodes : exceeds program_limits (allocated 3000000 9) nothing_read ≡ false
misplaced_nodes = refl

too_many_edges : exceeds program_limits (edges 4194305) (record nothing_read { due = due.Nodes 0 }) ≡ true
too_many_edges = refl

as_many_edges : exceeds program_limits (edges 4194304) (record nothing_read { due = due.Nodes 0 }) ≡ false
as_many_edges = refl

-- numbers

zero_is : decimal_value (codes "0") ≡ Some 0
zero_is = refl

ten_is : decimal_value (codes "10") ≡ Some 10
ten_is = refl

leading_zero : decimal_value (codes "07") ≡ None
leading_zero = refl

two_zeros : decimal_value (codes "00") ≡ None
two_zeros = refl

no_digits : decimal_value [] ≡ None
no_digits = refl

signed : decimal_value (codes "+1") ≡ None
signed = refl

blank_behind : decimal_value (codes "1 ") ≡ None
blank_behind = refl

-- lines

says_given : Says (codes "given 3 k 2") (allocated 3 2)
says_given = (codes "3 k 2", refl, (codes "3", codes "2", refl, refl, refl))

says_edge : Says (codes "0 1") (edge 0 1)
says_edge = (codes "0", codes "1", refl, refl, refl)

says_view : Says (codes "view a2") (view (A 2))
says_view = (codes "a2", refl, (codes "2", refl, refl))

says_fb : Says (codes "view fb") (view Fb)
says_fb = (codes "fb", refl, refl)

says_bounded : Says (codes "view b1") (view (B 1))
says_bounded = (codes "b1", refl, (codes "1", refl, refl))

no_data : Says (codes "view data") (view Data) → ⊥
no_data s = s.2

says_live : Says (codes "live a") (live (codes "a"))
says_live = (
  codes "a",
  refl,
  inl (
    (
      refl,
      (λ e. omega (arith, ap (λ l. slice_index l 1) e)),
      (λ e. omega (arith, ap (λ l. slice_index l 0) e)),
      (λ e. omega (arith, ap (λ l. slice_index l 0) e)),
    ),
    refl,
  ),
)

-- line ends: CR LF is one, and the last line needs none
two_ends : map (λ l. l.text) (cut (codes "gone" ++ 13 ∷ 10 ∷ codes "0 1")) ≡ codes "gone" ∷ codes "0 1" ∷ []
two_ends = refl
