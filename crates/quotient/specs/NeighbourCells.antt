-- Lists of neighbours that lie among the cells of one array.
use Rattle.std.specs.Prelude.{◌≡◌, ◌≢◌, ◌-◌, ℕ, List, Some, length, slice_get}
use Rattle.cell_lists.specs.declared.segment.Segment.{Segment}
use Rattle.cell_lists.specs.Segments.{LiesWithin, IsApart}

-- how many more numbers fit into a list
abbrev pub spare_in : Segment → ℕ
spare_in s = s.reserved - s.len

-- each list lies among the cells, and no cell belongs to two
pub record AreHeld (cells : List ℕ) (segments : List Segment) : Type 0 where
  -- each list that takes cells lies among them
  pub within : (i : ℕ) (s : Segment) → slice_get segments i ≡ Some s → LiesWithin (length cells) s
  -- no cell belongs to two
  pub apart : (i j : ℕ) (s t : Segment) → i ≢ j → slice_get segments i ≡ Some s → slice_get segments j ≡ Some t → IsApart s t
