-- The labels of blocks, which their members have.
use Rattle.std.proofs.Common.{◌≡◌, ℕ, zero, suc, ◌+◌, ◌<◌, ◌≤◌, List, [], ◌∷◌, ◌++◌, length, Option, Some, IsSome, is_some, refl, sym, ◌∙◌, ap, subst, inl, inr, Bool, slice_get, arith}
use Rattle.std.proofs.lemmas.Bool.{cases_lt}
use Rattle.std.proofs.lemmas.Option.{slice_get_within}
use Rattle.graph_spec.specs.Graphs.{Graph}
use Rattle.label_graph.specs.GraphViews.{label_number}
use Rattle.graph_spec.specs.Members.{at}
use Rattle.bisim_spec.proofs.Bisimilar.{none_or_some, is_some_at}
use Rattle.bisim_levels.specs.NeighbourSides.{no_neighbours}
use Rattle.bisim_spec.specs.NodeKeys.{IsKey}
use Rattle.bisim_levels.specs.Numbering.{AreNumbered, AreNumberedBy, AreBlocksBelow}
use Rattle.bisim_levels.specs.SidedKeys.{IsKeyBy}
use Rattle.ak_family.specs.BlockLabels.{BlocksHaveListedLabels}

get_before : (xs : List ℕ) (x j : ℕ) → j < length xs → slice_get (xs ++ x ∷ []) j ≡ slice_get xs j
get_before [] x j h = absurd (omega (arith, h))
get_before (y ∷ ys) x zero h = refl
get_before (y ∷ ys) x (suc j) h = get_before ys x j (omega (arith, h))

get_here : (xs : List ℕ) (x j : ℕ) → j ≡ length xs → slice_get (xs ++ x ∷ []) j ≡ Some x
get_here xs x j e = ap (slice_get (xs ++ x ∷ [])) e ∙ get_end xs x
  where
    get_end : (ys : List ℕ) (y : ℕ) → slice_get (ys ++ y ∷ []) (length ys) ≡ Some y
    get_end [] y = refl
    get_end (z ∷ ys) y = get_end ys y

-- the key of a block, which a member has
pub record MemberKey (own : ℕ → Option ℕ) (base : List (Option ℕ)) (neighbour_of : ℕ → ℕ → Bool) (key : ℕ → Option (List ℕ)) (m b : ℕ) : Type 0 where
  pub numbers : List ℕ
  pub at : key b ≡ Some numbers
  pub is : IsKey own base neighbour_of m numbers

pub member_key : (own : ℕ → Option ℕ) (base : List (Option ℕ)) (neighbour_of : ℕ → ℕ → Bool) (next : List (Option ℕ)) (key : ℕ → Option (List ℕ)) → AreNumbered own base neighbour_of next key
    → (m b : ℕ) → at next m ≡ Some b → MemberKey own base neighbour_of key m b
member_key own base neighbour_of next key w m b e = elim (none_or_some (own m)) [
  | inl none ↦ absurd (let z = w.none m none in cc)
  | inr (c, some) ↦
      (let f = w.some m c some in
      let same : f.0 ≡ b = (let z = f.2 in cc) in
      record { numbers = f.1; at = ap key (sym same) ∙ f.3; is = f.4 })
]

-- a key begins with the own number
key_first : (own : ℕ → Option ℕ) (base : List (Option ℕ)) (neighbour_of : ℕ → ℕ → Bool) (n : ℕ) (key : List ℕ) (k : IsKey own base neighbour_of n key) → slice_get key 0 ≡ Some k.number
key_first own base neighbour_of n key k = ap (λ numbers. slice_get numbers 0) k.is

-- each key has a first number
pub keys_begin : (own : ℕ → Option ℕ) (base : List (Option ℕ)) (neighbour_of : ℕ → ℕ → Bool) (next : List (Option ℕ)) (key : ℕ → Option (List ℕ)) → AreNumbered own base neighbour_of next key
    → (b : ℕ) (numbers : List ℕ) → key b ≡ Some numbers → IsSome (slice_get numbers 0)
keys_begin own base neighbour_of next key w b numbers e =
    let m = w.inhabited b (ap is_some e) in
    let k = member_key own base neighbour_of next key w m.0 b m.1 in
    let same : k.numbers ≡ numbers = (let z = k.at in cc) in
    is_some_at (slice_get numbers 0) k.is.number (ap (λ x. slice_get x 0) (sym same) ∙ key_first own base neighbour_of m.0 k.numbers k.is)

-- the first numbers of the keys
abbrev pub AreFirst : List (List ℕ) → List ℕ → Type 0
AreFirst keys own = (b : ℕ) (key : List ℕ) → slice_get keys b ≡ Some key → slice_get own b ≡ slice_get key 0

-- a block that a node has, has a label
pub labelled_below : (g : Graph) (block : List (Option ℕ)) (labels : List ℕ) → BlocksHaveListedLabels g block labels → (n b : ℕ) → at block n ≡ Some b → b < length labels
labelled_below g block labels is n b e = let l = is n b e in slice_get_within labels b l.0 l.1

-- the first number of a key of the lowest level is its members' label
pub labelled_lowest : (g : Graph) (next : List (Option ℕ)) (keys : List (List ℕ)) (labels : List ℕ) → AreNumbered (label_number g) [] no_neighbours next (slice_get keys) → AreFirst keys labels
    → BlocksHaveListedLabels g next labels
labelled_lowest g next keys labels w first m b e =
    let k = member_key (label_number g) [] no_neighbours next (slice_get keys) w m b e in
    (k.is.number, first b k.numbers k.at ∙ key_first (label_number g) [] no_neighbours m k.numbers k.is, k.is.own_is)

-- the same above it, whatever lies around nodes
pub record MemberKeyBy (own : ℕ → Option ℕ) (Around : ℕ → ℕ → Type 0) (key : ℕ → Option (List ℕ)) (m b : ℕ) : Type 0 where
  pub numbers : List ℕ
  pub at : key b ≡ Some numbers
  pub is : IsKeyBy own Around m numbers

pub member_key_by : (own : ℕ → Option ℕ) (Around : ℕ → ℕ → Type 0) (next : List (Option ℕ)) (key : ℕ → Option (List ℕ)) → AreNumberedBy own (IsKeyBy own Around) next key
    → (m b : ℕ) → at next m ≡ Some b → MemberKeyBy own Around key m b
member_key_by own Around next key w m b e = elim (none_or_some (own m)) [
  | inl none ↦ absurd (let z = w.none m none in cc)
  | inr (c, some) ↦
      (let f = w.some m c some in
      let same : f.0 ≡ b = (let z = f.2 in cc) in
      record { numbers = f.1; at = ap key (sym same) ∙ f.3; is = f.4 })
]

key_first_by : (own : ℕ → Option ℕ) (Around : ℕ → ℕ → Type 0) (n : ℕ) (key : List ℕ) (k : IsKeyBy own Around n key) → slice_get key 0 ≡ Some k.number
key_first_by own Around n key k = ap (λ numbers. slice_get numbers 0) k.is

pub keys_begin_by : (own : ℕ → Option ℕ) (Around : ℕ → ℕ → Type 0) (next : List (Option ℕ)) (key : ℕ → Option (List ℕ)) → AreNumberedBy own (IsKeyBy own Around) next key
    → (b : ℕ) (numbers : List ℕ) → key b ≡ Some numbers → IsSome (slice_get numbers 0)
keys_begin_by own Around next key w b numbers e =
    let m = w.inhabited b (ap is_some e) in
    let k = member_key_by own Around next key w m.0 b m.1 in
    let same : k.numbers ≡ numbers = (let z = k.at in cc) in
    is_some_at (slice_get numbers 0) k.is.number (ap (λ x. slice_get x 0) (sym same) ∙ key_first_by own Around m.0 k.numbers k.is)

-- above it, it is a block of the level below, in which the members are
pub labelled_above : (g : Graph) (block : List (Option ℕ)) (labels : List ℕ) (Around : ℕ → ℕ → Type 0) (next : List (Option ℕ)) (keys : List (List ℕ)) (own found : List ℕ)
    → BlocksHaveListedLabels g block labels → AreNumberedBy (at block) (IsKeyBy (at block) Around) next (slice_get keys) → AreFirst keys own
    → ((b n : ℕ) → slice_get own b ≡ Some n → slice_get found b ≡ slice_get labels n) → BlocksHaveListedLabels g next found
labelled_above g block labels Around next keys own found is w first looked m b e =
    let k = member_key_by (at block) Around next (slice_get keys) w m b e in
    let l = is m k.is.number k.is.own_is in
    (l.0, looked b k.is.number (first b k.numbers k.at ∙ key_first_by (at block) Around m k.numbers k.is) ∙ l.1, l.2)

-- and that block has a label
pub own_below : (g : Graph) (block : List (Option ℕ)) (labels : List ℕ) (Around : ℕ → ℕ → Type 0) (next : List (Option ℕ)) (keys : List (List ℕ)) (own : List ℕ)
    → BlocksHaveListedLabels g block labels → AreNumberedBy (at block) (IsKeyBy (at block) Around) next (slice_get keys) → AreBlocksBelow next (length keys) → AreFirst keys own → length own ≡ length keys
    → (b n : ℕ) → slice_get own b ≡ Some n → n < length labels
own_below g block labels Around next keys own is w blocks first count b n e =
    let within = slice_get_within own b n e in
    let m = blocks.inhabited b (omega (arith, within, count)) in
    let k = member_key_by (at block) Around next (slice_get keys) w m.0 b m.1 in
    let there = first b k.numbers k.at ∙ key_first_by (at block) Around m.0 k.numbers k.is in
    let same : k.is.number ≡ n = cc in
    subst (λ x. x < length labels) same (labelled_below g block labels is m.0 k.is.number k.is.own_is)

-- one more key's first number
pub first_more : (keys : List (List ℕ)) (own : List ℕ) (key : List ℕ) (b x : ℕ) → length own ≡ b
    → ((j : ℕ) (k : List ℕ) → j < b → slice_get keys j ≡ Some k → slice_get own j ≡ slice_get k 0)
    → slice_get keys b ≡ Some key → slice_get key 0 ≡ Some x
    → (j : ℕ) (k : List ℕ) → j < b + 1 → slice_get keys j ≡ Some k → slice_get (own ++ x ∷ []) j ≡ slice_get k 0
first_more keys own key b x count before here is j k h e = elim (cases_lt j b) [
  | inl l ↦ get_before own x j (omega (arith, l, count)) ∙ before j k l e
  | inr past ↦
      (let at : j ≡ b = omega (arith, h, past) in
      let same : k ≡ key = (let z : slice_get keys b ≡ Some k = ap (slice_get keys) (sym at) ∙ e in cc) in
      get_here own x j (at ∙ sym count) ∙ sym is ∙ ap (λ y. slice_get y 0) (sym same))
]

pub first_all : (keys : List (List ℕ)) (own : List ℕ) (b : ℕ) → ((j : ℕ) (k : List ℕ) → j < b → slice_get keys j ≡ Some k → slice_get own j ≡ slice_get k 0)
    → length keys ≤ b → AreFirst keys own
first_all keys own b before all j k e = before j k (let l = slice_get_within keys j k e in omega (arith, l, all)) e
