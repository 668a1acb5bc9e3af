-- The links from each step to the next ones that name its nodes.
use Rattle.std.specs.Prelude.{◌≡◌, ◌<◌, ◌≤◌, ℕ, zero, suc, ◌+◌, ◌-◌, ◌^◌, ◌⊎◌, ◌&&◌, Bool, true, false, List, [], ◌∷◌, length, min, nat_eq, unwrap_or, if◌then◌else◌}
use Rattle.std.specs.Map.{lookup}
use Rattle.change_spec.specs.Steps.{Step, node, link, unlink, drop, relabel}
use Rattle.change_spec.specs.Named.{names, takes_away}
use Rattle.graph_steps.specs.NodePlaces.{node_places}
use Rattle.graph_steps.specs.declared.links.Links.{Links}
use Rattle.graph_steps.specs.declared.links.Ends.{Ends}

-- the step at the place names the node
abbrev pub names_at : List Step → ℕ → ℕ → Bool
names_at [] i n = false
names_at (s ∷ ss) zero n = names n s
names_at (s ∷ ss) (suc i) n = names_at ss i n

-- the step at the place takes the node away
abbrev pub takes_at : List Step → ℕ → ℕ → Bool
takes_at [] i n = false
takes_at (s ∷ ss) zero n = takes_away s n
takes_at (s ∷ ss) (suc i) n = takes_at ss i n

-- behind every place
abbrev pub nowhere : ℕ
nowhere = 2 ^ 64 - 1

-- no step from one place on and before another names the node, and the one there does, if that is a place at all
pub record IsAhead (n : ℕ) (c : List Step) (from place : ℕ) : Type 0 where
  -- no step before the place names the node
  pub between : (k : ℕ) → from ≤ k → k < place → names_at c k n ≡ false
  -- the one there does, or it is no place
  pub there : (names_at c place n ≡ true) ⊎ (place ≡ nowhere)

-- the place is that of the first step from a place on that names the node, and nowhere if none does
pub record IsLater (n : ℕ) (c : List Step) (from place : ℕ) : Type 0 where
  -- the place isn't before the one from which it is sought
  pub ordered : from ≤ place
  -- it is the first of a step that names the node
  pub ahead : IsAhead n c from place

-- the place is that of the last step that names the node, and nowhere if none does
pub record IsLast (n : ℕ) (c : List Step) (place : ℕ) : Type 0 where
  -- a step that names the node is at this place or before it, and the one there names it
  pub last : (k : ℕ) → names_at c k n ≡ true → (k ≤ place) × (names_at c place n ≡ true)
  -- the one there names it, or it is no place
  pub there : (names_at c place n ≡ true) ⊎ (place ≡ nowhere)

-- the place is that of the first step that takes the node away, and nowhere if none does
pub record IsTaken (n : ℕ) (c : List Step) (place : ℕ) : Type 0 where
  -- no step before the place takes the node away
  pub before : (k : ℕ) → k < place → takes_at c k n ≡ false
  -- the one there does, or it is no place
  pub there : (takes_at c place n ≡ true) ⊎ (place ≡ nowhere)

-- ---- the links of steps

-- the node is the first one that the step names
abbrev pub is_first : ℕ → Step → Bool
is_first n (node t) = false
is_first n (link u v) = nat_eq n u
is_first n (unlink u v) = nat_eq n u
is_first n (drop u) = nat_eq n u
is_first n (relabel u t) = nat_eq n u

-- the first link where n is the first node that the step names, else the second
abbrev pub next_of : Step → Links → ℕ → ℕ
next_of s l n = if is_first n s then l.first else l.second

-- the links of the step, of which the one for n leads to the place `next`
abbrev pub with_next : Step → Links → ℕ → ℕ → Links
with_next s l n next = if is_first n s then record { first = next; second = l.second } else record { first = l.first; second = next }

-- where the link of the step at a place leads that is for a node which the step names
abbrev pub link_at : List Step → List Links → ℕ → ℕ → ℕ
link_at [] ls i n = nowhere
link_at (s ∷ ss) [] i n = nowhere
link_at (s ∷ ss) (l ∷ ls) zero n = next_of s l n
link_at (s ∷ ss) (l ∷ ls) (suc i) n = link_at ss ls i n

-- the links, where the one for n of the step at the place i leads to the place `next`
abbrev pub with_link : List Step → List Links → ℕ → ℕ → ℕ → List Links
with_link [] ls i n next = ls
with_link (s ∷ ss) [] i n next = []
with_link (s ∷ ss) (l ∷ ls) zero n next = with_next s l n next ∷ ls
with_link (s ∷ ss) (l ∷ ls) (suc i) n next = l ∷ with_link ss ls i n next

-- each link leads to the next step behind its own that names the node
pub record AreLinks (c : List Step) (links : List Links) : Type 0 where
  -- each step has links
  pub count : length links ≡ length c
  -- that of a node which the step names leads to the next step that names it
  pub next : (i n : ℕ) → names_at c i n ≡ true → IsLater n c (i + 1) (link_at c links i n)

-- ---- the first step that names a node, the last, and the first that takes it away

-- no step names the node
abbrev pub no_ends : Ends
no_ends = record { first = nowhere; last = nowhere; taken = nowhere }

-- what is noted of the node; `no_ends` where nothing is
abbrev pub ends_at : List (ℕ × Ends) → ℕ → Ends
ends_at ends n = unwrap_or (lookup (nat_eq n) ends) no_ends

-- the place of the first step that names the node, by what is noted
abbrev pub first_at : List (ℕ × Ends) → ℕ → ℕ
first_at ends n = (ends_at ends n).first

-- the place of the last step that names the node, by what is noted
abbrev pub last_at : List (ℕ × Ends) → ℕ → ℕ
last_at ends n = (ends_at ends n).last

-- the place of the first step that takes the node away, by what is noted
abbrev pub taken_at : List (ℕ × Ends) → ℕ → ℕ
taken_at ends n = (ends_at ends n).taken

-- of each node
pub record AreNoted (c : List Step) (ends : List (ℕ × Ends)) : Type 0 where
  -- the first step that names it
  pub first : (n : ℕ) → IsLater n c 0 (first_at ends n)
  -- the last step that does
  pub last : (n : ℕ) → IsLast n c (last_at ends n)
  -- the first one that takes it away
  pub taken : (n : ℕ) → IsTaken n c (taken_at ends n)

-- of a change of several steps; of one of fewer nothing is noted
pub record AreEnds (c : List Step) (ends : List (ℕ × Ends)) : Type 0 where
  -- of a change of two steps or more the ends of each node are noted
  pub each : 1 < length c → AreNoted c ends
  -- of a shorter one none are
  pub none : length c ≤ 1 → ends ≡ []

-- what a change keeps beside its steps
pub record AreKept (c : List Step) (links : List Links) (ends : List (ℕ × Ends)) (places : List ℕ) : Type 0 where
  -- the steps are linked
  pub linked : AreLinks c links
  -- the first and the last step of each node are noted
  pub noted : AreEnds c ends
  -- the places are those of the steps that add nodes
  pub placed : places ≡ node_places c

-- ---- one step more

-- the step takes away the node that it names
abbrev pub is_drop : Step → Bool
is_drop (node t) = false
is_drop (link u v) = false
is_drop (unlink u v) = false
is_drop (drop u) = true
is_drop (relabel u t) = false

-- the place of the first step that takes the node away, once the one at the place names it as well
abbrev pub taken_with : ℕ → ℕ → Bool → ℕ
taken_with taken place takes = if takes then min taken place else taken

-- the ends once a step at the place names the node as well, and may take it away
abbrev pub ends_with : Ends → ℕ → Bool → Ends
ends_with e place takes = record { first = min e.first place; last = place; taken = taken_with e.taken place takes }

-- a step at the place names these nodes and no others, and may take them away
abbrev pub Notes : (ℕ → Bool) → Bool → ℕ → List (ℕ × Ends) → List (ℕ × Ends) → Type 0
Notes named takes place old new = (m : ℕ) → ends_at new m ≡ (if named m then ends_with (ends_at old m) place takes else ends_at old m)

-- the last step before the place that names one of these nodes is linked to it
abbrev pub LeadsTo : (ℕ → Bool) → ℕ → List Step → List (ℕ × Ends) → List Links → List Links → Type 0
LeadsTo named place c ends old new =
    (i m : ℕ) → names_at c i m ≡ true → link_at c new i m ≡ (if named m && nat_eq i (last_at ends m) then place else link_at c old i m)
