-- A round over the active nodes keeps a partition no finer than full bisimilarity.
use Rattle.std.proofs.Common.{◌≡◌, ℕ, suc, ◌+◌, ◌≤◌, List, [], ◌∷◌, ◌++◌, length, Option, Some, None, is_some, refl, sym, ◌∙◌, ap, subst, arith, inl, inr, true, false, Bool, true≢false}
use Rattle.std.specs.Prelude.{◌||◌, ◌&&◌, nat_eq}
use Rattle.std.specs.List.{list_any}
use Rattle.std.proofs.lemmas.Bool.{cases_lt, cases_Bool, both_ways, or_cases, or_left, or_right, and_parts, and_from}
use Rattle.std.proofs.lemmas.Bool.Decides.{Decides-eqb}
use Rattle.graph_spec.specs.Members.{at, has}
use Rattle.graph_spec.proofs.MemberLaws.{has_push}
use Rattle.graph_spec.specs.Shapes.{Shape, IsShape}
use Rattle.bisim_spec.specs.Bisimilarity.{FB, Both, node_count}
use Rattle.bisim_spec.specs.Partitions.{Together, IsPartition, Agrees}
use Rattle.bisim_spec.proofs.Bisimilar.{none_or_some, is_some_at, matched_map, label_node, label_sym, both_sym, both_self, both_label}
use Rattle.bisim_spec.proofs.Settled.{fb_settled, fb_each}
use Rattle.bisim_spec.proofs.Together.{together_some}
use Rattle.round_refinement.specs.Active.{number_in, IsClosed, IsCoarse, IsNextWay, IsOnTheWay, AreAllNodes, AreAlike, AreGrouped, AreLevels, renamed, AreMoved, AreMoves, AreRenamed, StayTogether, is_shared, is_beside, AreAround, IsCaughtUp}
use Rattle.hash_index.specs.Items.{Items}
use Rattle.round_refinement.specs.Changes.{AreBlocksOf}
use Rattle.round_refinement.specs.Listing.{IsListed, IsWidened, ListsMoved}
use Rattle.round_refinement.specs.Watches.{DiffersOnlyAt}
use Rattle.round_refinement.proofs.NeighbourBlocks.{place_of}
use Rattle.round_refinement.proofs.MoveLaws.{new_at, kept_at, are_moves, moves_from, others_stay, caught_all}
use Rattle.round_refinement.proofs.ListingLaws.{listed_still, widened_closed}

-- tests of lists

any_get : (p : ℕ → Bool) (xs : List ℕ) → list_any p xs ≡ true → (q : ℕ) × (has xs q ≡ true) × (p q ≡ true)
any_get p [] h = absurd (true≢false (sym h))
any_get p (x ∷ xs) h = elim (or_cases (p x) (list_any p xs) h) [
  | inl e ↦ (x, or_left (nat_eq x x) (has xs x) ((Decides-eqb x x).1 refl), e)
  | inr t ↦ let r = any_get p xs t in (r.0, or_right (nat_eq r.0 x) (has xs r.0) r.1, r.2)
]

any_from : (p : ℕ → Bool) (xs : List ℕ) (q : ℕ) → has xs q ≡ true → p q ≡ true → list_any p xs ≡ true
any_from p [] q h e = absurd (true≢false (sym h))
any_from p (x ∷ xs) q h e = elim (or_cases (nat_eq q x) (has xs q) h) [
  | inl same ↦ or_left (p x) (list_any p xs) (ap p (sym ((Decides-eqb q x).0 same)) ∙ e)
  | inr t ↦ or_right (p x) (list_any p xs) (any_from p xs q t e)
]

-- one more list of nodes, of which those that pass are added

adds_more : (a x n p : Bool) → ((a || (x && n)) || (p && n)) ≡ (a || ((x || p) && n))
adds_more true x n p = refl
adds_more false true true p = refl
adds_more false true false true = refl
adds_more false true false false = refl
adds_more false false n p = refl

pub adds_step : (a x n p next mid y : Bool) → next ≡ (mid || (p && n)) → mid ≡ (a || (x && n)) → y ≡ (x || p) → next ≡ (a || (y && n))
adds_step a x n p next mid y e f h = e ∙ ap (λ b. b || (p && n)) f ∙ adds_more a x n p ∙ ap (λ b. a || (b && n)) (sym h)

-- all nodes

pub nodes_start : (block : List (Option ℕ)) → AreAllNodes block 0 []
nodes_start block = record { only = λ m h. absurd (true≢false (sym h)); every = λ m h e. absurd (omega (arith, h)) }

pub nodes_skip : (block : List (Option ℕ)) (nodes : List ℕ) (n : ℕ) → is_some (at block n) ≡ false → AreAllNodes block n nodes → AreAllNodes block (n + 1) nodes
nodes_skip block nodes n none w = record {
  only = w.only;
  every = λ m h e. elim (cases_lt m n) [
    | inl before ↦ w.every m before e
    | inr past ↦ (let here : n ≡ m = omega (arith, h, past) in absurd (both_ways (is_some (at block n)) none (ap (λ k. is_some (at block k)) here ∙ e)))
  ];
}

pub nodes_push : (block : List (Option ℕ)) (nodes : List ℕ) (n : ℕ) → is_some (at block n) ≡ true → AreAllNodes block n nodes → AreAllNodes block (n + 1) (nodes ++ n ∷ [])
nodes_push block nodes n some w = record {
  only = λ m h. elim (or_cases (has nodes m) (nat_eq m n) (sym (has_push nodes n m) ∙ h)) [
    | inl before ↦ w.only m before
    | inr same ↦ ap (λ k. is_some (at block k)) ((Decides-eqb m n).0 same) ∙ some
  ];
  every = λ m h e. elim (cases_lt m n) [
    | inl before ↦ has_push nodes n m ∙ or_left (has nodes m) (nat_eq m n) (w.every m before e)
    | inr past ↦ (let here : m ≡ n = omega (arith, h, past) in has_push nodes n m ∙ or_right (has nodes m) (nat_eq m n) ((Decides-eqb m n).1 here))
  ];
}

pub nodes_same : (block : List (Option ℕ)) (old new : List ℕ) (n size : ℕ) → size ≤ n → AreAllNodes block n old → ((m : ℕ) → has new m ≡ has old m) → AreAllNodes block size new
nodes_same block old new n size within w same = record {
  only = λ m h. w.only m (sym (same m) ∙ h);
  every = λ m h e. same m ∙ w.every m (omega (arith, h, within)) e;
}

-- with a node all that are bisimilar to it are among all nodes
pub nodes_closed : (s : Shape) (block : List (Option ℕ)) (nodes : List ℕ) (size : ℕ) → IsShape s → IsCoarse s block → s.size ≤ size → AreAllNodes block size nodes → IsClosed s nodes
nodes_closed s block nodes size shape w within a = λ u v r h.
    let l = both_label s (node_count s) u v r in
    let below = shape.below v (label_node s v u (label_sym s u v l)) in
    let t = w.together u v r in
    a.every v (omega (arith, below, within)) (is_some_at (at block v) t.0 t.2)

-- bisimilar nodes are alike in partitions that are no finer
pub fb_alike : (s : Shape) (before now : List (Option ℕ)) → IsShape s → IsCoarse s before → IsCoarse s now → (u v : ℕ) → FB s u v → AreAlike s.edge before now u v
fb_alike s before now shape b w u v r =
    let up = (fb_settled s shape).within u v r in
    let both : (p q : ℕ) → FB s p q → StayTogether before now p q = λ p q f. (b.together p q f, w.together p q f) in
    record {
      own = w.together u v r;
      parents = matched_map both up.1;
      children = matched_map both up.2;
    }

pub grouped_fb : (s : Shape) (before now : List (Option ℕ)) (moved active groups : List ℕ) → IsShape s → IsOnTheWay s before now moved → AreGrouped (AreAlike s.edge before now) active groups
    → AreGrouped (FB s) active groups
grouped_fb s before now moved active groups shape w g = record {
  length_is = g.length_is;
  alike = λ i j hi hj r. g.alike i j hi hj (fb_alike s before now shape w.was_coarse w.coarse (number_in active i) (number_in active j) r);
}

-- a level is no finer than full bisimilarity
pub level_coarse : (s : Shape) (block : List (Option ℕ)) (i : ℕ) → IsShape s → Agrees s block (Both s i) → IsCoarse s block
level_coarse s block i shape a = record {
  partition = a.partition;
  together = λ u v r.
      let l = both_label s (node_count s) u v r in
      a.grouped u v (label_node s u v l) (label_node s v u (label_sym s u v l)) (fb_each s shape i u v r);
}

-- nodes of one level have the blocks of the next one as their groups
pub level_grouped : (s : Shape) (block next : List (Option ℕ)) (nodes groups : List ℕ) → IsShape s → AreLevels s block next → AreBlocksOf next nodes groups → AreGrouped (FB s) nodes groups
level_grouped s block next nodes groups shape l w = record {
  length_is = w.length_is;
  alike = λ j k hj hk r.
      let t = (level_coarse s next (suc l.level) shape l.is_next).together (number_in nodes j) (number_in nodes k) r in
      w.each j t.0 hj t.1 ∙ sym (w.each k t.0 hk t.2);
}

-- no round was yet
pub way_start : (s : Shape) (block next : List (Option ℕ)) → IsShape s → AreLevels s block next → IsOnTheWay s block block []
way_start s block next shape l =
    let w = level_coarse s block l.level shape l.is_level in
    record {
      was_coarse = w;
      coarse = w;
      moves = record { why = λ n h. absurd (true≢false (sym h)); every = λ n apart. absurd (apart refl) };
    }

-- bisimilar nodes stay together
stay : (s : Shape) (old new : List (Option ℕ)) (active groups names : List ℕ) → IsCoarse s old → IsClosed s active → AreGrouped (FB s) active groups
    → AreRenamed old new active groups names (length active) → (u v : ℕ) → FB s u v → Together new u v
stay s old new active groups names w closed g c u v r = elim (cases_Bool (has active u)) [
  | inl here ↦
      (let i = place_of active u here in
      let j = place_of active v (closed u v r here) in
      let t = w.together u v r in
      let at_u = subst (λ m. FB s m v) (sym i.2) r in
      let same : number_in groups i.0 ≡ number_in groups j.0 = g.alike i.0 j.0 i.1 j.1 (subst (FB s (number_in active i.0)) (sym j.2) at_u) in
      let name_u : at new u ≡ Some (number_in names (number_in groups i.0)) =
      new_at old new active groups names (length active) i.0 u c i.1 i.2 ∙ ap (λ o. renamed o (number_in names (number_in groups i.0))) t.1
      in
      let name_v : at new v ≡ Some (number_in names (number_in groups j.0)) =
      new_at old new active groups names (length active) j.0 v c j.1 j.2 ∙ ap (λ o. renamed o (number_in names (number_in groups j.0))) t.2
      in
      (number_in names (number_in groups i.0), name_u, name_v ∙ ap (λ k. Some (number_in names k)) (sym same)))
  | inr none ↦
      (let t = w.together u v r in
      let none_v : has active v ≡ false = not_active (λ h. both_ways (has active u) none (closed v u (both_sym s (node_count s) u v r) h)) in
      (t.0, kept_at old new active groups names u c none ∙ t.1, kept_at old new active groups names v c none_v ∙ t.2))
]
  where
    not_active : (has active v ≡ true → ⊥) → has active v ≡ false
    not_active refuted = elim (cases_Bool (has active v)) [ inl h ↦ absurd (refuted h) | inr h ↦ h ]

-- with a node that moves each that is bisimilar to it moves
moved_closed : (before now : List (Option ℕ)) (moved : List ℕ) (p q : ℕ) → AreMoves before now moved → Together before p q → Together now p q → has moved p ≡ true → has moved q ≡ true
moved_closed before now moved p q w was is h = w.every q (λ same. w.why p h (let a = was.1 in let b = was.2 in let c = is.1 in let d = is.2 in cc))

-- and each that is bisimilar to a neighbour of one is around
pub around_closed : (s : Shape) (before now : List (Option ℕ)) (moved members next : List ℕ) → IsShape s → IsOnTheWay s before now moved → AreAround s.edge now members moved next → IsClosed s next
around_closed s before now moved members next shape w a = λ u v r h.
    let closed : (p q : ℕ) → FB s p q → has moved p ≡ true → has moved q ≡ true =
    λ p q f. moved_closed before now moved p q w.moves (w.was_coarse.together p q f) (w.coarse.together p q f)
    in
    let parts = and_parts (list_any (λ q. is_beside s.edge q u) moved) (is_shared members (at now u)) (sym (a.same u) ∙ h) in
    let q = any_get (λ q. is_beside s.edge q u) moved parts.0 in
    let t = w.coarse.together u v r in
    let same : at now v ≡ at now u = t.2 ∙ sym t.1 in
    let up = (fb_settled s shape).within u v r in
    let beside : list_any (λ q. is_beside s.edge q v) moved ≡ true = elim (or_cases (s.edge q.0 u) (s.edge u q.0) q.2) [
      | inl e ↦
          (let p = up.1.there q.0 e in
          any_from (λ q. is_beside s.edge q v) moved p.0 (closed q.0 p.0 p.2 q.1) (or_left (s.edge p.0 v) (s.edge v p.0) p.1))
      | inr e ↦
          (let p = up.2.there q.0 e in
          any_from (λ q. is_beside s.edge q v) moved p.0 (closed q.0 p.0 p.2 q.1) (or_right (s.edge p.0 v) (s.edge v p.0) p.1))
    ] in
    a.same v ∙ and_from (list_any (λ q. is_beside s.edge q v) moved) (is_shared members (at now v)) beside (ap (is_shared members) same ∙ parts.1)

-- exactly the nodes have a block still
new_partition : (s : Shape) (old new : List (Option ℕ)) (active groups names : List ℕ) → IsShape s → IsPartition s old → AreRenamed old new active groups names (length active)
    → ((u v : ℕ) → FB s u v → Together new u v) → IsPartition s new
new_partition s old new active groups names shape p c together = record {
  live = λ n h. together_some new n n (together n n (both_self s shape (node_count s) n h));
  only = λ n h. elim (none_or_some (at old n)) [
    | inl none ↦ absurd (both_ways (is_some (at new n)) (ap is_some (gone n none)) h)
    | inr (b, e) ↦ p.only n (is_some_at (at old n) b e)
  ];
}
  where
    gone : (n : ℕ) → at old n ≡ None → at new n ≡ None
    gone n none = elim (cases_Bool (has active n)) [
      | inl here ↦
          (let i = place_of active n here in
          new_at old new active groups names (length active) i.0 n c i.1 i.2 ∙ ap (λ o. renamed o (number_in names (number_in groups i.0))) none)
      | inr out ↦ kept_at old new active groups names n c out ∙ none
    ]

coarse_same : (s : Shape) (a b : List (Option ℕ)) → ((n : ℕ) → at b n ≡ at a n) → IsCoarse s a → IsCoarse s b
coarse_same s a b same w = record {
  partition = record {
    live = λ n h. ap is_some (same n) ∙ w.partition.live n h;
    only = λ n h. w.partition.only n (ap is_some (sym (same n)) ∙ h);
  };
  together = λ u v r. let t = w.together u v r in (t.0, same u ∙ t.1, same v ∙ t.2);
}

-- what a round leaves, whatever it was over
pub round_way : (s : Shape) (before after old new : List (Option ℕ)) (moved active groups names next : List ℕ) → IsShape s → IsOnTheWay s before old moved → IsClosed s active
    → AreGrouped (FB s) active groups → AreMoved old active groups names (length active) next → AreRenamed old new active groups names (length active) → IsCaughtUp before old moved after
    → IsNextWay s old after new next
round_way s before after old new moved active groups names next shape w closed g m c up =
    let together : (u v : ℕ) → FB s u v → Together new u v = stay s old new active groups names w.coarse closed g c in
    let same = caught_all s before old after moved w.was_coarse.partition w.coarse.partition w.moves up in
    record {
      way = record {
        was_coarse = coarse_same s old after same w.coarse;
        coarse = record { partition = new_partition s old new active groups names shape w.coarse.partition c together; together = together };
        moves = moves_from old after new next same (are_moves old new active groups names next m c);
      };
      was = same;
    }

-- over lists that were handed on
pub round_handed : (s : Shape) (before before2 after after2 old old2 old3 old4 new new2 : List (Option ℕ)) (moved moved2 active groups names names2 names3 next : List ℕ) → IsShape s
    → IsOnTheWay s before old moved → IsClosed s active → AreGrouped (FB s) active groups → old2 ≡ old → names2 ≡ names
    → AreMoved old2 active groups names2 (length active) next → old4 ≡ old → names3 ≡ names → AreRenamed old4 new active groups names3 (length active) → before2 ≡ before
    → old3 ≡ old → moved2 ≡ moved → IsCaughtUp before2 old3 moved2 after → after2 ≡ after → new2 ≡ new → IsNextWay s old after2 new2 next
round_handed s before before2 after after2 old old2 old3 old4 new new2 moved moved2 active groups names names2 names3 next shape w closed g eo en m eo4 fn c eb eo3 em up ea ew =
    subst (λ x. IsNextWay s old x new2 next) (sym ea)
    (subst (λ x. IsNextWay s old after x next) (sym ew)
    (round_way s before after old new moved active groups names next shape w closed g
    (subst (λ o. AreMoved o active groups names (length active) next) eo (subst (λ y. AreMoved old2 active groups y (length active) next) en m))
    (subst (λ o. AreRenamed o new active groups names (length active)) eo4 (subst (λ y. AreRenamed old4 new active groups y (length active)) fn c))
    (subst (λ x. IsCaughtUp x old moved after) eb (subst (λ o. IsCaughtUp before2 o moved after) eo3 (subst (λ q. IsCaughtUp before2 old3 q after) em up)))))

pub listed_next : (s : Shape) (old before now now2 : List (Option ℕ)) (moved moved2 : List ℕ) (lists lists2 : Items ℕ) → IsNextWay s old before now moved → IsListed old lists → now2 ≡ now
    → moved2 ≡ moved → ListsMoved now2 moved2 lists lists2 → IsListed now lists2
listed_next s old before now now2 moved moved2 lists lists2 w l en em m =
    listed_still old now moved lists lists2 l (moves_from before old now moved (λ n. sym (w.was n)) w.way.moves)
    (subst (λ x. ListsMoved x moved lists lists2) en (subst (λ q. ListsMoved now2 q lists lists2) em m))

pub differs_next : (s : Shape) (old before now now2 : List (Option ℕ)) (moved moved2 : List ℕ) → IsNextWay s old before now moved → now2 ≡ now → moved2 ≡ moved → DiffersOnlyAt old now2 moved2
differs_next s old before now now2 moved moved2 w en em = λ n off.
    ap (λ x. at x n) en ∙ others_stay before now moved w.way.moves n (sym (ap (λ q. has q n) em) ∙ off) ∙ w.was n

pub closed_handed : (s : Shape) (active active2 : List ℕ) → active2 ≡ active → IsClosed s active → IsClosed s active2
closed_handed s active active2 e closed = subst (IsClosed s) (sym e) closed

pub grouped_handed : (s : Shape) (before now : List (Option ℕ)) (moved active active2 active3 groups groups2 : List ℕ) → IsShape s → IsOnTheWay s before now moved → active2 ≡ active
    → AreGrouped (AreAlike s.edge before now) active2 groups → active3 ≡ active → groups2 ≡ groups → AreGrouped (FB s) active3 groups2
grouped_handed s before now moved active active2 active3 groups groups2 shape w e g f eg =
    grouped_fb s before now moved active3 groups2 shape w
    (subst (λ y. AreGrouped (AreAlike s.edge before now) active3 y) (sym eg) (subst (λ x. AreGrouped (AreAlike s.edge before now) x groups) (e ∙ sym f) g))

pub around_handed : (s : Shape) (before now now2 now3 : List (Option ℕ)) (moved moved2 members near near2 active : List ℕ) → IsShape s → IsOnTheWay s before now moved → now2 ≡ now
    → moved2 ≡ moved → AreAround s.edge now2 members moved2 near → now3 ≡ now → near2 ≡ near → IsWidened now3 near2 active → IsClosed s active
around_handed s before now now2 now3 moved moved2 members near near2 active shape w en em a fn fe v =
    widened_closed s now near active w.coarse
    (around_closed s before now moved members near shape w (subst (λ x. AreAround s.edge x members moved near) en (subst (λ q. AreAround s.edge now2 members q near) em a)))
    (subst (λ x. IsWidened x near active) fn (subst (λ y. IsWidened now3 y active) fe v))
