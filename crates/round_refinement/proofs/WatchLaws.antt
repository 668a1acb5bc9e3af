-- Neighbours on lists.
use Rattle.std.proofs.Common.{◌≡◌, ◌≢◌, ℕ, zero, suc, ◌+◌, ◌<◌, ◌≤◌, ◌⊎◌, ◌↔◌, List, [], ◌∷◌, ◌++◌, length, Bool, Option, Some, None, IsSome, IsTrue, is_some, IfSome, refl, sym, ◌∙◌, ap, subst, arith, inl, inr, true, false, true≢false, slice_get, get_or, take, take_all}
use Rattle.std.specs.Prelude.{nat_eq}
use Rattle.std.proofs.lemmas.Bool.{cases_lt, cases_Bool, or_cases, or_left, or_right}
use Rattle.std.proofs.lemmas.Bool.Decides.{Decides-eqb, eqb_tells}
use Rattle.std.proofs.lemmas.List.{get_or_push, get_or_append_left, length-append}
use Rattle.std.proofs.lemmas.Option.{slice_get_within}
use Rattle.hash_index.specs.Items.{Items, with_item, hash_at, count_to, IsNewest}
use Rattle.key_table.specs.NumberedKeys.{Interns, AreDistinct, IsAbsent}
use Rattle.graph_spec.specs.Members.{at, has, Lists}
use Rattle.graph_spec.proofs.MemberLaws.{has_at, has_more, has_cases, has_head}
use Rattle.bisim_spec.proofs.Bisimilar.{some_of, is_some_at}
use Rattle.bisim_spec.specs.declared.sides.Side.{Side}
use Rattle.bisim_spec.specs.declared.sides.Side.TheVariants.{Parents, Children}
use Rattle.round_refinement.specs.Active.{mark_in}
use Rattle.round_refinement.specs.NeighbourSides.{is_neighbour}
use Rattle.round_refinement.specs.declared.watches.Places.{Places}
use Rattle.round_refinement.specs.declared.watches.Watches.{Watches}
use Rattle.round_refinement.specs.Watches.{AreNeighbours, AreOrdered, DiffersOnlyAt, IsAsked, IsWaiting, IsWatched, Puts, PutsBeside, PutsHead, PutsMoved, PutsNodes, PutsOne, SkipsTo, place_key, side_in_key}
use Rattle.round_refinement.proofs.NumberedNodes.{interned_at, interned_stays}

-- ---- an item behind the others

got_before : {X : Type 0} (xs ys : List X) (k : ℕ) → k < length xs → slice_get (xs ++ ys) k ≡ slice_get xs k
got_before [] ys k h = absurd (omega (arith, h))
got_before (x ∷ xs) ys zero h = refl
got_before (x ∷ xs) ys (suc k) h = got_before xs ys k (omega (arith, h))

got_last : {X : Type 0} (xs : List X) (x : X) → slice_get (xs ++ x ∷ []) (length xs) ≡ Some x
got_last [] x = refl
got_last (z ∷ xs) x = got_last xs x

got_past : {X : Type 0} (xs : List X) (x y : X) (k : ℕ) → length xs ≤ k → slice_get (xs ++ x ∷ []) k ≡ Some y → (k ≡ length xs) × (x ≡ y)
got_past [] x y zero h e = (refl, (let d = e in cc))
got_past [] x y (suc k) h e = absurd (cc)
got_past (z ∷ xs) x y zero h e = absurd (omega (arith, h))
got_past (z ∷ xs) x y (suc k) h e = let r = got_past xs x y k (omega (arith, h)) e in (ap suc r.0, r.1)

-- ---- keys

same_side : (s t : Side) → side_in_key s ≡ side_in_key t → s ≡ t
same_side Parents Parents e = refl
same_side Parents Children e = absurd (omega (arith, e))
same_side Children Parents e = absurd (omega (arith, e))
same_side Children Children e = refl

head_of : List ℕ → ℕ
head_of [] = 0
head_of (x ∷ xs) = x

tail_of : List ℕ → List ℕ
tail_of [] = []
tail_of (x ∷ xs) = xs

same_place : (m n : ℕ) (s t : Side) (b c : ℕ) → place_key m s b ≡ place_key n t c → (m ≡ n) × (s ≡ t) × (b ≡ c)
unfolding head_of tail_of
same_place m n s t b c e = (ap head_of e, same_side s t (ap (λ k. head_of (tail_of k)) e), ap (λ k. head_of (tail_of (tail_of k))) e)

some_inside : {X : Type 0} (x y : X) → Some x ≡ Some y → x ≡ y
some_inside x y e = cc

-- a key that stood at a number before
key_before : (old new : List (List ℕ)) (key x : List ℕ) (k j : ℕ) → Interns old new key k → j < length old → slice_get new j ≡ Some x → slice_get old j ≡ Some x
key_before old new key x k j i h e = elim i [
  | inl (at_old, same) ↦ ap (λ l. slice_get l j) (sym same) ∙ e
  | inr (absent, last, more) ↦ sym (got_before old (key ∷ []) j h) ∙ ap (λ l. slice_get l j) (sym more) ∙ e
]

more_keys : (old new : List (List ℕ)) (key : List ℕ) (k : ℕ) → Interns old new key k → length old ≤ length new
more_keys old new key k i = elim i [
  | inl (at_old, same) ↦ (let e = ap length same in omega (arith, e))
  | inr (absent, last, more) ↦ (let e = ap length more in let f = length-append old (key ∷ []) in omega (arith, e, f))
]

-- ---- one neighbour on a list

module _ (old new : Places) (n : ℕ) (side : Side) (b p k i : ℕ) (even : length old.nodes.hashes ≡ length old.nodes.items)
    (interns : Interns old.keys new.keys (place_key n side b) k) (last : i ≡ length old.nodes.items) (nodes : new.nodes ≡ with_item old.nodes k p)
    (head : PutsHead k (Some i) old.heads.items new.heads.items) where
  hashes : new.nodes.hashes ≡ old.nodes.hashes ++ k ∷ []
  hashes = ap (λ x. x.hashes) nodes

  items : new.nodes.items ≡ old.nodes.items ++ p ∷ []
  items = ap (λ x. x.items) nodes

  longer : length new.nodes.hashes ≡ length old.nodes.hashes + 1
  longer = ap length hashes ∙ length-append old.nodes.hashes (k ∷ [])

  hash_before : (j : ℕ) → j < length old.nodes.hashes → hash_at new.nodes.hashes j ≡ hash_at old.nodes.hashes j
  hash_before j h = ap (λ l. hash_at l j) hashes ∙ get_or_append_left old.nodes.hashes (k ∷ []) 0 j h

  hash_last : hash_at new.nodes.hashes i ≡ k
  hash_last = ap (λ l. hash_at l i) hashes ∙ get_or_push old.nodes.hashes k 0 i (even ∙ sym last)

  item_before : (j : ℕ) → j < length old.nodes.hashes → slice_get new.nodes.items j ≡ slice_get old.nodes.items j
  item_before j h = ap (λ l. slice_get l j) items ∙ got_before old.nodes.items (p ∷ []) j (omega (arith, h, even))

  item_last : slice_get new.nodes.items i ≡ Some p
  item_last = ap (λ l. slice_get l i) items ∙ subst (λ j. slice_get (old.nodes.items ++ p ∷ []) j ≡ Some p) (sym last) (got_last old.nodes.items p)

  here : IsWaiting new n side b p
  here = record {
    place = k;
    head = i;
    item = i;
    key = interned_at old.keys new.keys (place_key n side b) k interns;
    first = head.here;
    behind = omega arith;
    within = omega (arith, longer, last, even);
    hash = hash_last;
    node = item_last;
  }

  stays : (m : ℕ) (s : Side) (c q : ℕ) → IsWaiting old m s c q → IsWaiting new m s c q
  stays m s c q w = elim (eqb_tells w.place k) [
    | inl t ↦ record {
      place = w.place;
      head = i;
      item = w.item;
      key = interned_stays old.keys new.keys (place_key n side b) k interns w.place (place_key m s c) w.key;
      first = ap (at new.heads.items) t.1 ∙ head.here;
      behind = (let x = w.within in omega (arith, x, last, even));
      within = (let x = w.within in omega (arith, x, longer));
      hash = hash_before w.item w.within ∙ w.hash;
      node = item_before w.item w.within ∙ w.node;
    }
    | inr f ↦ record {
      place = w.place;
      head = w.head;
      item = w.item;
      key = interned_stays old.keys new.keys (place_key n side b) k interns w.place (place_key m s c) w.key;
      first = head.others w.place f.1 ∙ w.first;
      behind = w.behind;
      within = (let x = w.within in omega (arith, x, longer));
      hash = hash_before w.item w.within ∙ w.hash;
      node = item_before w.item w.within ∙ w.node;
    }
  ]

  ordered : AreOrdered old → AreOrdered new
  ordered o = record {
    placed = λ j h. elim (cases_lt j (length old.nodes.hashes)) [
      | inl before ↦
          (let x = o.placed j before in
          let e = hash_before j before in
          let l = more_keys old.keys new.keys (place_key n side b) k interns in
          omega (arith, x, e, l))
      | inr past ↦
          (let j_is : i ≡ j = omega (arith, h, past, longer, last, even) in
          let e = ap (hash_at new.nodes.hashes) (sym j_is) ∙ hash_last in
          let x = slice_get_within new.keys k (place_key n side b) (interned_at old.keys new.keys (place_key n side b) k interns) in
          omega (arith, x, e))
    ];
    within = λ j h e. elim (eqb_tells j k) [
      | inl t ↦ (let x = some_inside i h (sym head.here ∙ ap (at new.heads.items) (sym t.1) ∙ e) in omega (arith, x, last, even, longer))
      | inr f ↦ (let x = o.within j h (sym (head.others j f.1) ∙ e) in omega (arith, x, longer))
    ];
    hash = λ j h e. elim (eqb_tells j k) [
      | inl t ↦ (let x = some_inside i h (sym head.here ∙ ap (at new.heads.items) (sym t.1) ∙ e) in
          ap (hash_at new.nodes.hashes) (sym x) ∙ hash_last ∙ sym t.1)
      | inr f ↦ (let g = sym (head.others j f.1) ∙ e in hash_before h (o.within j h g) ∙ o.hash j h g)
    ];
  }

  neighbours_still : (edge : ℕ → ℕ → Bool) → IsTrue (is_neighbour side edge p n) → AreOrdered old → AreNeighbours edge old → AreNeighbours edge new
  neighbours_still edge suits o a = λ j q m s c e f. elim (cases_lt j (length old.nodes.hashes)) [
    | inl before ↦
        (let h = hash_before j before in
        let g : slice_get new.keys (hash_at old.nodes.hashes j) ≡ Some (place_key m s c) = ap (slice_get new.keys) (sym h) ∙ f in
        a j q m s c (sym (item_before j before) ∙ e)
        (key_before old.keys new.keys (place_key n side b) (place_key m s c) k (hash_at old.nodes.hashes j) interns (o.placed j before) g))
    | inr past ↦
        (let r = got_past old.nodes.items p q j (omega (arith, past, even)) (ap (λ l. slice_get l j) (sym items) ∙ e) in
        let j_is : i ≡ j = last ∙ sym r.0 in
        let h : hash_at new.nodes.hashes j ≡ k = ap (hash_at new.nodes.hashes) (sym j_is) ∙ hash_last in
        let g = sym (interned_at old.keys new.keys (place_key n side b) k interns) ∙ ap (slice_get new.keys) (sym h) ∙ f in
        let s3 = same_place n m side s b c (some_inside (place_key n side b) (place_key m s c) g) in
        subst (λ x. IsTrue (is_neighbour s edge q x)) s3.0 (subst (λ x. IsTrue (is_neighbour x edge q n)) s3.1 (subst (λ x. IsTrue (is_neighbour side edge x n)) r.1 suits)))
  ]

  pub puts_one : PutsOne n side (Some b) p old new
  puts_one = record {
    put = λ m s c q w.
        subst (λ x. IsWaiting new x s c q) (sym w.0) (subst (λ x. IsWaiting new n x c q) (sym w.1)
        (subst (λ x. IsWaiting new n side x q) (some_inside b c w.2) (subst (λ x. IsWaiting new n side b x) (sym w.3) here)));
    kept = stays;
    ordered = ordered;
    only = neighbours_still;
  }

-- ---- neighbours that are put one after another

pub puts_none : (IsWanted : ℕ → Side → ℕ → ℕ → Type 0) (Suits : (ℕ → ℕ → Bool) → Type 0) (old : Places) → ((n : ℕ) (side : Side) (b p : ℕ) → IsWanted n side b p → ⊥)
    → Puts IsWanted Suits old old
puts_none IsWanted Suits old none = record { put = λ n side b p w. absurd (none n side b p w); kept = λ n side b p w. w; ordered = λ o. o; only = λ edge s o a. a }

pub puts_both : (First Second IsWanted : ℕ → Side → ℕ → ℕ → Type 0) (One Two Suits : (ℕ → ℕ → Bool) → Type 0) (old mid new : Places) → Puts First One old mid → Puts Second Two mid new
    → ((n : ℕ) (side : Side) (b p : ℕ) → IsWanted n side b p → First n side b p ⊎ Second n side b p) → ((edge : ℕ → ℕ → Bool) → Suits edge → One edge × Two edge)
    → Puts IsWanted Suits old new
puts_both First Second IsWanted One Two Suits old mid new f s wanted suits = record {
  put = λ n side b p w. elim (wanted n side b p w) [ inl x ↦ s.kept n side b p (f.put n side b p x) | inr y ↦ s.put n side b p y ];
  kept = λ n side b p w. s.kept n side b p (f.kept n side b p w);
  ordered = λ o. s.ordered (f.ordered o);
  only = λ edge e o a. (let x = suits edge e in s.only edge x.1 (f.ordered o) (f.only edge x.0 o a));
}

pub puts_as : (First IsWanted : ℕ → Side → ℕ → ℕ → Type 0) (One Suits : (ℕ → ℕ → Bool) → Type 0) (old new : Places) → Puts First One old new
    → ((n : ℕ) (side : Side) (b p : ℕ) → IsWanted n side b p → First n side b p) → ((edge : ℕ → ℕ → Bool) → Suits edge → One edge) → Puts IsWanted Suits old new
puts_as First IsWanted One Suits old new f wanted suits = record {
  put = λ n side b p w. f.put n side b p (wanted n side b p w);
  kept = f.kept;
  ordered = f.ordered;
  only = λ edge e o a. f.only edge (suits edge e) o a;
}

pub one_none : (n : ℕ) (side : Side) (p : ℕ) (old : Places) → PutsOne n side None p old old
one_none n side p old = puts_none (λ m s b q. (m ≡ n) × (s ≡ side) × (None ≡ Some b) × (q ≡ p)) (λ edge. IsTrue (is_neighbour side edge p n)) old (λ m s b q w. let e = w.2 in cc)

-- the only number of a list
only_one : (x n : ℕ) → has (x ∷ []) n ≡ true → n ≡ x
only_one x n h = elim (has_cases x [] n h) [ inl e ↦ e | inr none ↦ absurd (true≢false (sym none)) ]

-- one of the first numbers and one more
one_more : (xs : List ℕ) (i d n : ℕ) → i < length xs → has (take (i + 1) xs) n ≡ true → (has (take i xs) n ≡ true) ⊎ (n ≡ get_or xs i d)
one_more xs i d n within h = elim (or_cases (has (take i xs) n) (nat_eq n (get_or xs i d)) (sym (has_more xs i d n within) ∙ h)) [
  | inl before ↦ inl before
  | inr here ↦ inr ((Decides-eqb n (get_or xs i d)).0 here)
]

more_before : (xs : List ℕ) (i d n : ℕ) → i < length xs → has (take i xs) n ≡ true → has (take (i + 1) xs) n ≡ true
more_before xs i d n within h = has_more xs i d n within ∙ or_left (has (take i xs) n) (nat_eq n (get_or xs i d)) h

more_here : (xs : List ℕ) (i d : ℕ) → i < length xs → has (take (i + 1) xs) (get_or xs i d) ≡ true
more_here xs i d within =
    let x = get_or xs i d in
    has_more xs i d x within ∙ or_right (has (take i xs) x) (nat_eq x x) ((Decides-eqb x x).1 refl)

pub nodes_none : (n : ℕ) (side : Side) (block : List (Option ℕ)) (old : Places) → PutsNodes n side block [] old old
nodes_none n side block old =
    puts_none (λ m s b p. (m ≡ n) × (s ≡ side) × (has [] p ≡ true) × (at block p ≡ Some b)) (λ edge. (p : ℕ) → has [] p ≡ true → IsTrue (is_neighbour side edge p n)) old
    (λ m s b p w. true≢false (sym w.2))

pub nodes_more : (n : ℕ) (side : Side) (block : List (Option ℕ)) (nodes : List ℕ) (i d : ℕ) (old mid new : Places) → i < length nodes → PutsNodes n side block (take i nodes) old mid
    → PutsOne n side (at block (get_or nodes i d)) (get_or nodes i d) mid new → PutsNodes n side block (take (i + 1) nodes) old new
nodes_more n side block nodes i d old mid new within f s =
    let x = get_or nodes i d in
    puts_both (λ m t b p. (m ≡ n) × (t ≡ side) × (has (take i nodes) p ≡ true) × (at block p ≡ Some b)) (λ m t b q. (m ≡ n) × (t ≡ side) × (at block x ≡ Some b) × (q ≡ x))
    (λ m t b p. (m ≡ n) × (t ≡ side) × (has (take (i + 1) nodes) p ≡ true) × (at block p ≡ Some b))
    (λ edge. (p : ℕ) → has (take i nodes) p ≡ true → IsTrue (is_neighbour side edge p n)) (λ edge. IsTrue (is_neighbour side edge x n))
    (λ edge. (p : ℕ) → has (take (i + 1) nodes) p ≡ true → IsTrue (is_neighbour side edge p n)) old mid new f s
    (λ m t b p w. elim (one_more nodes i d p within w.2) [
      | inl before ↦ inl (w.0, w.1, before, w.3)
      | inr here ↦ inr (w.0, w.1, ap (at block) (sym here) ∙ w.3, here)
    ])
    (λ edge e. (λ p h. e p (more_before nodes i d p within h), e x (more_here nodes i d within)))

pub beside_watched : (watched : List Bool) (n : ℕ) (side : Side) (block : Option ℕ) (q : ℕ) (old new : Places) → PutsOne n side block q old new → PutsBeside watched (n ∷ []) side block q old new
beside_watched watched n side block q old new f =
    puts_as (λ m s b p. (m ≡ n) × (s ≡ side) × (block ≡ Some b) × (p ≡ q)) (λ m s b p. (mark_in watched m ≡ true) × (has (n ∷ []) m ≡ true) × (s ≡ side) × (block ≡ Some b) × (p ≡ q))
    (λ edge. IsTrue (is_neighbour side edge q n)) (λ edge. (m : ℕ) → has (n ∷ []) m ≡ true → IsTrue (is_neighbour side edge q m)) old new f
    (λ m s b p w. (only_one n m w.1, w.2, w.3, w.4)) (λ edge e. e n (has_head n []))

pub beside_other : (watched : List Bool) (n : ℕ) (side : Side) (block : Option ℕ) (q : ℕ) (old : Places) → mark_in watched n ≡ false → PutsBeside watched (n ∷ []) side block q old old
beside_other watched n side block q old off =
    puts_none (λ m s b p. (mark_in watched m ≡ true) × (has (n ∷ []) m ≡ true) × (s ≡ side) × (block ≡ Some b) × (p ≡ q))
    (λ edge. (m : ℕ) → has (n ∷ []) m ≡ true → IsTrue (is_neighbour side edge q m)) old
    (λ m s b p w. true≢false (sym w.0 ∙ ap (mark_in watched) (only_one n m w.1) ∙ off))

pub beside_none : (watched : List Bool) (side : Side) (block : Option ℕ) (q : ℕ) (old : Places) → PutsBeside watched [] side block q old old
beside_none watched side block q old =
    puts_none (λ m s b p. (mark_in watched m ≡ true) × (has [] m ≡ true) × (s ≡ side) × (block ≡ Some b) × (p ≡ q)) (λ edge. (m : ℕ) → has [] m ≡ true → IsTrue (is_neighbour side edge q m)) old
    (λ m s b p w. true≢false (sym w.1))

pub beside_more : (watched : List Bool) (nodes : List ℕ) (i d : ℕ) (side : Side) (block : Option ℕ) (q : ℕ) (old mid new : Places) → i < length nodes → PutsBeside watched (take i nodes) side block q old mid
    → PutsBeside watched (get_or nodes i d ∷ []) side block q mid new → PutsBeside watched (take (i + 1) nodes) side block q old new
beside_more watched nodes i d side block q old mid new within f s =
    let x = get_or nodes i d in
    puts_both (λ m t b p. (mark_in watched m ≡ true) × (has (take i nodes) m ≡ true) × (t ≡ side) × (block ≡ Some b) × (p ≡ q))
    (λ m t b p. (mark_in watched m ≡ true) × (has (x ∷ []) m ≡ true) × (t ≡ side) × (block ≡ Some b) × (p ≡ q))
    (λ m t b p. (mark_in watched m ≡ true) × (has (take (i + 1) nodes) m ≡ true) × (t ≡ side) × (block ≡ Some b) × (p ≡ q))
    (λ edge. (m : ℕ) → has (take i nodes) m ≡ true → IsTrue (is_neighbour side edge q m)) (λ edge. (m : ℕ) → has (x ∷ []) m ≡ true → IsTrue (is_neighbour side edge q m))
    (λ edge. (m : ℕ) → has (take (i + 1) nodes) m ≡ true → IsTrue (is_neighbour side edge q m)) old mid new f s
    (λ m t b p w. elim (one_more nodes i d m within w.1) [
      | inl before ↦ inl (w.0, before, w.2, w.3, w.4)
      | inr here ↦ inr (w.0, subst (λ y. has (x ∷ []) y ≡ true) (sym here) (has_head x []), w.2, w.3, w.4)
    ])
    (λ edge e. (λ m h. e m (more_before nodes i d m within h), λ m h. subst (λ y. IsTrue (is_neighbour side edge q y)) (sym (only_one x m h)) (e x (more_here nodes i d within))))

-- ---- nodes that moved

pub moved_node : (edge : ℕ → ℕ → Bool) (block : List (Option ℕ)) (watched : List Bool) (q : ℕ) (children parents : List ℕ) (old mid new : Places) → Lists (edge q) children → Lists (λ u. edge u q) parents
    → PutsBeside watched children Parents (at block q) q old mid → PutsBeside watched parents Children (at block q) q mid new → PutsMoved edge block watched (q ∷ []) old new
moved_node edge block watched q children parents old mid new below above f s =
    puts_both (λ n t b p. (mark_in watched n ≡ true) × (has children n ≡ true) × (t ≡ Parents) × (at block q ≡ Some b) × (p ≡ q))
    (λ n t b p. (mark_in watched n ≡ true) × (has parents n ≡ true) × (t ≡ Children) × (at block q ≡ Some b) × (p ≡ q))
    (λ n t b p. (mark_in watched n ≡ true) × IsTrue (is_neighbour t edge p n) × (has (q ∷ []) p ≡ true) × (at block p ≡ Some b))
    (λ e. (n : ℕ) → has children n ≡ true → IsTrue (is_neighbour Parents e q n)) (λ e. (n : ℕ) → has parents n ≡ true → IsTrue (is_neighbour Children e q n)) (λ e. e ≡ edge) old mid new f s
    wanted
    (λ e is. (λ n h. ap (λ x. x q n) is ∙ sym (below.members n) ∙ h, λ n h. ap (λ x. x n q) is ∙ sym (above.members n) ∙ h))
  where
    wanted : (n : ℕ) (t : Side) (b p : ℕ) → (mark_in watched n ≡ true) × IsTrue (is_neighbour t edge p n) × (has (q ∷ []) p ≡ true) × (at block p ≡ Some b)
        → ((mark_in watched n ≡ true) × (has children n ≡ true) × (t ≡ Parents) × (at block q ≡ Some b) × (p ≡ q))
        ⊎ ((mark_in watched n ≡ true) × (has parents n ≡ true) × (t ≡ Children) × (at block q ≡ Some b) × (p ≡ q))
    wanted n Parents b p w = (let e = only_one q p w.2 in inl (w.0, below.members n ∙ ap (λ x. edge x n) (sym e) ∙ w.1, refl, ap (at block) (sym e) ∙ w.3, e))
    wanted n Children b p w = (let e = only_one q p w.2 in inr (w.0, above.members n ∙ ap (λ x. edge n x) (sym e) ∙ w.1, refl, ap (at block) (sym e) ∙ w.3, e))

pub moved_other : (label : ℕ → Option ℕ) (edge : ℕ → ℕ → Bool) (block : List (Option ℕ)) (watched : List Bool) (q : ℕ) (old : Places)
    → ((u v : ℕ) → IsTrue (edge u v) → IsSome (label u) × IsSome (label v)) → is_some (label q) ≡ false → PutsMoved edge block watched (q ∷ []) old old
moved_other label edge block watched q old ends none =
    puts_none (λ n t b p. (mark_in watched n ≡ true) × IsTrue (is_neighbour t edge p n) × (has (q ∷ []) p ≡ true) × (at block p ≡ Some b)) (λ e. e ≡ edge) old
    (λ n t b p w. apart n t p (only_one q p w.2) w.1)
  where
    apart : (n : ℕ) (t : Side) (p : ℕ) → p ≡ q → IsTrue (is_neighbour t edge p n) → ⊥
    apart n Parents p e h = true≢false (sym (ends p n h).0 ∙ ap (λ x. is_some (label x)) e ∙ none)
    apart n Children p e h = true≢false (sym (ends n p h).1 ∙ ap (λ x. is_some (label x)) e ∙ none)

pub moved_none : (edge : ℕ → ℕ → Bool) (block : List (Option ℕ)) (watched : List Bool) (old : Places) → PutsMoved edge block watched [] old old
moved_none edge block watched old =
    puts_none (λ n t b p. (mark_in watched n ≡ true) × IsTrue (is_neighbour t edge p n) × (has [] p ≡ true) × (at block p ≡ Some b)) (λ e. e ≡ edge) old
    (λ n t b p w. true≢false (sym w.2))

pub moved_more : (edge : ℕ → ℕ → Bool) (block : List (Option ℕ)) (watched : List Bool) (moved : List ℕ) (i d : ℕ) (old mid new : Places) → i < length moved
    → PutsMoved edge block watched (take i moved) old mid → PutsMoved edge block watched (get_or moved i d ∷ []) mid new → PutsMoved edge block watched (take (i + 1) moved) old new
moved_more edge block watched moved i d old mid new within f s =
    let x = get_or moved i d in
    puts_both (λ n t b p. (mark_in watched n ≡ true) × IsTrue (is_neighbour t edge p n) × (has (take i moved) p ≡ true) × (at block p ≡ Some b))
    (λ n t b p. (mark_in watched n ≡ true) × IsTrue (is_neighbour t edge p n) × (has (x ∷ []) p ≡ true) × (at block p ≡ Some b))
    (λ n t b p. (mark_in watched n ≡ true) × IsTrue (is_neighbour t edge p n) × (has (take (i + 1) moved) p ≡ true) × (at block p ≡ Some b))
    (λ e. e ≡ edge) (λ e. e ≡ edge) (λ e. e ≡ edge) old mid new f s
    (λ n t b p w. elim (one_more moved i d p within w.2) [
      | inl before ↦ inl (w.0, w.1, before, w.3)
      | inr here ↦ inr (w.0, w.1, subst (λ y. has (x ∷ []) y ≡ true) (sym here) (has_head x []), w.3)
    ])
    (λ e is. (is, is))

-- ---- a walk along a list

pub record IsSkipping (nodes : Items ℕ) (block : List (Option ℕ)) (b k : ℕ) (head next : Option ℕ) : Type 0 where
  pub within : (i : ℕ) → next ≡ Some i → i < length nodes.hashes
  pub hash : (i : ℕ) → next ≡ Some i → hash_at nodes.hashes i ≡ k
  pub skipped : (i p : ℕ) → i < count_to head → hash_at nodes.hashes i ≡ k → slice_get nodes.items i ≡ Some p → at block p ≡ Some b → i < count_to next

pub skip_found : (nodes : Items ℕ) (block : List (Option ℕ)) (b k i p : ℕ) (head : Option ℕ) → IsSkipping nodes block b k head (Some i) → slice_get nodes.items i ≡ Some p → at block p ≡ Some b
    → SkipsTo nodes block b k head (Some i)
skip_found nodes block b k i p head w item e = record {
  within = w.within;
  hash = w.hash;
  stops = λ j f. (p, ap (slice_get nodes.items) (sym (some_inside i j f)) ∙ item, e);
  skipped = w.skipped;
}

pub skip_none : (nodes : Items ℕ) (block : List (Option ℕ)) (b k : ℕ) (head : Option ℕ) → IsSkipping nodes block b k head None → SkipsTo nodes block b k head None
skip_none nodes block b k head w = record { within = w.within; hash = w.hash; stops = λ j f. absurd (let e = f in cc); skipped = w.skipped }

pub skip_more : (nodes : Items ℕ) (block : List (Option ℕ)) (b k i p : ℕ) (head next : Option ℕ) → IsSkipping nodes block b k head (Some i) → slice_get nodes.items i ≡ Some p → at block p ≢ Some b
    → IsNewest nodes.hashes (hash_at nodes.hashes i) i next → IsSkipping nodes block b k head next
skip_more nodes block b k i p head next w item apart l = record {
  within = λ j e. (let x = subst (λ o. count_to o ≤ i) e l.below in let y = w.within i refl in omega (arith, x, y));
  hash = λ j e. subst (λ o. IfSome o (λ m. hash_at nodes.hashes m ≡ hash_at nodes.hashes i)) e l.has ∙ w.hash i refl;
  skipped = λ j q h same it e. elim (cases_lt j i) [
    | inl less ↦ l.covers j less (same ∙ sym (w.hash i refl))
    | inr past ↦
        (let ahead = w.skipped j q h same it e in
        let here : j ≡ i = omega (arith, ahead, past) in
        absurd (apart (ap (at block) (some_inside p q (sym item ∙ ap (slice_get nodes.items) (sym here) ∙ it)) ∙ e)))
  ];
}

-- ---- questions

module _ (old new : Places) (block : List (Option ℕ)) (b k : ℕ) (next : Option ℕ) (keys : new.keys ≡ old.keys) (nodes : new.nodes ≡ old.nodes)
    (s : SkipsTo old.nodes block b k (at old.heads.items k) next) (h : PutsHead k next old.heads.items new.heads.items) where
  pub asked_ordered : AreOrdered old → AreOrdered new
  asked_ordered o = record {
    placed = λ i l.
        (let n = ap (λ x. x.hashes) nodes in
        let e = ap length n in
        let f = ap (λ x. hash_at x i) n in
        let g = ap length keys in
        let x = o.placed i (omega (arith, l, e)) in
        omega (arith, x, f, g));
    within = λ j m e. (let n = ap (λ x. length x.hashes) nodes in let x = within j m e in omega (arith, x, n));
    hash = λ j m e. ap (λ x. hash_at x.hashes m) nodes ∙ hash j m e;
  }
    where
      within : (j m : ℕ) → at new.heads.items j ≡ Some m → m < length old.nodes.hashes
      within j m e = elim (eqb_tells j k) [
        | inl t ↦ s.within m (sym h.here ∙ ap (at new.heads.items) (sym t.1) ∙ e)
        | inr f ↦ o.within j m (sym (h.others j f.1) ∙ e)
      ]

      hash : (j m : ℕ) → at new.heads.items j ≡ Some m → hash_at old.nodes.hashes m ≡ j
      hash j m e = elim (eqb_tells j k) [
        | inl t ↦ s.hash m (sym h.here ∙ ap (at new.heads.items) (sym t.1) ∙ e) ∙ sym t.1
        | inr f ↦ o.hash j m (sym (h.others j f.1) ∙ e)
      ]

  ahead : (m : ℕ) (t : Side) (p : ℕ) (w : IsWaiting old m t b p) → w.place ≡ k → at block p ≡ Some b → w.item < count_to next
  ahead m t p w here e =
      let first : at old.heads.items k ≡ Some w.head = ap (at old.heads.items) (sym here) ∙ w.first in
      let behind = w.behind in
      let below : w.item < count_to (Some w.head) = omega (arith, behind) in
      s.skipped w.item p (subst (λ o. w.item < count_to o) (sym first) below) (w.hash ∙ here) w.node e

  reached : (o : Option ℕ) (i : ℕ) → i < count_to o → (j : ℕ) × (o ≡ Some j) × (i ≤ j)
  reached None i l = absurd (omega (arith, l))
  reached (Some j) i l = (j, refl, omega (arith, l))

  pub asked_at : (n : ℕ) (side : Side) → slice_get old.keys k ≡ Some (place_key n side b) → AreDistinct old.keys → IsAsked block n side b (is_some next) old new
  asked_at n side key distinct = record {
    found = λ yes.
        (let f = some_of next yes in
        let w = s.stops f.0 f.1 in (
          f.0,
          w.0,
          ap (λ x. slice_get x.items f.0) nodes ∙ w.1,
          ap (λ x. slice_get new.keys (hash_at x.hashes f.0)) nodes ∙ ap (λ x. slice_get x (hash_at old.nodes.hashes f.0)) keys ∙ ap (slice_get old.keys) (s.hash f.0 f.1) ∙ key,
          w.2,
        ));
    every = λ p w e. (let r = reached next w.item (ahead n side p w (distinct.apart w.place k (place_key n side b) w.key key) e) in is_some_at next r.0 r.1);
    kept = kept;
    only = λ edge a i p m t c e f. a i p m t c (sym (ap (λ x. slice_get x.items i) nodes) ∙ e)
        (sym (ap (λ x. slice_get new.keys (hash_at x.hashes i)) nodes ∙ ap (λ x. slice_get x (hash_at old.nodes.hashes i)) keys) ∙ f);
  }
    where
      kept : (m : ℕ) (t : Side) (c p : ℕ) → IsWaiting old m t c p → at block p ≡ Some c → IsWaiting new m t c p
      kept m t c p w e = elim (eqb_tells w.place k) [
        | inl here ↦
            (let same = same_place m n t side c b (some_inside (place_key m t c) (place_key n side b) (sym w.key ∙ ap (slice_get old.keys) here.1 ∙ key)) in
            let r = reached next w.item (ahead m t p (subst (λ x. IsWaiting old m t x p) same.2 w) here.1 (e ∙ ap Some same.2)) in
            record {
              place = w.place;
              head = r.0;
              item = w.item;
              key = ap (λ x. slice_get x w.place) keys ∙ w.key;
              first = ap (at new.heads.items) here.1 ∙ h.here ∙ r.1;
              behind = r.2;
              within = (let x = w.within in let y = ap (λ z. length z.hashes) nodes in omega (arith, x, y));
              hash = ap (λ x. hash_at x.hashes w.item) nodes ∙ w.hash;
              node = ap (λ x. slice_get x.items w.item) nodes ∙ w.node;
            })
        | inr other ↦ record {
          place = w.place;
          head = w.head;
          item = w.item;
          key = ap (λ x. slice_get x w.place) keys ∙ w.key;
          first = h.others w.place other.1 ∙ w.first;
          behind = w.behind;
          within = (let x = w.within in let y = ap (λ z. length z.hashes) nodes in omega (arith, x, y));
          hash = ap (λ x. hash_at x.hashes w.item) nodes ∙ w.hash;
          node = ap (λ x. slice_get x.items w.item) nodes ∙ w.node;
        }
      ]

-- no key, no neighbour
pub asked_none : (old : Places) (block : List (Option ℕ)) (n : ℕ) (side : Side) (b : ℕ) → IsAbsent old.keys (place_key n side b) → IsAsked block n side b false old old
asked_none old block n side b absent = record {
  found = λ yes. absurd (true≢false (sym yes));
  every = λ p w e. absurd (absent w.place w.key);
  kept = λ m t c p w e. w;
  only = λ edge a. a;
}

-- ---- all neighbours of watched nodes

pub asked_watched : (edge : ℕ → ℕ → Bool) (block : List (Option ℕ)) (w w2 : Watches) (n : ℕ) (side : Side) (b : ℕ) (reply : Bool) → IsWatched edge block w
    → IsAsked block n side b reply w.places w2.places → AreOrdered w2.places → w2.watched.items ≡ w.watched.items → IsWatched edge block w2
asked_watched edge block w w2 n side b reply i a o same = record {
  ordered = o;
  only = a.only edge i.only;
  every = λ m t c p on e f. a.kept m t c p (i.every m t c p (ap (λ l. mark_in l m) (sym same) ∙ on) e f) f;
}

pub answer_by_lists : (edge : ℕ → ℕ → Bool) (block : List (Option ℕ)) (w : Watches) (places : Places) (n : ℕ) (side : Side) (b : ℕ) (reply : Bool) → IsWatched edge block w
    → mark_in w.watched.items n ≡ true → IsAsked block n side b reply w.places places → IsTrue reply ↔ ((p : ℕ) × IsTrue (is_neighbour side edge p n) × (at block p ≡ Some b))
answer_by_lists edge block w places n side b reply i on a =
    (λ y. (let f = a.found y in (f.1, a.only edge i.only f.0 f.1 n side b f.2 f.3, f.4)), λ x. a.every x.0 (i.every n side b x.0 on x.1 x.2) x.2)

pub answer_by_scan : (edge : ℕ → ℕ → Bool) (block : List (Option ℕ)) (nodes : List ℕ) (n : ℕ) (side : Side) (b : ℕ) (reply : Bool) → Lists (λ p. is_neighbour side edge p n) nodes
    → IsTrue reply ↔ ((p : ℕ) × IsTrue (has nodes p) × (at block p ≡ Some b)) → IsTrue reply ↔ ((p : ℕ) × IsTrue (is_neighbour side edge p n) × (at block p ≡ Some b))
answer_by_scan edge block nodes n side b reply l e =
    (λ y. (let f = e.0 y in (f.0, sym (l.members f.0) ∙ f.1, f.2)), λ x. e.1 (x.0, l.members x.0 ∙ x.1, x.2))

pub watched_more : (edge : ℕ → ℕ → Bool) (block : List (Option ℕ)) (w w2 : Watches) (mid : Places) (n : ℕ) (parents children : List ℕ) → IsWatched edge block w
    → Lists (λ p. is_neighbour Parents edge p n) parents → Lists (λ p. is_neighbour Children edge p n) children → PutsNodes n Parents block parents w.places mid
    → PutsNodes n Children block children mid w2.places → ((m : ℕ) → m ≢ n → mark_in w2.watched.items m ≡ mark_in w.watched.items m) → IsWatched edge block w2
watched_more edge block w w2 mid n parents children i above below f s marks = record {
  ordered = s.ordered (f.ordered i.ordered);
  only = s.only edge (λ p h. sym (below.members p) ∙ h) (f.ordered i.ordered) (f.only edge (λ p h. sym (above.members p) ∙ h) i.ordered i.only);
  every = λ m t b p on e inside. elim (eqb_tells m n) [
    | inl here ↦ subst (λ x. IsWaiting w2.places x t b p) (sym here.1) (own t b p (subst (λ x. IsTrue (is_neighbour t edge p x)) here.1 e) inside)
    | inr other ↦ s.kept m t b p (f.kept m t b p (i.every m t b p (sym (marks m other.1) ∙ on) e inside))
  ];
}
  where
    own : (t : Side) (b p : ℕ) → IsTrue (is_neighbour t edge p n) → at block p ≡ Some b → IsWaiting w2.places n t b p
    own Parents b p e inside = s.kept n Parents b p (f.put n Parents b p (refl, refl, above.members p ∙ e, inside))
    own Children b p e inside = s.put n Children b p (refl, refl, below.members p ∙ e, inside)

pub followed : (edge : ℕ → ℕ → Bool) (old block : List (Option ℕ)) (moved : List ℕ) (w w2 : Watches) → IsWatched edge old w → DiffersOnlyAt old block moved
    → PutsMoved edge block w.watched.items moved w.places w2.places → w2.watched.items ≡ w.watched.items → IsWatched edge block w2
followed edge old block moved w w2 i differs f same = record {
  ordered = f.ordered i.ordered;
  only = f.only edge refl i.ordered i.only;
  every = λ n t b p on e inside.
      (let was = ap (λ l. mark_in l n) (sym same) ∙ on in
      elim (cases_Bool (has moved p)) [
        | inl went ↦ f.put n t b p (was, e, went, inside)
        | inr stays ↦ f.kept n t b p (i.every n t b p was e (sym (differs p stays) ∙ inside))
      ]);
}

unmarked : (marks : List Bool) → length marks ≡ 0 → (n : ℕ) → mark_in marks n ≡ false
unmarked [] e n = refl
unmarked (x ∷ xs) e n = absurd (omega (arith, e))

pub followed_none : (edge : ℕ → ℕ → Bool) (old block : List (Option ℕ)) (w : Watches) → IsWatched edge old w → length w.watched.items ≡ 0 → IsWatched edge block w
followed_none edge old block w i none = record {
  ordered = i.ordered;
  only = i.only;
  every = λ n t b p on e inside. absurd (true≢false (sym on ∙ unmarked w.watched.items none n));
}

-- ---- a scan

-- none of the nodes is in the block
abbrev pub NoneIn : List (Option ℕ) → ℕ → List ℕ → Type 0
NoneIn block b nodes = (p : ℕ) → has nodes p ≡ true → at block p ≢ Some b

pub none_in_more : (block : List (Option ℕ)) (b : ℕ) (nodes : List ℕ) (i d : ℕ) → i < length nodes → NoneIn block b (take i nodes) → at block (get_or nodes i d) ≢ Some b → NoneIn block b (take (i + 1) nodes)
none_in_more block b nodes i d within none apart = λ p h. elim (one_more nodes i d p within h) [ inl before ↦ none p before | inr here ↦ λ e. apart (ap (at block) (sym here) ∙ e) ]

pub none_in : (block : List (Option ℕ)) (b : ℕ) (nodes : List ℕ) (i : ℕ) → length nodes ≤ i → NoneIn block b (take i nodes) → IsTrue false ↔ ((p : ℕ) × IsTrue (has nodes p) × (at block p ≡ Some b))
none_in block b nodes i past none = (λ y. absurd (true≢false (sym y)), λ x. absurd (none x.0 (ap (λ l. has l x.0) (take_all i nodes past) ∙ x.1) x.2))

pub one_in : (block : List (Option ℕ)) (b : ℕ) (nodes : List ℕ) (i d : ℕ) → i < length nodes → at block (get_or nodes i d) ≡ Some b
    → IsTrue true ↔ ((p : ℕ) × IsTrue (has nodes p) × (at block p ≡ Some b))
one_in block b nodes i d within e = (λ y. (get_or nodes i d, has_at nodes i d within, e), λ x. refl)
