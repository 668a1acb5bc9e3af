-- Numbers of active nodes by what a round changed about their neighbours.
use Rattle.std.proofs.Common.{◌≡◌, ◌≢◌, ℕ, zero, suc, ◌+◌, ◌<◌, ◌≤◌, ◌⊎◌, List, [], ◌∷◌, ◌++◌, length, Option, Some, None, IfSome, IsTrue, refl, sym, ◌∙◌, ap, subst, arith, inl, inr, true, Bool, true≢false, slice_get, get_or, take, filter_map}
use Rattle.std.specs.Prelude.{◌||◌, ◌&&◌, nat_eq}
use Rattle.std.specs.List.{insert}
use Rattle.std.specs.List.Sorted.{IsStrictlyIncreasing}
use Rattle.std.proofs.lemmas.Bool.{cases_lt, and_parts, and_from, or_cases, or_left, or_right}
use Rattle.std.proofs.lemmas.Bool.Decides.{Decides-eqb}
use Rattle.std.proofs.lemmas.List.{get_or_push, get_or_append_left, length-append}
use Rattle.hash_index.specs.Items.{Items, no_items, with_item, hash_at, count_to, IsNewest}
use Rattle.key_table.specs.NumberedKeys.{AreDistinct, Interns}
use Rattle.graph_spec.specs.Members.{at, has}
use Rattle.graph_spec.proofs.MemberLaws.{has_push, has_more}
use Rattle.bisim_spec.specs.NodeKeys.{AreImages, IsSetOf}
use Rattle.bisim_spec.proofs.RisingLists.{images_set, rising_unique}
use Rattle.bisim_spec.specs.declared.sides.Side.TheVariants.{Parents, Children}
use Rattle.round_refinement.specs.NeighbourSides.{is_neighbour}
use Rattle.round_refinement.specs.Active.{number_in, AreAlike, AreGrouped, AreMoves, StayTogether}
use Rattle.round_refinement.specs.Changes.{AreBlocksOf, AreChanges, AreNear, AreOn, AreParted, AreSame, IsGained, IsLeft, IsLost, IsNear, IsNumber, LosesSome, PushesIfNear, PutsNear, TakesNumber, spread_of}
use Rattle.round_refinement.specs.Listing.{IsOn}
use Rattle.round_refinement.proofs.ListingLaws.{on_more, on_new, item_last}
use Rattle.round_refinement.proofs.NumberedNodes.{interned_at, interned_stays}

-- items on lists

item_before : {X : Type 0} (xs : List X) (n : X) (k : ℕ) (m : X) → k < length xs → slice_get (xs ++ n ∷ []) k ≡ Some m → slice_get xs k ≡ Some m
item_before [] n k m h e = absurd (omega (arith, h))
item_before (x ∷ xs) n zero m h e = e
item_before (x ∷ xs) n (suc k) m h e = item_before xs n k m (let l : suc k < suc (length xs) = h in omega (arith, l)) e

-- what is on a list was before, or is the new item
on_only : {X : Type 0} (old : Items X) (c : ℕ) (n : X) (b : ℕ) (m : X) → length old.hashes ≡ length old.items → IsOn (with_item old c n) b m → IsOn old b m ⊎ ((b ≡ c) × (m ≡ n))
on_only old c n b m even w = elim (cases_lt w.place (length old.hashes)) [
  | inl before ↦ inl (record {
    place = w.place;
    within = before;
    hash = sym (get_or_append_left old.hashes (c ∷ []) 0 w.place before) ∙ w.hash;
    item = item_before old.items n w.place m (omega (arith, before, even)) w.item;
  })
  | inr past ↦
      (let within = w.within in
      let long = length-append old.hashes (c ∷ []) in
      let here : w.place ≡ length old.hashes = omega (arith, within, past, long) in
      let hash : c ≡ b = sym (get_or_push old.hashes c 0 (length old.hashes) refl) ∙ ap (hash_at (old.hashes ++ c ∷ [])) (sym here) ∙ w.hash in
      let item : Some n ≡ Some m = sym (item_last old.items n) ∙ ap (slice_get (old.items ++ n ∷ [])) (sym even ∙ sym here) ∙ w.item in
      inr (sym hash, (let same : n ≡ m = cc in sym same)))
]

pub puts_start : (q : ℕ) (near : Items (ℕ × ℕ)) → PutsNear (has []) q near near
puts_start q near = record { kept = λ n p w. w; put = λ n h. absurd (true≢false (sym h)); only = λ n p w. inl w }

pub puts_more : (nodes : List ℕ) (i d q : ℕ) (old mid new : Items (ℕ × ℕ)) → i < length nodes → length mid.hashes ≡ length mid.items
    → PutsNear (has (take i nodes)) q old mid → new ≡ with_item mid (spread_of (get_or nodes i d)) (get_or nodes i d, q)
    → PutsNear (has (take (i + 1) nodes)) q old new
puts_more nodes i d q old mid new within even w is =
    let m = get_or nodes i d in
    record {
      kept = λ n p on. subst (λ l. IsNear l n p) (sym is) (on_more mid (spread_of n) (n, p) (spread_of m) (m, q) (w.kept n p on));
      put = λ n h. elim (or_cases (has (take i nodes) n) (nat_eq n m) (sym (has_more nodes i d n within) ∙ h)) [
        | inl before ↦ subst (λ l. IsNear l n q) (sym is) (on_more mid (spread_of n) (n, q) (spread_of m) (m, q) (w.put n before))
        | inr same ↦
            (let here : m ≡ n = sym ((Decides-eqb n m).0 same) in
            subst (λ l. IsNear l n q) (sym is) (subst (λ k. IsNear (with_item mid (spread_of m) (m, q)) k q) here (on_new mid (spread_of m) (m, q) even)))
      ];
      only = λ n p on. elim (on_only mid (spread_of m) (m, q) (spread_of n) (n, p) even (subst (λ l. IsNear l n p) is on)) [
        | inl before ↦ elim (w.only n p before) [
          | inl first ↦ inl first
          | inr (of, e) ↦ inr (has_more nodes i d n within ∙ or_left (has (take i nodes) n) (nat_eq n m) of, e)
        ]
        | inr (same, e) ↦ inr (has_more nodes i d n within ∙ or_right (has (take i nodes) n) (nat_eq n m) ((Decides-eqb n m).1 (ap (λ r. r.0) e)), ap (λ r. r.1) e)
      ];
    }

pub puts_of : (of of2 : ℕ → Bool) (q : ℕ) (old new : Items (ℕ × ℕ)) → ((n : ℕ) → of n ≡ of2 n) → PutsNear of q old new → PutsNear of2 q old new
puts_of of of2 q old new same w = record {
  kept = w.kept;
  put = λ n h. w.put n (same n ∙ h);
  only = λ n p on. elim (w.only n p on) [ inl before ↦ inl before | inr (h, e) ↦ inr (sym (same n) ∙ h, e) ];
}

pub puts_none : (of : ℕ → Bool) (q : ℕ) (near : Items (ℕ × ℕ)) → ((n : ℕ) → of n ≡ true → ⊥) → PutsNear of q near near
puts_none of q near none = record { kept = λ n p w. w; put = λ n h. absurd (none n h); only = λ n p w. inl w }

-- the moved ones of the neighbours
pub record ListsNear (neighbour_of : ℕ → ℕ → Bool) (moved : List ℕ) (near : Items (ℕ × ℕ)) : Type 0 where
  pub each : (n p : ℕ) → IsNear near n p → (has moved p ≡ true) × IsTrue (neighbour_of p n)
  pub every : (n p : ℕ) → has moved p ≡ true → IsTrue (neighbour_of p n) → IsNear near n p

pub near_start : (neighbour_of : ℕ → ℕ → Bool) (near : Items (ℕ × ℕ)) → near ≡ no_items → ListsNear neighbour_of [] near
near_start neighbour_of near none = record {
  each = λ n p w. let v = subst (λ l. IsNear l n p) none w in let h = v.within in absurd (omega (arith, h));
  every = λ n p h e. absurd (true≢false (sym h));
}

pub near_more : (neighbour_of : ℕ → ℕ → Bool) (moved : List ℕ) (i d : ℕ) (mid new : Items (ℕ × ℕ)) → i < length moved → ListsNear neighbour_of (take i moved) mid
    → PutsNear (neighbour_of (get_or moved i d)) (get_or moved i d) mid new → ListsNear neighbour_of (take (i + 1) moved) new
near_more neighbour_of moved i d mid new within w l = record {
  each = λ n p on. elim (l.only n p on) [
    | inl before ↦ (let r = w.each n p before in (has_more moved i d p within ∙ or_left (has (take i moved) p) (nat_eq p (get_or moved i d)) r.0, r.1))
    | inr (h, e) ↦ (
      has_more moved i d p within ∙ or_right (has (take i moved) p) (nat_eq p (get_or moved i d)) ((Decides-eqb p (get_or moved i d)).1 e),
      subst (λ k. IsTrue (neighbour_of k n)) (sym e) h,
    )
  ];
  every = λ n p h e. elim (or_cases (has (take i moved) p) (nat_eq p (get_or moved i d)) (sym (has_more moved i d p within) ∙ h)) [
    | inl before ↦ l.kept n p (w.every n p before e)
    | inr same ↦
        (let here : p ≡ get_or moved i d = (Decides-eqb p (get_or moved i d)).0 same in
        subst (λ k. IsNear new n k) (sym here) (l.put n (subst (λ k. IsTrue (neighbour_of k n)) here e)))
  ];
}

pub near_all : (neighbour_of : ℕ → ℕ → Bool) (before now : List (Option ℕ)) (moved : List ℕ) (near : Items (ℕ × ℕ)) → ListsNear neighbour_of moved near → AreMoves before now moved
    → AreNear neighbour_of before now near
near_all neighbour_of before now moved near w m = record {
  each = λ n p on. let r = w.each n p on in (r.1, m.why p r.0);
  every = λ n p e apart. w.every n p (m.every p apart) e;
}

-- on the way along the list of n: what was met is in
pub record Reads (near : Items (ℕ × ℕ)) (n : ℕ) (nodes : List ℕ) (next : Option ℕ) : Type 0 where
  pub each : (p : ℕ) → has nodes p ≡ true → IsNear near n p
  pub seen : (p : ℕ) (w : IsNear near n p) → (w.place < count_to next) ⊎ (has nodes p ≡ true)
  pub below : count_to next ≤ length near.hashes
  pub hash : IfSome next (λ i. hash_at near.hashes i ≡ spread_of n)

pub reads_start : (near : Items (ℕ × ℕ)) (n : ℕ) (next : Option ℕ) → IsNewest near.hashes (spread_of n) (length near.hashes) next → Reads near n [] next
reads_start near n next w = record {
  each = λ p h. absurd (true≢false (sym h));
  seen = λ p on. inl (w.covers on.place on.within on.hash);
  below = w.below;
  hash = w.has;
}

pub reads_more : (near : Items (ℕ × ℕ)) (n i : ℕ) (item : ℕ × ℕ) (nodes more : List ℕ) (next : Option ℕ) → Reads near n nodes (Some i) → slice_get near.items i ≡ Some item
    → PushesIfNear n item nodes more → IsNewest near.hashes (hash_at near.hashes i) i next → Reads near n more next
reads_more near n i item nodes more next w there is l = record {
  each = λ p h. elim (or_cases (has nodes p) (nat_eq item.0 n && nat_eq p item.1) (sym (is p) ∙ h)) [
    | inl before ↦ w.each p before
    | inr same ↦
        (let both = and_parts (nat_eq item.0 n) (nat_eq p item.1) same in
        let first : item.0 ≡ n = (Decides-eqb item.0 n).0 both.0 in
        let second : item.1 ≡ p = sym ((Decides-eqb p item.1).0 both.1) in
        let here : item ≡ (n, p) = (λ k. (first k, second k)) in
        let within = w.below in
        record { place = i; within = omega (arith, within); hash = w.hash; item = there ∙ ap (λ r. Some r) here })
  ];
  seen = λ p on. elim (w.seen p on) [
    | inr met ↦ inr (is p ∙ or_left (has nodes p) (nat_eq item.0 n && nat_eq p item.1) met)
    | inl ahead ↦ elim (cases_lt on.place i) [
      | inl less ↦ inl (l.covers on.place less (on.hash ∙ sym w.hash))
      | inr past ↦
          (let here : on.place ≡ i = omega (arith, ahead, past) in
          let other : slice_get near.items i ≡ Some (n, p) = ap (slice_get near.items) (sym here) ∙ on.item in
          let same : item ≡ (n, p) = (let x = there in let y = other in cc) in
          let both = and_from (nat_eq item.0 n) (nat_eq p item.1) ((Decides-eqb item.0 n).1 (ap (λ r. r.0) same)) ((Decides-eqb p item.1).1 (ap (λ r. r.1) (sym same))) in
          inr (is p ∙ or_right (has nodes p) (nat_eq item.0 n && nat_eq p item.1) both))
    ]
  ];
  below = (let x = l.below in let y = w.below in omega (arith, x, y));
  hash = hash_of next l.has;
}
  where
    hash_of : (o : Option ℕ) → IfSome o (λ j. hash_at near.hashes j ≡ hash_at near.hashes i) → IfSome o (λ j. hash_at near.hashes j ≡ spread_of n)
    hash_of None h = tt
    hash_of (Some j) h = h ∙ w.hash

pub reads_all : (near : Items (ℕ × ℕ)) (n : ℕ) (nodes : List ℕ) → Reads near n nodes None → AreOn near n nodes
reads_all near n nodes w = record {
  each = w.each;
  every = λ p on. elim (w.seen p on) [ inl none ↦ absurd (omega (arith, none)) | inr met ↦ met ];
}

-- numbers that are written into an empty list
pub images_of : (f : ℕ → Option ℕ) (nodes empty numbers set : List ℕ) → empty ≡ [] → numbers ≡ empty ++ filter_map f nodes → IsSetOf numbers set → AreImages f nodes set
images_of f nodes empty numbers set none e s = images_set f nodes set (subst (λ xs. IsSetOf xs set) (e ∙ ap (λ xs. xs ++ filter_map f nodes) none) s)

-- blocks that all neighbours left

pub loses_start : (neighbour_of : ℕ → ℕ → Bool) (now : List (Option ℕ)) (n : ℕ) (old : List ℕ) → LosesSome neighbour_of now n [] old old
loses_start neighbour_of now n old = record { kept = λ b h. h; put = λ b h l. absurd (true≢false (sym h)); only = λ b h. inl h }

pub loses_skip : (neighbour_of : ℕ → ℕ → Bool) (now : List (Option ℕ)) (n : ℕ) (left old mid : List ℕ) (i d p : ℕ) → i < length left → LosesSome neighbour_of now n (take i left) old mid
    → IsTrue (neighbour_of p n) → at now p ≡ Some (get_or left i d) → LosesSome neighbour_of now n (take (i + 1) left) old mid
loses_skip neighbour_of now n left old mid i d p within w one there = record {
  kept = w.kept;
  put = λ b h l. elim (or_cases (has (take i left) b) (nat_eq b (get_or left i d)) (sym (has_more left i d b within) ∙ h)) [
    | inl before ↦ w.put b before l
    | inr same ↦ absurd (l p one (there ∙ ap Some (sym ((Decides-eqb b (get_or left i d)).0 same))))
  ];
  only = λ b h. elim (w.only b h) [
    | inl before ↦ inl before
    | inr (on, l) ↦ inr (has_more left i d b within ∙ or_left (has (take i left) b) (nat_eq b (get_or left i d)) on, l)
  ];
}

pub loses_push : (neighbour_of : ℕ → ℕ → Bool) (now : List (Option ℕ)) (n : ℕ) (left old mid new : List ℕ) (i d : ℕ) → i < length left → LosesSome neighbour_of now n (take i left) old mid
    → IsLeft neighbour_of now n (get_or left i d) → new ≡ mid ++ get_or left i d ∷ [] → LosesSome neighbour_of now n (take (i + 1) left) old new
loses_push neighbour_of now n left old mid new i d within w gone is = record {
  kept = λ b h. added b (or_left (has mid b) (nat_eq b (get_or left i d)) (w.kept b h));
  put = λ b h l. elim (or_cases (has (take i left) b) (nat_eq b (get_or left i d)) (sym (has_more left i d b within) ∙ h)) [
    | inl before ↦ added b (or_left (has mid b) (nat_eq b (get_or left i d)) (w.put b before l))
    | inr same ↦ added b (or_right (has mid b) (nat_eq b (get_or left i d)) same)
  ];
  only = λ b h. elim (or_cases (has mid b) (nat_eq b (get_or left i d)) (sym (has_push mid (get_or left i d) b) ∙ ap (λ xs. has xs b) (sym is) ∙ h)) [
    | inl before ↦ elim (w.only b before) [
      | inl first ↦ inl first
      | inr (on, l) ↦ inr (has_more left i d b within ∙ or_left (has (take i left) b) (nat_eq b (get_or left i d)) on, l)
    ]
    | inr same ↦
        inr (
          has_more left i d b within ∙ or_right (has (take i left) b) (nat_eq b (get_or left i d)) same,
          subst (IsLeft neighbour_of now n) (sym ((Decides-eqb b (get_or left i d)).0 same)) gone,
        )
  ];
}
  where
    added : (b : ℕ) → (has mid b || nat_eq b (get_or left i d)) ≡ true → has new b ≡ true
    added b h = ap (λ xs. has xs b) is ∙ has_push mid (get_or left i d) b ∙ h

-- the changes about a node
pub changes_of : (neighbour_of : ℕ → ℕ → Bool) (before now : List (Option ℕ)) (n : ℕ) (near : Items (ℕ × ℕ)) (around gains left key set : List ℕ) → AreNear neighbour_of before now near
    → AreOn near n around → AreImages (at now) around gains → AreImages (at before) around left → LosesSome neighbour_of now n left gains key → IsStrictlyIncreasing set
    → ((b : ℕ) → has set b ≡ has key b) → AreChanges neighbour_of before now n set
changes_of neighbour_of before now n near around gains left key set w on gain lose lost rising same = record {
  rising = rising;
  each = λ b h. elim (lost.only b (sym (same b) ∙ h)) [
    | inl gained ↦
        (let p = gain.each b gained in
        let r = w.each n p.0 (on.each p.0 p.1) in
        inl (record { neighbour = p.0; is_one = r.0; moves = r.1; is_there = p.2 }))
    | inr (of, l) ↦
        (let p = lose.each b of in
        let r = w.each n p.0 (on.each p.0 p.1) in
        inr (record { neighbour = p.0; is_one = r.0; was_there = p.2; left = l }))
  ];
  gained = λ b g. same b ∙ lost.kept b (gain.every g.neighbour b (on.every g.neighbour (w.every n g.neighbour g.is_one g.moves)) g.is_there);
  lost = λ b l.
      let moves : at now l.neighbour ≢ at before l.neighbour = λ e. l.left l.neighbour l.is_one (e ∙ l.was_there) in
      same b ∙ lost.put b (lose.every l.neighbour b (on.every l.neighbour (w.every n l.neighbour l.is_one moves)) l.was_there) l.left;
}

pub changes_handed : (neighbour_of : ℕ → ℕ → Bool) (before before2 now now2 now3 : List (Option ℕ)) (n : ℕ) (near : Items (ℕ × ℕ)) (around around2 around3 gains left left2 key set : List ℕ)
    → AreNear neighbour_of before now near → AreOn near n around → around2 ≡ around → now2 ≡ now → AreImages (at now2) around2 gains → around3 ≡ around → before2 ≡ before
    → AreImages (at before2) around3 left → now3 ≡ now → left2 ≡ left → LosesSome neighbour_of now3 n left2 gains key → IsStrictlyIncreasing set
    → ((b : ℕ) → has set b ≡ has key b) → AreChanges neighbour_of before now n set
changes_handed neighbour_of before before2 now now2 now3 n near around around2 around3 gains left left2 key set w on ea en gain ea3 eb lose en3 el lost rising same =
    changes_of neighbour_of before now n near around gains left key set w on
    (subst (λ l. AreImages (at l) around gains) en (subst (λ a. AreImages (at now2) a gains) ea gain))
    (subst (λ l. AreImages (at l) around left) eb (subst (λ a. AreImages (at before2) a left) ea3 lose))
    (subst (λ l. LosesSome neighbour_of l n left gains key) en3 (subst (λ a. LosesSome neighbour_of now3 n a gains key) el lost))
    rising same

-- nodes that are the same have the same changes
there_too : (neighbour_of : ℕ → ℕ → Bool) (before now : List (Option ℕ)) (u v b : ℕ)
    → ((p : ℕ) → IsTrue (neighbour_of p u) → (q : ℕ) × IsTrue (neighbour_of q v) × StayTogether before now p q)
    → ((p : ℕ) → IsTrue (neighbour_of p v) → (q : ℕ) × IsTrue (neighbour_of q u) × StayTogether before now p q)
    → IsGained neighbour_of before now u b ⊎ IsLost neighbour_of before now u b → IsGained neighbour_of before now v b ⊎ IsLost neighbour_of before now v b
there_too neighbour_of before now u v b there back (inl g) =
    let q = there g.neighbour g.is_one in
    let was = q.2.0 in
    let is = q.2.1 in
    inl (record {
      neighbour = q.0;
      is_one = q.1;
      moves = λ e. g.moves (let a = was.1 in let c = was.2 in let d = is.1 in let f = is.2 in cc);
      is_there = (let d = is.1 in let f = is.2 in let h = g.is_there in cc);
    })
there_too neighbour_of before now u v b there back (inr l) =
    let q = there l.neighbour l.is_one in
    let was = q.2.0 in
    inr (record {
      neighbour = q.0;
      is_one = q.1;
      was_there = (let a = was.1 in let c = was.2 in let h = l.was_there in cc);
      left = λ p one e.
          let r = back p one in
          let is = r.2.1 in
          l.left r.0 r.1 (let d = is.1 in let f = is.2 in cc);
    })

changed : (neighbour_of : ℕ → ℕ → Bool) (before now : List (Option ℕ)) (n : ℕ) (changes : List ℕ) → AreChanges neighbour_of before now n changes → (b : ℕ)
    → IsGained neighbour_of before now n b ⊎ IsLost neighbour_of before now n b → has changes b ≡ true
changed neighbour_of before now n changes w b (inl g) = w.gained b g
changed neighbour_of before now n changes w b (inr l) = w.lost b l

same_changes : (neighbour_of : ℕ → ℕ → Bool) (before now : List (Option ℕ)) (u v : ℕ) (xs ys : List ℕ) → AreSame neighbour_of before now u v → AreChanges neighbour_of before now u xs
    → AreChanges neighbour_of before now v ys → xs ≡ ys
same_changes neighbour_of before now u v xs ys same a b =
    rising_unique xs ys a.rising b.rising
    (λ c h. changed neighbour_of before now v ys b c (there_too neighbour_of before now u v c same.neighbours.there same.neighbours.back (a.each c h)))
    (λ c h. changed neighbour_of before now u xs a c (there_too neighbour_of before now v u c same.neighbours.back same.neighbours.there (b.each c h)))

-- and one number
same_number : (neighbour_of : ℕ → ℕ → Bool) (before now : List (Option ℕ)) (table : List (List ℕ)) (u v a b k l : ℕ) → AreDistinct table → AreSame neighbour_of before now u v → a ≡ b
    → IsNumber neighbour_of before now table u a k → IsNumber neighbour_of before now table v b l → k ≡ l
same_number neighbour_of before now table u v a b k l d same own x y =
    let keys : a ∷ x.changes ≡ b ∷ y.changes = ap (λ c. c ∷ x.changes) own ∙ ap (λ xs. b ∷ xs) (same_changes neighbour_of before now u v x.changes y.changes same x.are_changes y.are_changes) in
    d.apart k l (b ∷ y.changes) (x.key_at ∙ ap Some keys) y.key_at

-- a number without a block takes no key
pub takes_none : (neighbour_of : ℕ → ℕ → Bool) (before now : List (Option ℕ)) (table : List (List ℕ)) (n own k : ℕ) → at now n ≡ None → TakesNumber neighbour_of before now table table n own k
takes_none neighbour_of before now table n own k none = record {
  stay = λ j key e. e;
  number = λ b e. absurd (let z = none in cc);
}

pub takes_some : (neighbour_of : ℕ → ℕ → Bool) (before now : List (Option ℕ)) (old old2 new : List (List ℕ)) (n own k : ℕ) (changes key : List ℕ)
    → AreChanges neighbour_of before now n changes → old2 ≡ old → key ≡ insert changes 0 own → Interns old2 new key k → TakesNumber neighbour_of before now old new n own k
takes_some neighbour_of before now old old2 new n own k changes key w same whole i = record {
  stay = λ j x e. interned_stays old2 new key k i j x (ap (λ t. slice_get t j) same ∙ e);
  number = λ b e. record { changes = changes; key_at = interned_at old2 new key k i ∙ ap Some whole; are_changes = w };
}

-- the first i active nodes have numbers
pub record NumberedBelow (neighbour_of : ℕ → ℕ → Bool) (before now : List (Option ℕ)) (active own : List ℕ) (i : ℕ) (table : List (List ℕ)) (numbers : List ℕ) : Type 0 where
  pub length_is : length numbers ≡ i
  pub each : (j b : ℕ) → j < i → at now (number_in active j) ≡ Some b → IsNumber neighbour_of before now table (number_in active j) (number_in own j) (number_in numbers j)

pub numbered_start : (neighbour_of : ℕ → ℕ → Bool) (before now : List (Option ℕ)) (active own : List ℕ) (table : List (List ℕ)) → NumberedBelow neighbour_of before now active own 0 table []
numbered_start neighbour_of before now active own table = record { length_is = refl; each = λ j b h e. absurd (omega (arith, h)) }

pub numbered_more : (neighbour_of : ℕ → ℕ → Bool) (before now : List (Option ℕ)) (active own : List ℕ) (i : ℕ) (old new : List (List ℕ)) (numbers : List ℕ) (k : ℕ)
    → NumberedBelow neighbour_of before now active own i old numbers → TakesNumber neighbour_of before now old new (number_in active i) (number_in own i) k
    → NumberedBelow neighbour_of before now active own (i + 1) new (numbers ++ k ∷ [])
numbered_more neighbour_of before now active own i old new numbers k w t =
    let long = w.length_is in
    record {
      length_is = length-append numbers (k ∷ []) ∙ ap (λ m. m + 1) long;
      each = λ j b h e. elim (cases_lt j i) [
        | inl before_i ↦
            (let had = w.each j b before_i e in
            let same : number_in (numbers ++ k ∷ []) j ≡ number_in numbers j = get_or_append_left numbers (k ∷ []) 0 j (omega (arith, long, before_i)) in
            subst (IsNumber neighbour_of before now new (number_in active j) (number_in own j)) (sym same)
            (record { changes = had.changes; key_at = t.stay (number_in numbers j) (number_in own j ∷ had.changes) had.key_at; are_changes = had.are_changes }))
        | inr past ↦
            (let here : j ≡ i = omega (arith, h, past) in
            let last : number_in (numbers ++ k ∷ []) i ≡ k = get_or_push numbers k 0 i long in
            let f : at now (number_in active i) ≡ Some b = ap (λ m. at now (number_in active m)) (sym here) ∙ e in
            subst (λ m. IsNumber neighbour_of before now new (number_in active m) (number_in own m) (number_in (numbers ++ k ∷ []) m)) (sym here)
            (subst (IsNumber neighbour_of before now new (number_in active i) (number_in own i)) (sym last) (t.number b f)))
      ];
    }

pub numbered_all : (neighbour_of : ℕ → ℕ → Bool) (before now : List (Option ℕ)) (active own : List ℕ) (i : ℕ) (table : List (List ℕ)) (numbers : List ℕ) → i ≡ length active
    → AreDistinct table → NumberedBelow neighbour_of before now active own i table numbers → AreParted neighbour_of before now active own numbers
numbered_all neighbour_of before now active own i table numbers all d w = record {
  length_is = w.length_is ∙ all;
  same = λ j k hj hk a e.
      let one = a.own in
      same_number neighbour_of before now table (number_in active j) (number_in active k) (number_in own j) (number_in own k) (number_in numbers j) (number_in numbers k) d a e
      (w.each j one.0 (omega (arith, hj, all)) one.1) (w.each k one.0 (omega (arith, hk, all)) one.2);
}

-- the numbers of blocks

pub record BlocksBelow (block : List (Option ℕ)) (nodes : List ℕ) (i : ℕ) (numbers : List ℕ) : Type 0 where
  pub length_is : length numbers ≡ i
  pub each : (j b : ℕ) → j < i → at block (number_in nodes j) ≡ Some b → number_in numbers j ≡ b

pub blocks_start : (block : List (Option ℕ)) (nodes : List ℕ) → BlocksBelow block nodes 0 []
blocks_start block nodes = record { length_is = refl; each = λ j b h e. absurd (omega (arith, h)) }

pub blocks_next : (block : List (Option ℕ)) (nodes : List ℕ) (i k : ℕ) (numbers more : List ℕ) → BlocksBelow block nodes i numbers
    → ((b : ℕ) → at block (number_in nodes i) ≡ Some b → k ≡ b) → more ≡ numbers ++ k ∷ [] → BlocksBelow block nodes (i + 1) more
blocks_next block nodes i k numbers more w this is =
    let long = w.length_is in
    record {
      length_is = ap length is ∙ length-append numbers (k ∷ []) ∙ ap (λ m. m + 1) long;
      each = λ j b h e. elim (cases_lt j i) [
        | inl before ↦ ap (λ xs. number_in xs j) is ∙ get_or_append_left numbers (k ∷ []) 0 j (omega (arith, long, before)) ∙ w.each j b before e
        | inr past ↦
            (let here : j ≡ i = omega (arith, h, past) in
            ap (λ xs. number_in xs j) is ∙ ap (number_in (numbers ++ k ∷ [])) here ∙ get_or_push numbers k 0 i long
            ∙ this b (ap (λ m. at block (number_in nodes m)) (sym here) ∙ e))
      ];
    }

pub blocks_all : (block : List (Option ℕ)) (nodes : List ℕ) (i : ℕ) (numbers : List ℕ) → i ≡ length nodes → BlocksBelow block nodes i numbers → AreBlocksOf block nodes numbers
blocks_all block nodes i numbers all w = record {
  length_is = w.length_is ∙ all;
  each = λ j b h e. w.each j b (omega (arith, h, all)) e;
}

-- both sides together
pub both_sides : (edge : ℕ → ℕ → Bool) (before now : List (Option ℕ)) (active own own2 mid mid2 groups : List ℕ) → AreBlocksOf now active own → own2 ≡ own
    → AreParted (is_neighbour Parents edge) before now active own2 mid → mid2 ≡ mid → AreParted (is_neighbour Children edge) before now active mid2 groups
    → AreGrouped (AreAlike edge before now) active groups
both_sides edge before now active own own2 mid mid2 groups blocks eo up em down = record {
  length_is = down.length_is;
  alike = λ i j hi hj a.
      let t = a.own in
      let one : number_in own i ≡ number_in own j = blocks.each i t.0 hi t.1 ∙ sym (blocks.each j t.0 hj t.2) in
      let two : number_in own2 i ≡ number_in own2 j = ap (λ xs. number_in xs i) eo ∙ one ∙ ap (λ xs. number_in xs j) (sym eo) in
      let three : number_in mid i ≡ number_in mid j = up.same i j hi hj (record { own = t; neighbours = a.parents }) two in
      down.same i j hi hj (record { own = t; neighbours = a.children }) (ap (λ xs. number_in xs i) em ∙ three ∙ ap (λ xs. number_in xs j) (sym em));
}
