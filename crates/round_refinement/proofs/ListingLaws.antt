-- Nodes on the lists of their blocks, and active nodes with their whole blocks.
use Rattle.std.proofs.Common.{◌≡◌, ◌≢◌, ℕ, zero, suc, ◌+◌, ◌<◌, ◌≤◌, ◌⊎◌, List, [], ◌∷◌, ◌++◌, length, Option, Some, None, IfSome, refl, sym, ◌∙◌, ap, subst, arith, inl, inr, true, true≢false, slice_get, get_or, take}
use Rattle.std.specs.Prelude.{nat_eq}
use Rattle.std.proofs.lemmas.Bool.{cases_lt, cases_Bool, or_cases, or_left, or_right}
use Rattle.std.proofs.lemmas.Bool.Decides.{Decides-eqb}
use Rattle.std.proofs.lemmas.List.{get_or_push, get_or_append_left, length-append}
use Rattle.hash_index.specs.Items.{Items, with_item, hash_at, count_to, IsNewest}
use Rattle.graph_spec.specs.Members.{at, has}
use Rattle.graph_spec.specs.Shapes.{Shape}
use Rattle.graph_spec.proofs.MemberLaws.{has_push, has_more}
use Rattle.round_refinement.specs.Active.{IsClosed, IsCoarse, AreMoves}
use Rattle.round_refinement.specs.Listing.{IsOn, IsListed, ListsNode, ListsMoved, AddsNode, IsWidened}
use Rattle.round_refinement.proofs.MoveLaws.{others_stay}

item_append : {X : Type 0} (xs ys : List X) (k : ℕ) (x : X) → slice_get xs k ≡ Some x → slice_get (xs ++ ys) k ≡ Some x
item_append [] ys k x e = absurd (cc)
item_append (z ∷ xs) ys zero x e = e
item_append (z ∷ xs) ys (suc k) x e = item_append xs ys k x e

pub item_last : {X : Type 0} (xs : List X) (x : X) → slice_get (xs ++ x ∷ []) (length xs) ≡ Some x
item_last [] x = refl
item_last (z ∷ xs) x = item_last xs x

-- one more node on a list
pub on_more : {X : Type 0} (old : Items X) (b : ℕ) (m : X) (c : ℕ) (n : X) → IsOn old b m → IsOn (with_item old c n) b m
on_more old b m c n w =
    let within = w.within in
    let long = length-append old.hashes (c ∷ []) in
    record {
      place = w.place;
      within = omega (arith, within, long);
      hash = get_or_append_left old.hashes (c ∷ []) 0 w.place within ∙ w.hash;
      item = item_append old.items (n ∷ []) w.place m w.item;
    }

pub on_new : {X : Type 0} (old : Items X) (c : ℕ) (n : X) → length old.hashes ≡ length old.items → IsOn (with_item old c n) c n
on_new old c n even =
    let long = length-append old.hashes (c ∷ []) in
    record {
      place = length old.hashes;
      within = omega (arith, long);
      hash = get_or_push old.hashes c 0 (length old.hashes) refl;
      item = subst (λ k. slice_get (old.items ++ n ∷ []) k ≡ Some n) (sym even) (item_last old.items n);
    }

pub lists_some : (old new : Items ℕ) (c n : ℕ) → length old.hashes ≡ length old.items → new ≡ with_item old c n → ListsNode (Some c) n old new
lists_some old new c n even is = record {
  kept = λ b m w. subst (λ l. IsOn l b m) (sym is) (on_more old b m c n w);
  put = λ b e. let same : c ≡ b = cc in subst (λ l. IsOn l b n) (sym is) (subst (λ k. IsOn (with_item old c n) k n) same (on_new old c n even));
}

pub lists_none : (old : Items ℕ) (n : ℕ) → ListsNode None n old old
lists_none old n = record { kept = λ b m w. w; put = λ b e. absurd (cc) }

-- the numbers below n
pub record ListedBelow (block : List (Option ℕ)) (n : ℕ) (lists : Items ℕ) : Type 0 where
  pub each : (m b : ℕ) → m < n → at block m ≡ Some b → IsOn lists b m

pub listed_start : (block : List (Option ℕ)) (lists : Items ℕ) → ListedBelow block 0 lists
listed_start block lists = record { each = λ m b h e. absurd (omega (arith, h)) }

pub listed_more : (block : List (Option ℕ)) (n : ℕ) (old new : Items ℕ) → ListedBelow block n old → ListsNode (at block n) n old new → ListedBelow block (n + 1) new
listed_more block n old new w l = record {
  each = λ m b h e. elim (cases_lt m n) [
    | inl before ↦ l.kept b m (w.each m b before e)
    | inr past ↦ (let here : n ≡ m = omega (arith, h, past) in subst (IsOn new b) here (l.put b (ap (at block) here ∙ e)))
  ];
}

-- nodes that are listed one after another
pub moved_none : (block : List (Option ℕ)) (lists : Items ℕ) → ListsMoved block [] lists lists
moved_none block lists = record { kept = λ b m w. w; put = λ n b h e. absurd (true≢false (sym h)) }

pub moved_one : (block : List (Option ℕ)) (moved : List ℕ) (i d : ℕ) (old mid new : Items ℕ) → i < length moved → ListsMoved block (take i moved) old mid
    → ListsNode (at block (get_or moved i d)) (get_or moved i d) mid new → ListsMoved block (take (i + 1) moved) old new
moved_one block moved i d old mid new within w l = record {
  kept = λ b m k. l.kept b m (w.kept b m k);
  put = λ n b h e. elim (or_cases (has (take i moved) n) (nat_eq n (get_or moved i d)) (sym (has_more moved i d n within) ∙ h)) [
    | inl before ↦ l.kept b n (w.put n b before e)
    | inr here ↦
        (let same : get_or moved i d ≡ n = sym ((Decides-eqb n (get_or moved i d)).0 here) in
        subst (IsOn new b) same (l.put b (ap (at block) same ∙ e)))
  ];
}

-- once those that went to another block are listed, each node is
pub listed_still : (old new : List (Option ℕ)) (moved : List ℕ) (lists lists2 : Items ℕ) → IsListed old lists → AreMoves old new moved → ListsMoved new moved lists lists2
    → IsListed new lists2
listed_still old new moved lists lists2 w m l = λ n b e. elim (cases_Bool (has moved n)) [
  | inl on ↦ l.put n b on e
  | inr off ↦ l.kept b n (w n b (sym (others_stay old new moved m n off) ∙ e))
]

-- a node behind the others
pub adds_node : (block : List (Option ℕ)) (b n : ℕ) (old : List ℕ) → at block n ≡ Some b → AddsNode block b n old (old ++ n ∷ [])
adds_node block b n old e = record {
  kept = λ m h. has_push old n m ∙ or_left (has old m) (nat_eq m n) h;
  put = λ here. has_push old n n ∙ or_right (has old n) (nat_eq n n) ((Decides-eqb n n).1 refl);
  only = λ m h. elim (or_cases (has old m) (nat_eq m n) (sym (has_push old n m) ∙ h)) [
    | inl before ↦ inl before
    | inr same ↦ inr (ap (at block) ((Decides-eqb m n).0 same) ∙ e)
  ];
}

pub adds_none : (block : List (Option ℕ)) (b n : ℕ) (old : List ℕ) → at block n ≢ Some b → AddsNode block b n old old
adds_none block b n old apart = record { kept = λ m h. h; put = λ e. absurd (apart e); only = λ m h. inl h }

-- on the way along the list of block b: nodes on it that were met, and are in the block, are in
pub record Gathers (block : List (Option ℕ)) (lists : Items ℕ) (b : ℕ) (old all : List ℕ) (next : Option ℕ) : Type 0 where
  pub kept : (m : ℕ) → has old m ≡ true → has all m ≡ true
  pub only : (m : ℕ) → has all m ≡ true → has old m ≡ true ⊎ (at block m ≡ Some b)
  pub seen : (m : ℕ) (w : IsOn lists b m) → at block m ≡ Some b → (w.place < count_to next) ⊎ (has all m ≡ true)
  pub below : count_to next ≤ length lists.hashes
  pub hash : IfSome next (λ i. hash_at lists.hashes i ≡ b)

pub gathers_start : (block : List (Option ℕ)) (lists : Items ℕ) (b : ℕ) (old : List ℕ) (next : Option ℕ) → IsNewest lists.hashes b (length lists.hashes) next → Gathers block lists b old old next
gathers_start block lists b old next w = record {
  kept = λ m h. h;
  only = λ m h. inl h;
  seen = λ m on e. inl (w.covers on.place on.within on.hash);
  below = w.below;
  hash = w.has;
}

pub gathers_more : (block : List (Option ℕ)) (lists : Items ℕ) (b i n : ℕ) (old all more : List ℕ) (next : Option ℕ) → Gathers block lists b old all (Some i)
    → slice_get lists.items i ≡ Some n → AddsNode block b n all more → IsNewest lists.hashes (hash_at lists.hashes i) i next → Gathers block lists b old more next
gathers_more block lists b i n old all more next w item a l = record {
  kept = λ m h. a.kept m (w.kept m h);
  only = λ m h. elim (a.only m h) [ inl before ↦ w.only m before | inr e ↦ inr e ];
  seen = λ m on e. elim (w.seen m on e) [
    | inr met ↦ inr (a.kept m met)
    | inl ahead ↦ elim (cases_lt on.place i) [
      | inl less ↦ inl (l.covers on.place less (on.hash ∙ sym w.hash))
      | inr past ↦
          (let here : on.place ≡ i = omega (arith, ahead, past) in
          let other : slice_get lists.items i ≡ Some m = ap (slice_get lists.items) (sym here) ∙ on.item in
          let same : n ≡ m = (let x = item in let y = other in cc) in
          inr (subst (λ k. has more k ≡ true) same (a.put (ap (at block) same ∙ e))))
    ]
  ];
  below = (let x = l.below in let y = w.below in omega (arith, x, y));
  hash = hash_of next l.has;
}
  where
    hash_of : (o : Option ℕ) → IfSome o (λ j. hash_at lists.hashes j ≡ hash_at lists.hashes i) → IfSome o (λ j. hash_at lists.hashes j ≡ b)
    hash_of None h = tt
    hash_of (Some j) h = h ∙ w.hash

pub gathers_all : (block : List (Option ℕ)) (lists : Items ℕ) (b : ℕ) (old all : List ℕ) → IsListed block lists → Gathers block lists b old all None → IsWidened block old all
gathers_all block lists b old all listed w = record {
  kept = w.kept;
  only = λ m h. elim (w.only m h) [
    | inl before ↦ inl before
    | inr e ↦ inr (b, e, λ k f. elim (w.seen k (listed k b f) f) [ inl none ↦ absurd (omega (arith, none)) | inr met ↦ met ])
  ];
}

-- nodes that are widened one after another

pub widened_none : (block : List (Option ℕ)) (old : List ℕ) → IsWidened block old old
widened_none block old = record { kept = λ n h. h; only = λ n h. inl h }

pub widened_more : (block : List (Option ℕ)) (old mid new : List ℕ) → IsWidened block old mid → IsWidened block mid new → IsWidened block old new
widened_more block old mid new w v = record {
  kept = λ n h. v.kept n (w.kept n h);
  only = λ n h. elim (v.only n h) [
    | inl before ↦ elim (w.only n before) [
      | inl first ↦ inl first
      | inr (b, e, whole) ↦ inr (b, e, λ m f. v.kept m (whole m f))
    ]
    | inr found ↦ inr found
  ];
}

pub widened_same : (block : List (Option ℕ)) (old mid new : List ℕ) → IsWidened block old mid → ((n : ℕ) → has new n ≡ has mid n) → IsWidened block old new
widened_same block old mid new w same = record {
  kept = λ n h. same n ∙ w.kept n h;
  only = λ n h. elim (w.only n (sym (same n) ∙ h)) [
    | inl before ↦ inl before
    | inr (b, e, whole) ↦ inr (b, e, λ m f. same m ∙ whole m f)
  ];
}

-- with nodes their whole blocks are active, so what is bisimilar to one is
pub widened_closed : (s : Shape) (block : List (Option ℕ)) (active wider : List ℕ) → IsCoarse s block → IsClosed s active → IsWidened block active wider → IsClosed s wider
widened_closed s block active wider w closed v = λ m n r h. elim (v.only m h) [
  | inl before ↦ v.kept n (closed m n r before)
  | inr (b, e, whole) ↦ (let t = w.together m n r in whole n (let x = t.1 in let y = t.2 in cc))
]
