-- What a key that was written says of its node.
use Rattle.std.proofs.Common.{◌≡◌, ℕ, ◌+◌, ◌<◌, List, [], ◌∷◌, ◌++◌, length, Option, Some, None, IsTrue, refl, sym, ◌∙◌, ap, subst, Bool, get_or, filter_map, option_to_list, take, append_assoc, arith}
use Rattle.std.specs.List.{cons_option, insert}
use Rattle.std.proofs.lemmas.List.{take_more}
use Rattle.std.proofs.lemmas.List.Elements.{filter_map-append}
use Rattle.graph_spec.specs.Members.{has, Lists, at}
use Rattle.bisim_spec.specs.Partitions.{Together}
use Rattle.bisim_spec.specs.NodeKeys.{IsSetOf, IsWritten, IsKey}
use Rattle.bisim_spec.specs.Refinement.{StayTogether}
use Rattle.bisim_spec.proofs.RisingLists.{images_set, rising_unique}

one_image : (o : Option ℕ) → cons_option o [] ≡ option_to_list o
one_image None = refl
one_image (Some b) = refl

-- one more node's block
pub blocks_more : (f : ℕ → Option ℕ) (nodes numbers before now : List ℕ) (i d : ℕ) (o : Option ℕ) → i < length nodes → before ≡ numbers ++ filter_map f (take i nodes)
    → o ≡ f (get_or nodes i d) → now ≡ before ++ option_to_list o → now ≡ numbers ++ filter_map f (take (i + 1) nodes)
blocks_more f nodes numbers before now i d o within e is added =
    let more : filter_map f (take (i + 1) nodes) ≡ filter_map f (take i nodes) ++ option_to_list o =
    ap (filter_map f) (take_more nodes i d within) ∙ filter_map-append f (take i nodes) (get_or nodes i d ∷ [])
    ∙ ap (λ xs. filter_map f (take i nodes) ++ xs) (one_image (f (get_or nodes i d)) ∙ ap option_to_list (sym is))
    in
    added ∙ ap (λ xs. xs ++ option_to_list o) e ∙ append_assoc numbers (filter_map f (take i nodes)) (option_to_list o) ∙ ap (λ xs. numbers ++ xs) (sym more)

-- a key that is written into an empty list
pub written : (f : ℕ → Option ℕ) (nodes empty numbers set key : List ℕ) (number : ℕ) → empty ≡ [] → numbers ≡ empty ++ filter_map f nodes → IsSetOf numbers set
    → key ≡ insert set 0 number → IsWritten f nodes number key
written f nodes empty numbers set key number none e s is = record {
  around = set;
  is = is;
  images = images_set f nodes set (subst (λ xs. IsSetOf xs set) (e ∙ ap (λ xs. xs ++ filter_map f nodes) none) s);
}

pub key_of : (own : ℕ → Option ℕ) (base : List (Option ℕ)) (neighbour_of : ℕ → ℕ → Bool) (n number : ℕ) (nodes key : List ℕ) → Lists (λ p. neighbour_of p n) nodes → own n ≡ Some number
    → IsWritten (at base) nodes number key → IsKey own base neighbour_of n key
key_of own base neighbour_of n number nodes key l own_is w = record {
  number = number;
  around = w.around;
  is = w.is;
  own_is = own_is;
  rising = w.images.rising;
  each = λ b h. let p = w.images.each b h in (p.0, sym (l.members p.0) ∙ p.1, p.2);
  every = λ p b h e. w.images.every p b (l.members p ∙ h) e;
}

-- one key is that of one number, and of the same blocks
pub parts_same : (xs ys : List ℕ) (x y : ℕ) → x ∷ xs ≡ y ∷ ys → (xs ≡ ys) × (x ≡ y)
parts_same xs ys x y e = (cc, cc)

-- nodes of one key stay together, where neighbours have blocks
pub together_from_key : (own : ℕ → Option ℕ) (base : List (Option ℕ)) (neighbour_of : ℕ → ℕ → Bool) (u v : ℕ) (key : List ℕ) → ((p n : ℕ) → IsTrue (neighbour_of p n) → (b : ℕ) × (at base p ≡ Some b))
    → IsKey own base neighbour_of u key → IsKey own base neighbour_of v key → StayTogether own base neighbour_of u v
together_from_key own base neighbour_of u v key blocks k l =
    let same = parts_same k.around l.around k.number l.number (sym k.is ∙ l.is) in
    record {
      one_number = (k.number, k.own_is, l.own_is ∙ ap Some (sym same.1));
      neighbours = record {
        there = λ p e.
            let b = blocks p u e in
            let q = l.each b.0 (ap (λ xs. has xs b.0) (sym same.0) ∙ k.every p b.0 e b.1) in
            (q.0, q.1, (b.0, b.1, q.2));
        back = λ p e.
            let b = blocks p v e in
            let q = k.each b.0 (ap (λ xs. has xs b.0) same.0 ∙ l.every p b.0 e b.1) in
            (q.0, q.1, (b.0, b.1, q.2));
      };
    }

-- nodes that stay together have one key
pub key_from_together : (own : ℕ → Option ℕ) (base : List (Option ℕ)) (neighbour_of : ℕ → ℕ → Bool) (u v : ℕ) (ku kv : List ℕ) → StayTogether own base neighbour_of u v
    → IsKey own base neighbour_of u ku → IsKey own base neighbour_of v kv → ku ≡ kv
key_from_together own base neighbour_of u v ku kv same k l =
    let number : k.number ≡ l.number = (let a = same.one_number.1 in let b = same.one_number.2 in let c = k.own_is in let d = l.own_is in cc) in
    let moved : (b : ℕ) (p q : ℕ) → at base p ≡ Some b → Together base p q → at base q ≡ Some b = λ b p q e t. let f = t.1 in let g = t.2 in cc in
    let around : k.around ≡ l.around =
    rising_unique k.around l.around k.rising l.rising
    (λ b h. let p = k.each b h in let q = same.neighbours.there p.0 p.1 in l.every q.0 b q.1 (moved b p.0 q.0 p.2 q.2))
    (λ b h. let p = l.each b h in let q = same.neighbours.back p.0 p.1 in k.every q.0 b q.1 (moved b p.0 q.0 p.2 q.2))
    in
    k.is ∙ ap (λ xs. k.number ∷ xs) around ∙ ap (λ x. x ∷ l.around) number ∙ sym l.is

-- one node with a block
pub written_one : (f : ℕ → Option ℕ) (nodes : List ℕ) (p b number : ℕ) → nodes ≡ p ∷ [] → f p ≡ Some b → IsWritten f nodes number (number ∷ b ∷ [])
written_one f nodes p b number only block = record {
  around = b ∷ [];
  is = refl;
  images = images_set f nodes (b ∷ []) (
      let image : filter_map f nodes ≡ b ∷ [] = ap (filter_map f) only ∙ ap (λ o. cons_option o []) block in
      record {
        rising = λ k h. absurd (omega (arith, h));
        same = λ x. ap (λ xs. has xs x) (sym image);
      });
}
