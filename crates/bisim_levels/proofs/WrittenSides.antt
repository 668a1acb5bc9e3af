-- What a key that was written by the sides that count says of its node.
use Rattle.std.proofs.Common.{◌≡◌, ℕ, List, [], ◌++◌, Option, Some, None, IsTrue, refl, sym, ◌∙◌, ap, true, filter_map, option_map, inl, inr, true≢false}
use Rattle.std.specs.Prelude.{◌||◌, nat_eq}
use Rattle.std.specs.List.{insert}
use Rattle.std.proofs.lemmas.List.Folds.{list_any-append}
use Rattle.std.proofs.lemmas.Bool.{or_cases, or_left, or_right}
use Rattle.graph_spec.specs.Members.{has, at, Lists}
use Rattle.graph_spec.specs.Shapes.{Shape}
use Rattle.bisim_spec.specs.declared.sides.Side.{Side}
use Rattle.bisim_spec.specs.declared.sides.Side.TheVariants as side
use Rattle.bisim_spec.specs.declared.sides.Sides.{Sides}
use Rattle.bisim_spec.specs.declared.sides.Sides.TheVariants as sides
use Rattle.bisim_spec.specs.SidedLevels.{counts, beside}
use Rattle.bisim_spec.specs.NodeKeys.{IsSetOf, IsWritten}
use Rattle.bisim_spec.proofs.RisingLists.{mapped, maps}
use Rattle.bisim_levels.specs.SidedKeys.{side_mark, marked, on_side, ListNeighbours, IsListed, IsWrittenBy, IsAround, IsKeyBy}

-- a key of parents alone
pub written_parents : (f : ℕ → Option ℕ) (parents children key : List ℕ) (number : ℕ) → IsWritten f parents number key
    → IsWrittenBy sides.Parents f (on_side parents children) number key
written_parents f parents children key number w = record {
  around = w.around;
  is = w.is;
  rising = w.images.rising;
  each = λ c h. let p = w.images.each c h in (side.Parents, record { counted = refl; node = p.0; listed = p.1; block = c; has_block = p.2; is = refl });
  every = every;
}
  where
    every : (d : Side) (c : ℕ) → IsListed sides.Parents d f (on_side parents children d) c → IsTrue (has w.around c)
    every side.Parents c l = ap (has w.around) l.is ∙ w.images.every l.node l.block l.listed l.has_block
    every side.Children c l = absurd (true≢false (sym l.counted))

-- the number for a block that f gives
marked_block : (d : Side) (o : Option ℕ) (c : ℕ) → option_map (side_mark d) o ≡ Some c → (b : ℕ) × (o ≡ Some b) × (c ≡ side_mark d b)
marked_block d None c h = absurd (cc)
marked_block d (Some b) c h = (b, refl, cc)

both_count : (d : Side) → IsTrue (counts sides.Both d)
both_count side.Parents = refl
both_count side.Children = refl

in_marks : (d : Side) (f : ℕ → Option ℕ) (nodes : List ℕ) (c : ℕ) → has (filter_map (marked d f) nodes) c ≡ true → IsListed sides.Both d f nodes c
in_marks d f nodes c h =
    let p = mapped (marked d f) nodes c h in
    let b = marked_block d (f p.0) c p.2 in
    record { counted = both_count d; node = p.0; listed = p.1; block = b.0; has_block = b.1; is = b.2 }

marks_in : (d : Side) (f : ℕ → Option ℕ) (nodes : List ℕ) (c : ℕ) → IsListed sides.Both d f nodes c → has (filter_map (marked d f) nodes) c ≡ true
marks_in d f nodes c l = maps (marked d f) nodes l.node c l.listed (ap (option_map (side_mark d)) l.has_block ∙ ap Some (sym l.is))

has_both : (xs ys : List ℕ) (c : ℕ) → has (xs ++ ys) c ≡ (has xs c || has ys c)
has_both xs ys c = list_any-append (nat_eq c) xs ys

-- a key of parents and children that is written into an empty list
pub written_both : (f : ℕ → Option ℕ) (parents children empty first numbers set key : List ℕ) (number : ℕ) → empty ≡ [] → first ≡ empty ++ filter_map (marked side.Parents f) parents
    → numbers ≡ first ++ filter_map (marked side.Children f) children → IsSetOf numbers set → key ≡ insert set 0 number
    → IsWrittenBy sides.Both f (on_side parents children) number key
written_both f parents children empty first numbers set key number none e g s is = record {
  around = set;
  is = is;
  rising = s.rising;
  each = λ c h. elim (or_cases (has ms c) (has cs c) (sym (has_both ms cs c) ∙ ap (λ xs. has xs c) (sym whole) ∙ sym (s.same c) ∙ h)) [
    | inl p ↦ (side.Parents, in_marks side.Parents f parents c p)
    | inr k ↦ (side.Children, in_marks side.Children f children c k)
  ];
  every = every;
}
  where
    ms : List ℕ
    ms = filter_map (marked side.Parents f) parents

    cs : List ℕ
    cs = filter_map (marked side.Children f) children

    whole : numbers ≡ ms ++ cs
    whole = g ∙ ap (λ xs. xs ++ cs) (e ∙ ap (λ xs. xs ++ ms) none)

    into : (c : ℕ) → (has ms c || has cs c) ≡ true → IsTrue (has set c)
    into c h = s.same c ∙ ap (λ xs. has xs c) whole ∙ has_both ms cs c ∙ h

    every : (d : Side) (c : ℕ) → IsListed sides.Both d f (on_side parents children d) c → IsTrue (has set c)
    every side.Parents c l = into c (or_left (has ms c) (has cs c) (marks_in side.Parents f parents c l))
    every side.Children c l = into c (or_right (has ms c) (has cs c) (marks_in side.Children f children c l))

-- the neighbours of a node by parents alone, whatever the other list holds
pub lists_parents : (s : Shape) (n : ℕ) (parents children : List ℕ) → Lists (λ p. s.edge p n) parents → ListNeighbours sides.Parents s n (on_side parents children)
lists_parents s n parents children l = record { each = each }
  where
    each : (d : Side) → IsTrue (counts sides.Parents d) → Lists (λ p. beside d s p n) (on_side parents children d)
    each side.Parents c = l
    each side.Children c = absurd (true≢false (sym c))

-- by parents and children
pub lists_both : (which : Sides) (s : Shape) (n : ℕ) (parents children : List ℕ) → Lists (λ p. s.edge p n) parents → Lists (λ c. s.edge n c) children
    → ListNeighbours which s n (on_side parents children)
lists_both which s n parents children lp lc = record { each = λ d c. each d }
  where
    each : (d : Side) → Lists (λ p. beside d s p n) (on_side parents children d)
    each side.Parents = lp
    each side.Children = lc

-- the key that is written of a node's neighbours is that of the node
pub sided_key_of : (which : Sides) (s : Shape) (own : ℕ → Option ℕ) (base : List (Option ℕ)) (n number : ℕ) (lists : Side → List ℕ) (key : List ℕ) → ListNeighbours which s n lists
    → own n ≡ Some number → IsWrittenBy which (at base) lists number key → IsKeyBy own (IsAround which s base) n key
sided_key_of which s own base n number lists key all own_is w = record {
  number = number;
  around = w.around;
  is = w.is;
  own_is = own_is;
  rising = w.rising;
  each = λ c h.
      let l = w.each c h in
      record {
        side = l.0;
        counted = l.1.counted;
        node = l.1.node;
        is_beside = sym ((all.each l.0 l.1.counted).members l.1.node) ∙ l.1.listed;
        block = l.1.block;
        has_block = l.1.has_block;
        is = l.1.is;
      };
  every = λ c k. w.every k.side c (record {
    counted = k.counted;
    node = k.node;
    listed = (all.each k.side k.counted).members k.node ∙ k.is_beside;
    block = k.block;
    has_block = k.has_block;
    is = k.is;
  });
}
