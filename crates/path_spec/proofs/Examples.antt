-- The definitions at worked values, and at near misses. `says` makes each of them one of the relation.
use Rattle.std.proofs.Common.{◌≡◌, List, [], ◌∷◌, ℕ, zero, suc, refl, Bool, true, false, sym, ap, true≢false, ◌∙◌, Option, Some, None}
use Rattle.std.specs.Prelude.{codes, unwrap_or}
use Rattle.graph_spec.specs.Shapes.{Shape}
use Rattle.path_spec.specs.Trees.{star, plus, opt, child, below, Expr, only, or, last, then, Item, once, signed, Atom, label, any, group}
use Rattle.path_spec.specs.Matches.{Word, Matches}
use Rattle.path_spec.specs.Tests.{matches}
use Rattle.path_spec.specs.Trimmed.{trimmed}
use Rattle.path_spec.specs.PathAnswers.{IsAnswer}
use Rattle.path_spec.specs.Spelling.{canonical}
use Rattle.path_spec.proofs.WordTests.{says}

abbrev a : Atom
a = label (codes "a")

abbrev b : Atom
b = label (codes "b")

abbrev c : Atom
c = label (codes "c")

-- one item alone
abbrev one : Item → Expr
one i = only (last i)

-- a word of labels of one letter
abbrev word : List ℕ → Word
word [] = []
word (x ∷ xs) = (x ∷ []) ∷ word xs

-- a//c: with nothing between them, or something
abbrev a_below_c : Expr
a_below_c = only (then (once a) below (last (once c)))

below_near : matches a_below_c (word (codes "ac")) ≡ true
below_near = refl

below_far : matches a_below_c (word (codes "abbc")) ≡ true
below_far = refl

-- but it is no single node, nothing follows it, and 'ac' is another label
below_one : matches a_below_c (word (codes "c")) ≡ false
below_one = refl

below_past : matches a_below_c (word (codes "acb")) ≡ false
below_past = refl

below_joined : matches a_below_c (codes "ac" ∷ []) ≡ false
below_joined = refl

-- a/c has nothing between them
child_far : matches (only (then (once a) child (last (once c)))) (word (codes "abc")) ≡ false
child_far = refl

-- a* is matched by the empty word, by itself and again, and by no other label
star_none : matches (one (signed a star)) [] ≡ true
star_none = refl

star_three : matches (one (signed a star)) (word (codes "aaa")) ≡ true
star_three = refl

star_other : matches (one (signed a star)) (word (codes "aba")) ≡ false
star_other = refl

-- (a/b)*: of whole pieces
abbrev ab_star : Expr
ab_star = one (signed (group (only (then (once a) child (last (once b))))) star)

star_two : matches ab_star (word (codes "abab")) ≡ true
star_two = refl

star_half : matches ab_star (word (codes "aba")) ≡ false
star_half = refl

-- (a|b)+: the pieces may differ, and there is one at least
abbrev some_ab : Expr
some_ab = one (signed (group (or (last (once a)) (only (last (once b))))) plus)

plus_mixed : matches some_ab (word (codes "abba")) ≡ true
plus_mixed = refl

plus_none : matches some_ab [] ≡ false
plus_none = refl

-- _? is matched by the empty word and by any label, but not by two
opt_none : matches (one (signed any opt)) [] ≡ true
opt_none = refl

opt_one : matches (one (signed any opt)) (word (codes "x")) ≡ true
opt_one = refl

opt_two : matches (one (signed any opt)) (word (codes "xx")) ≡ false
opt_two = refl

-- a star of what may be empty: (a?)*
star_opt : matches (one (signed (group (one (signed a opt))) star)) (word (codes "aa")) ≡ true
star_opt = refl

-- c|a/b: the whole sequence is one alternative
abbrev c_or_ab : Expr
c_or_ab = or (last (once c)) (only (then (once a) child (last (once b))))

or_first : matches c_or_ab (word (codes "c")) ≡ true
or_first = refl

or_second : matches c_or_ab (word (codes "ab")) ≡ true
or_second = refl

or_neither : matches c_or_ab (word (codes "cb")) ≡ false
or_neither = refl

-- so a near miss is one of the definition
pub star_half_misses : Matches ab_star (word (codes "aba")) → ⊥
star_half_misses h = true≢false (sym ((says ab_star).is_yes (word (codes "aba")) h) ∙ star_half)

pub below_far_is : Matches a_below_c (word (codes "abbc"))
below_far_is = (says a_below_c).yes_is (word (codes "abbc")) below_far

-- one node, labelled b, and no edge
lone_label : ℕ → Option (List ℕ)
lone_label zero = Some (codes "b")
lone_label (suc n) = None

abbrev lone : Shape
lone = record { size = 1; label = lone_label; edge = λ u v. false }

abbrev tells : Expr → Option (List ℕ) → Bool
tells e t = matches e (unwrap_or t [] ∷ [])

-- The empty word matches a*, but it ends no walk: the node is no answer.
no_walk_is_empty : (v : ℕ) → IsAnswer lone (one (signed a star)) v → ⊥
unfolding lone_label
no_walk_is_empty v ([], h, u, walk) = walk
no_walk_is_empty v (t ∷ [], h, zero, walk) =
    true≢false (sym ((says (one (signed a star))).is_yes (t ∷ []) h) ∙ ap (tells (one (signed a star))) (sym walk.0))
no_walk_is_empty v (t ∷ [], h, suc u, walk) = cc (walk.0)
no_walk_is_empty v (t ∷ r ∷ ts, h, u, walk) = true≢false (sym walk.2)

-- _*/a/_+ has the answers of a/_+, and so has b*//_?/a+/_+
abbrev a_some : Expr
a_some = only (then (once a) child (last (signed any plus)))

trimmed_any : trimmed (only (then (signed any star) child (then (once a) child (last (signed any plus))))) ≡ a_some
trimmed_any = refl

trimmed_more : trimmed (only (then (signed b star) below (then (signed any opt) child (then (signed a plus) child (last (signed any plus)))))) ≡ a_some
trimmed_more = refl

-- an item that reads a label stays, once
trimmed_label : trimmed a_some ≡ a_some
trimmed_label = refl

trimmed_plus : trimmed (only (then (signed b plus) child (last (once a)))) ≡ only (then (once b) child (last (once a)))
trimmed_plus = refl

-- an item stays too where all behind it may be empty
trimmed_star : trimmed (only (then (signed b star) child (last (signed a star)))) ≡ only (then (signed b opt) child (last (signed a star)))
trimmed_star = refl

-- each alternative by itself, and none in parentheses
trimmed_or : trimmed (or (then (signed any star) child (last (once c))) (one (once (group ab_star)))) ≡ or (last (once c)) (one (once (group ab_star)))
trimmed_or = refl

-- parentheses are kept
canonical_star : canonical ab_star ≡ codes "(a/b)*"
canonical_star = refl

canonical_below : canonical a_below_c ≡ codes "a//c"
canonical_below = refl

canonical_or : canonical (or (last (once c)) a_below_c) ≡ codes "c|a//c"
canonical_or = refl
