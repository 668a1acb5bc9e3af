-- An accepted delete of a triple leaves a graph that represents the triples without it.
use Rattle.std.proofs.Common.{◌≡◌, ℕ, Bool, true, false, ◌&&◌, ◌||◌, not, List, [], ◌∷◌, Option, Some, None, Ok, refl, sym, ap, ◌∙◌, subst, inl, inr, true≢false, is_some}
use Rattle.std.specs.Prelude.{if◌then◌else◌}
use Rattle.std.proofs.Math.Bool.{or-false}
use Rattle.std.proofs.lemmas.Bool.{cases_Bool, and_parts, and_from, or_cases, or_parts, or_from, or_left, or_right, not-true, false_from_ne_true}
use Rattle.graph_spec.specs.declared.limits.Limits.{Limits}
use Rattle.graph_spec.specs.Graphs.{Graph, has_edge}
use Rattle.graph_spec.specs.Changes.{is_used}
use Rattle.graph_spec.proofs.Uses.{IsBare, bare_unused, unused_bare}
use Rattle.change_spec.specs.Steps.{Step, drop, without_node, after, apply}
use Rattle.change_spec.proofs.Prefixes.{after_joined}
use Rattle.triples_read.specs.declared.term.Term.{Term}
use Rattle.triples_read.specs.declared.term.Triple.{Triple}
use Rattle.term_table.specs.Terms.{same_term}
use Rattle.triple_names.specs.Items.{Item, of_term, of_triple, same_triple, same_item, is_part, joins, has_item, has_join}
use Rattle.triple_names.specs.Names.{Names, number_in, node_there}
use Rattle.triple_names.specs.TripleChanges.{drop_with, delete_steps, delete_change, deletion}
use Rattle.triple_names.specs.Represented.{IsImage, Represents, is_among, without_triple}
use Rattle.triple_names.specs.KeptTriples.{DeleteKeeps}
use Rattle.triple_names.proofs.ItemLaws.{agree, item_is, item_same, item_tells, item_apart, same_by, find_one, found_one, among_others, others_among, distinct_without, subject_part, triple_part, object_part, part_cases, part_triple, joins_from, joins_onto, join_cases, joined_items}
use Rattle.triple_names.proofs.ImageSteps.{without_item, without_joins, Ends, is_there, there_tells, image_by, node_dropped}
use Rattle.triple_names.proofs.InsertKept.{leaves_after}

module _ (g : Graph) (n : Names) (s : List Triple) (t : Triple) (r : IsImage g (number_in n) (has_item s) (has_join s))
    (m : ℕ) (there : node_there n g (of_triple t) ≡ Some m) where
  abbrev x : Item
  x = of_term t.subject

  abbrev w : Item
  w = of_triple t

  abbrev y : Item
  y = of_term t.object

  -- the other triples
  abbrev rest : List Triple
  rest = without_triple s t

  abbrev g1 : Graph
  g1 = without_node g m

  abbrev has1 : Item → Bool
  has1 = without_item (has_item s) w

  ends : Ends (has_item s) (has_join s)
  ends a b h = joined_items s a b h

  tells : (has_item s w ≡ true) × (number_in n w ≡ Some m)
  tells = there_tells g (number_in n) (has_item s) (has_join s) r w m there

  among : is_among s t ≡ true
  among =
      let u = find_one (λ v. is_part v w) s tells.0 in
      subst (λ v. is_among s v ≡ true) (sym (part_triple u.0 t u.2)) u.1

  -- an item of another triple is one of them all, and not this triple; likewise what joins
  other_item : (q : Item) → has_item rest q ≡ true → has1 q ≡ true
  other_item q h =
      let u = find_one (λ v. is_part v q) rest h in
      let k = among_others s t u.0 u.1 in
      and_from (has_item s q) (not (same_item q w)) (found_one (λ v. is_part v q) s u.0 k.0 u.2)
      (ap not (item_apart q w (λ e. k.1 (part_triple u.0 t (subst (λ p. is_part u.0 p ≡ true) e u.2)))))

  same_joins : (a b : Item) → without_joins (has_join s) w a b ≡ has_join rest a b
  same_joins a b = agree (without_joins (has_join s) w a b) (has_join rest a b) into back
    where
      into : without_joins (has_join s) w a b ≡ true → has_join rest a b ≡ true
      into h =
          let parts = and_parts (has_join s a b) (not (same_item a w || same_item b w)) h in
          let off = or_parts (same_item a w) (same_item b w) (not-true (same_item a w || same_item b w) parts.1) in
          let u = find_one (λ v. joins v a b) s parts.0 in
          found_one (λ v. joins v a b) rest u.0 (others_among s t u.0 u.1 (λ e. elim (join_cases u.0 a b u.2) [
            | inl c ↦ true≢false (sym (same_by b w (c.1 ∙ ap of_triple (sym e))) ∙ off.1)
            | inr c ↦ true≢false (sym (same_by a w (c.0 ∙ ap of_triple (sym e))) ∙ off.0)
          ])) u.2

      back : has_join rest a b ≡ true → without_joins (has_join s) w a b ≡ true
      back h =
          let u = find_one (λ v. joins v a b) rest h in
          let k = among_others s t u.0 u.1 in
          let e = joined_items rest a b h in
          let first = (and_parts (has_item s a) (not (same_item a w)) (other_item a e.0)).1 in
          let second = (and_parts (has_item s b) (not (same_item b w)) (other_item b e.1)).1 in
          and_from (has_join s a b) (not (same_item a w || same_item b w)) (found_one (λ v. joins v a b) s u.0 k.0 u.2)
          (ap not (or_from (same_item a w) (same_item b w) (not-true (same_item a w) first) (not-true (same_item b w) second)))

  image1 : IsImage g1 (number_in n) has1 (has_join rest)
  image1 =
      image_by g1 (number_in n) (number_in n) has1 has1 (without_joins (has_join s) w) (has_join rest) (λ q. refl) (λ q. refl) same_joins
      (node_dropped g (number_in n) (has_item s) (has_join s) r ends w m tells.0 tells.1)

  ends1 : Ends has1 (has_join rest)
  ends1 a b h = (let e = joined_items rest a b h in (other_item a e.0, other_item b e.1))

  -- a term is used without the triple's node exactly where another triple has it
  module _ (z : Term) (u : ℕ) (on : has1 (of_term z) ≡ true) (number : number_in n (of_term z) ≡ Some u) where
    linked : has_item rest (of_term z) ≡ true → is_used g1 u ≡ false → ⊥
    linked h unused =
        let v = find_one (λ q. is_part q (of_term z)) rest h in
        let l = image1.labelled (of_triple v.0) (other_item (of_triple v.0) (found_one (λ q. is_part q (of_triple v.0)) rest v.0 v.1 (triple_part v.0))) in
        let bare = unused_bare g1 u unused in
        elim (part_cases v.0 (of_term z) v.2) [
          | inl a ↦ true≢false (sym ((image1.edges u l.0).1 (of_term z, of_triple v.0, found_one (λ q. joins q (of_term z) (of_triple v.0)) rest v.0 v.1 (subst (λ p. joins v.0 p (of_triple v.0) ≡ true) (sym a) (joins_from v.0)), number, l.1)) ∙ bare.from l.0)
          | inr b ↦ elim b [
            | inl c ↦ true≢false (sym (ap (λ p. same_item p (of_triple v.0)) c ∙ item_same (of_triple v.0)))
            | inr d ↦ true≢false (sym ((image1.edges l.0 u).1 (of_triple v.0, of_term z, found_one (λ q. joins q (of_triple v.0) (of_term z)) rest v.0 v.1 (subst (λ p. joins v.0 (of_triple v.0) p ≡ true) (sym d) (joins_onto v.0)), l.1, number)) ∙ bare.onto l.0)
          ]
        ]

    -- an edge at the node is one at the term
    at_term : (q : Item) → has1 q ≡ true → number_in n q ≡ Some u → has_item rest q ≡ true → has_item rest (of_term z) ≡ true
    at_term q h k i = subst (λ p. has_item rest p ≡ true) (image1.once u q (of_term z) h on k number) i

    bare_of : has_item rest (of_term z) ≡ false → IsBare g1 u
    bare_of off = record {
      from = λ v. false_from_ne_true (has_edge g1 u v) (λ h. (let j = (image1.edges u v).0 h in let e = joined_items rest j.0 j.1 j.2 in true≢false (sym (at_term j.0 (other_item j.0 e.0) j.3 e.0) ∙ off)));
      onto = λ v. false_from_ne_true (has_edge g1 v u) (λ h. (let j = (image1.edges v u).0 h in let e = joined_items rest j.0 j.1 j.2 in true≢false (sym (at_term j.1 (other_item j.1 e.1) j.4 e.1) ∙ off)));
    }

    pub used_by : is_used g1 u ≡ has_item rest (of_term z)
    used_by = elim (cases_Bool (has_item rest (of_term z))) [
      | inl h ↦ elim (cases_Bool (is_used g1 u)) [ inl a ↦ a ∙ sym h | inr b ↦ absurd (linked h b) ]
      | inr off ↦ bare_unused g1 u (bare_of off) ∙ sym off
    ]

  -- the items but a term that no other triple has
  abbrev let_go : (Item → Bool) → Item → (Item → Bool)
  let_go has p q = has q && (not (same_item q p) || has_item rest q)

  -- the node of a term goes where no other triple has it
  term_dropped : (g2 : Graph) (has2 : Item → Bool) → IsImage g2 (number_in n) has2 (has_join rest) → Ends has2 (has_join rest) → (z : Term) (u : ℕ) → has2 (of_term z) ≡ true → has1 (of_term z) ≡ true
      → number_in n (of_term z) ≡ Some u → (IsImage (after (drop_with g (Some u) m) g2) (number_in n) (let_go has2 (of_term z)) (has_join rest))
  term_dropped g2 has2 s2 ends2 z u on on1 number =
      subst (λ b. IsImage (after (if b then drop u ∷ [] else []) g2) (number_in n) (let_go has2 (of_term z)) (has_join rest)) (sym (ap not (used_by z u on1 number)))
      (by (has_item rest (of_term z)) refl)
    where
      by : (b : Bool) → has_item rest (of_term z) ≡ b → IsImage (after (if not b then drop u ∷ [] else []) g2) (number_in n) (let_go has2 (of_term z)) (has_join rest)
      by true h =
          image_by g2 (number_in n) (number_in n) has2 (let_go has2 (of_term z)) (has_join rest) (has_join rest) (λ q. refl)
          (λ q. agree (has2 q) (let_go has2 (of_term z) q) (λ k. and_from (has2 q) (not (same_item q (of_term z)) || has_item rest q) k (stays q)) (λ k. (and_parts (has2 q) (not (same_item q (of_term z)) || has_item rest q) k).0)) (λ a b. refl) s2
        where
          stays : (q : Item) → (not (same_item q (of_term z)) || has_item rest q) ≡ true
          stays q = elim (item_tells q (of_term z)) [
            | inl e ↦ or_right (not (same_item q (of_term z))) (has_item rest q) (ap (has_item rest) e.1 ∙ h)
            | inr d ↦ or_left (not (same_item q (of_term z))) (has_item rest q) (ap not d.0)
          ]
      by false h =
          image_by (without_node g2 u) (number_in n) (number_in n) (without_item has2 (of_term z)) (let_go has2 (of_term z)) (without_joins (has_join rest) (of_term z)) (has_join rest) (λ q. refl)
          (λ q. ap (λ b. has2 q && b) (goes q)) (λ a b. stay a b)
          (node_dropped g2 (number_in n) has2 (has_join rest) s2 ends2 (of_term z) u on number)
        where
          goes : (q : Item) → not (same_item q (of_term z)) ≡ (not (same_item q (of_term z)) || has_item rest q)
          goes q = elim (item_tells q (of_term z)) [
            | inl e ↦ (let off : has_item rest q ≡ false = ap (has_item rest) e.1 ∙ h in sym (ap (λ b. not (same_item q (of_term z)) || b) off ∙ or-false (not (same_item q (of_term z)))))
            | inr d ↦ ap not d.0 ∙ sym (ap (λ b. not b || has_item rest q) d.0)
          ]

          free : (q : Item) → has_item rest q ≡ true → same_item q (of_term z) ≡ false
          free q k = item_apart q (of_term z) (λ e. true≢false (sym k ∙ ap (has_item rest) e ∙ h))

          stay : (a b : Item) → without_joins (has_join rest) (of_term z) a b ≡ has_join rest a b
          stay a b = agree (without_joins (has_join rest) (of_term z) a b) (has_join rest a b) (λ k. (and_parts (has_join rest a b) (not (same_item a (of_term z) || same_item b (of_term z))) k).0)
              (λ k. (let e = joined_items rest a b k in and_from (has_join rest a b) (not (same_item a (of_term z) || same_item b (of_term z))) k (ap not (or_from (same_item a (of_term z)) (same_item b (of_term z)) (free a e.0) (free b e.1)))))

  -- the subject and the object are there
  has_x : has1 x ≡ true
  has_x = and_from (has_item s x) (not (same_item x w)) (found_one (λ v. is_part v x) s t among (subject_part t)) refl

  has_y : has1 y ≡ true
  has_y = and_from (has_item s y) (not (same_item y w)) (found_one (λ v. is_part v y) s t among (object_part t)) refl

  place : (z : Term) → has1 (of_term z) ≡ true → (u : ℕ) × (number_in n (of_term z) ≡ Some u) × (node_there n g (of_term z) ≡ Some u)
  place z h =
      let old = (and_parts (has_item s (of_term z)) (not (same_item (of_term z) w)) h).0 in
      let l = r.labelled (of_term z) old in
      (l.0, l.1, is_there g (number_in n) (has_item s) (has_join s) r (of_term z) l.0 old l.1)

  abbrev has2 : Item → Bool
  has2 = let_go has1 x

  abbrev steps_x : List Step
  steps_x = drop_with g (node_there n g x) m

  abbrev g2 : Graph
  g2 = after steps_x g1

  image2 : IsImage g2 (number_in n) has2 (has_join rest)
  image2 = (let u = place t.subject has_x in
      subst (λ o. IsImage (after (drop_with g o m) g1) (number_in n) has2 (has_join rest)) (sym u.2) (term_dropped g1 has1 image1 ends1 t.subject u.0 has_x has_x u.1))

  keeps : (has : Item → Bool) (p q : Item) → has q ≡ true → has_item rest q ≡ true → let_go has p q ≡ true
  keeps has p q h k = and_from (has q) (not (same_item q p) || has_item rest q) h (or_right (not (same_item q p)) (has_item rest q) k)

  ends2 : Ends has2 (has_join rest)
  ends2 a b h = (let e = joined_items rest a b h in (keeps has1 x a (other_item a e.0) e.0, keeps has1 x b (other_item b e.1) e.1))

  -- what is left are the items of the other triples
  left : (q : Item) → has1 q ≡ true → (q ≡ x → has_item rest q ≡ true) → (q ≡ y → has_item rest q ≡ true) → has_item rest q ≡ true
  left q h from onto =
      let parts = and_parts (has_item s q) (not (same_item q w)) h in
      let u = find_one (λ v. is_part v q) s parts.0 in
      elim (cases_Bool (same_triple t u.0)) [
        | inl e ↦ elim (part_cases t q (subst (λ v. is_part v q ≡ true) (sym (here u.0 e)) u.2)) [
          | inl a ↦ from a
          | inr b ↦ elim b [
            | inl c ↦ absurd (true≢false (sym (same_by q w c) ∙ not-true (same_item q w) parts.1))
            | inr d ↦ onto d
          ]
        ]
        | inr off ↦ found_one (λ v. is_part v q) rest u.0 (others_among s t u.0 u.1 (λ e. true≢false (sym (triple_by u.0 e) ∙ off))) u.2
      ]
    where
      here : (v : Triple) → same_triple t v ≡ true → t ≡ v
      here v e = (let z = item_is (of_triple t) (of_triple v) e in unwrap v z)
        where
          unwrap : (v : Triple) → of_triple t ≡ of_triple v → t ≡ v
          unwrap v z = cc

      triple_by : (v : Triple) → t ≡ v → same_triple t v ≡ true
      triple_by v e = same_by (of_triple t) (of_triple v) (ap of_triple e)

  gone_unless : (has : Item → Bool) (p q : Item) → let_go has p q ≡ true → (has q ≡ true) × (q ≡ p → has_item rest q ≡ true)
  gone_unless has p q h =
      let parts = and_parts (has q) (not (same_item q p) || has_item rest q) h in (
        parts.0,
        λ e. elim (or_cases (not (same_item q p)) (has_item rest q) parts.1) [
          | inl off ↦ absurd (true≢false (sym (same_by q p e) ∙ not-true (same_item q p) off))
          | inr k ↦ k
        ],
      )

  -- where the object is the subject, its node has gone already
  once : same_term t.object t.subject ≡ true → (q : Item) → has2 q ≡ has_item rest q
  once same q = agree (has2 q) (has_item rest q)
      (λ h. (let k = gone_unless has1 x q h in left q k.0 k.1 (λ e. k.1 (e ∙ item_is y x same)))) (λ k. keeps has1 x q (other_item q k) k)

  twice : (q : Item) → let_go has2 y q ≡ has_item rest q
  twice q = agree (let_go has2 y q) (has_item rest q)
      (λ h. (let j = gone_unless has2 y q h in let k = gone_unless has1 x q j.0 in left q k.0 k.1 j.1)) (λ k. keeps has2 y q (keeps has1 x q (other_item q k) k) k)

  abbrev steps_y : Bool → List Step
  steps_y b = if b then [] else drop_with g (node_there n g y) m

  image3 : (b : Bool) → same_term t.object t.subject ≡ b → IsImage (after (steps_y b) g2) (number_in n) (has_item rest) (has_join rest)
  image3 true same = image_by g2 (number_in n) (number_in n) has2 (has_item rest) (has_join rest) (has_join rest) (λ q. refl) (once same) (λ a b. refl) image2
  image3 false other =
      let u = place t.object has_y in
      let on : has2 y ≡ true = and_from (has1 y) (not (same_item y x) || has_item rest y) has_y (or_left (not (same_item y x)) (has_item rest y) (ap not other)) in
      subst (λ o. IsImage (after (drop_with g o m) g2) (number_in n) (has_item rest) (has_join rest)) (sym u.2)
      (image_by (after (drop_with g (Some u.0) m) g2) (number_in n) (number_in n) (let_go has2 y) (has_item rest) (has_join rest) (has_join rest) (λ q. refl) twice (λ a b. refl)
      (term_dropped g2 has2 image2 ends2 t.object u.0 on has_y u.1))

  pub image_deleted : IsImage (after (delete_steps n g t m) g) (number_in n) (has_item rest) (has_join rest)
  image_deleted =
      subst (λ k. IsImage k (number_in n) (has_item rest) (has_join rest)) (sym (after_joined steps_x (steps_y (same_term t.object t.subject)) g1)) (image3 (same_term t.object t.subject) refl)

-- Where a graph with names represents triples, an accepted delete of one of them leaves one that represents the others.
pub delete_keeps : (limits : Limits) (g h : Graph) (n : Names) (s : List Triple) (t : Triple) (c : List Step) → Represents g n s
    → delete_change n g t ≡ Some c → apply c g limits ≡ Ok h → Represents h n (without_triple s t)
delete_keeps limits g h n s t c r found e = by (node_there n g (of_triple t)) refl found
  where
    by : (o : Option ℕ) → node_there n g (of_triple t) ≡ o → deletion n g t o ≡ Some c → Represents h n (without_triple s t)
    by None there d = absurd (true≢false (sym (ap is_some d)))
    by (Some m) there d =
        let same : delete_steps n g t m ≡ c = cc in
        subst (λ k. Represents k n (without_triple s t)) (sym (leaves_after (delete_steps n g t m) g h limits (ap (λ k. apply k g limits) same ∙ e))) (record {
          distinct = distinct_without s t r.distinct;
          spelled = λ u among. r.spelled u (among_others s t u among).0;
          image = image_deleted g n s t r.image m there;
        })

pub delete_kept : (n : Names) (g : Graph) (t : Triple) (c : List Step) → delete_change n g t ≡ Some c → DeleteKeeps n g t c
delete_kept n g t c found limits h s r e = delete_keeps limits g h n s t c r found e
