-- Names with the same numbers: a graph represents the same triples with them, and they give the same changes.
use Rattle.std.proofs.Common.{◌≡◌, ℕ, List, [], ◌∷◌, ◌++◌, length, Option, None, Some, refl, sym, ap, ◌∙◌}
use Rattle.std.specs.Prelude.{if◌then◌else◌}
use Rattle.graph_spec.specs.Graphs.{Graph}
use Rattle.change_spec.specs.Steps.{Step, link, drop}
use Rattle.triples_read.specs.declared.term.Triple.{Triple}
use Rattle.term_table.specs.Terms.{same_term}
use Rattle.triple_names.specs.declared.inserting.Placed.{Placed}
use Rattle.triple_names.specs.Items.{Item, of_term, of_triple, term_label, predicate_label, has_item, has_join}
use Rattle.triple_names.specs.Names.{Names, AreSameNames, number_in, if_live, node_there}
use Rattle.triple_names.specs.TripleChanges.{given_number, next_after, object_there, placed_in, node_unless, insert_steps, drop_with, deletion, delete_change, noted}
use Rattle.triple_names.specs.Represented.{Represents}
use Rattle.triple_names.proofs.NumberLaws.{named, number_noted}
use Rattle.triple_names.proofs.ImageSteps.{image_by}

pub same_back : (n k : Names) → AreSameNames n k → AreSameNames k n
same_back n k same p = sym (same p)

pub same_through : (n m k : Names) → AreSameNames n m → AreSameNames m k → AreSameNames n k
same_through n m k first second p = first p ∙ second p

-- a graph represents the same triples with them
pub represents_by : (g : Graph) (n k : Names) (s : List Triple) → AreSameNames k n → Represents g n s → Represents g k s
represents_by g n k s same r = record {
  distinct = r.distinct;
  spelled = r.spelled;
  image = image_by g (number_in n) (number_in k) (has_item s) (has_item s) (has_join s) (has_join s) (λ q. sym (same q)) (λ q. refl) (λ a b. refl) r.image;
}

-- and what is noted in both stays the same
pub noted_alike : (n k : Names) (t : Triple) (p : Placed) → AreSameNames n k → AreSameNames (noted t p n) (noted t p k)
noted_alike n k t p same q =
    number_noted n t p q
    ∙ ap (λ f. named (named (named f (of_term t.subject) p.subject) (of_triple t) p.triple) (of_term t.object) p.object q) (λ i x. same x i)
    ∙ sym (number_noted k t p q)

module _ (n k : Names) (g : Graph) (t : Triple) (same : AreSameNames n k) where
  there_alike : (p : Item) → node_there n g p ≡ node_there k g p
  there_alike p = ap (if_live g) (same p)

  object_alike : (subject : ℕ) → object_there n g t subject ≡ object_there k g t subject
  object_alike subject = λ i. if same_term t.object t.subject then Some subject else there_alike (of_term t.object) i

  pub placed_alike : placed_in n g t ≡ placed_in k g t
  placed_alike = λ i.
      let next = length g.allocated in
      let subject = given_number (there_alike (of_term t.subject) i) next in
      let second = next_after (there_alike (of_term t.subject) i) next in
      let third = next_after (there_alike (of_triple t) i) second in
      record {
        subject = subject;
        triple = given_number (there_alike (of_triple t) i) second;
        object = given_number (object_alike subject i) third;
      }

  pub insert_alike : insert_steps n g t ≡ insert_steps k g t
  insert_alike = λ i.
      node_unless (there_alike (of_term t.subject) i) (term_label t.subject)
      ++ (node_unless (there_alike (of_triple t) i) (predicate_label t.predicate)
      ++ (node_unless (object_alike (placed_alike i).subject i) (term_label t.object)
      ++ (link (placed_alike i).subject (placed_alike i).triple ∷ link (placed_alike i).triple (placed_alike i).object ∷ [])))

  deletion_alike : (o : Option ℕ) → deletion n g t o ≡ deletion k g t o
  deletion_alike None = refl
  deletion_alike (Some m) = λ i.
      Some (drop m ∷ (drop_with g (there_alike (of_term t.subject) i) m
      ++ (if same_term t.object t.subject then [] else drop_with g (there_alike (of_term t.object) i) m)))

  pub delete_alike : delete_change n g t ≡ delete_change k g t
  delete_alike = ap (deletion n g t) (there_alike (of_triple t)) ∙ deletion_alike (node_there k g (of_triple t))
