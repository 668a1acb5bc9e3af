-- A text that loads gives a graph that represents the triples of its lines.
use Rattle.std.proofs.Common.{◌≡◌, ◌⊎◌, ℕ, zero, suc, ◌+◌, Bool, true, false, ◌||◌, List, [], ◌∷◌, Option, None, Some, refl, sym, ap, ◌∙◌, subst, inl, inr, is_some, true≢false}
use Rattle.std.specs.Prelude.{IsTrue, ◌↔◌}
use Rattle.std.specs.List.{IsDistinct}
use Rattle.std.specs.Map.{keys_of}
use Rattle.std.specs.FinSet as set
use Rattle.std.proofs.lemmas.Bool.{or_cases, or_left, or_right}
use Rattle.graph_spec.specs.declared.limits.Limits.{Limits}
use Rattle.graph_spec.specs.Graphs.{Graph, empty_graph, edge_cmp, is_live}
use Rattle.graph_spec.specs.Lines.{Line, cut}
use Rattle.triples_read.specs.Lines.{SpellsTriple, Empty}
use Rattle.triples_read.proofs.OneTriple.{one_reading, spelled_not_empty}
use Rattle.triples_read.specs.declared.term.Triple.{Triple}
use Rattle.px_base.specs.Files.{File, Finds}
use Rattle.term_table.specs.Terms.{number_of}
use Rattle.triple_names.specs.Items.{Item, of_term, of_triple, same_triple}
use Rattle.triple_names.specs.Names.{Names, AreSameNames, number_in, triple_number}
use Rattle.triple_names.specs.NameTables.{names_by}
use Rattle.triple_names.specs.Represented.{Represents, is_among}
use Rattle.triple_names.proofs.ItemLaws.{any_with, triple_is, triple_same}
use Rattle.triple_names.proofs.ImageSteps.{image_by}
use Rattle.triple_names.proofs.TableLaws.{term_of_load, triple_by}
use Rattle.graph_load.specs.TripleGraphs.{LoadState, nothing_loaded, names_of}
use Rattle.graph_load.specs.Loads.{Ending, loaded, syntax, limit, Place, at_start, past, LoadsLine, empty, takes, refuses, neither, LoadsFrom, SpelledIn, RepresentsText}
use Rattle.graph_load.specs.declared.loader.Loader.{Loader}
use Rattle.graph_load.specs.Loaders.{load_state, Holds, IsSoundLoader}
use Rattle.graph_load.specs.LoadSteps.{LoadsObservable, NamesObservable, FileEnds, RepresentsFile, LoadsWhole, LoadsWholeFile}
use Rattle.graph_load.proofs.LineSteps.{file_ends, observable_there}
use Rattle.graph_load.proofs.LoadedTriples.{IsRepresented, IsLoadedWith, load_keeps}

-- nothing is loaded, and nothing is represented
none_live : (m : ℕ) → is_live empty_graph m ≡ false
none_live zero = refl
none_live (suc m) = refl

none_numbered : (p : Item) → number_in (names_of nothing_loaded) p ≡ None
none_numbered (of_term x) = refl
none_numbered (of_triple t) = refl

none_distinct : IsDistinct same_triple []
unfolding IsDistinct
none_distinct = tt

nothing_represented : IsRepresented nothing_loaded
nothing_represented = record {
  represents = record {
    distinct = none_distinct;
    spelled = λ t h. absurd (true≢false (sym h));
    image = record {
      labelled = λ p h. absurd (true≢false (sym h));
      once = λ m p q h k. absurd (true≢false (sym h));
      all = λ m h. absurd (true≢false (sym h ∙ none_live m));
      edges = λ u v. ((λ h. absurd (true≢false (sym h ∙ set.contains-empty edge_cmp (u, v)))), (λ w. absurd (true≢false (sym w.2))));
      gone = λ p m h k. absurd (true≢false (sym (ap is_some (sym (none_numbered p) ∙ k))));
    };
  };
  named_parts = λ p. ap is_some (none_numbered p);
}

-- the triples afterwards are those before and those of the lines
record Adds (before : LoadState) (lines : List Line) (after : LoadState) : Type 0 where
  represented : IsRepresented after
  into : (t : Triple) → IsTrue (is_among (keys_of after.triples) t) → IsTrue (is_among (keys_of before.triples) t) ⊎ SpelledIn lines t
  back : (t : Triple) → IsTrue (is_among (keys_of before.triples) t) ⊎ SpelledIn lines t → IsTrue (is_among (keys_of after.triples) t)

same_state : (l m : LoadState) → loaded l ≡ loaded m → l ≡ m
same_state l m e = cc

adds_none : (l : LoadState) → IsRepresented l → Adds l [] l
adds_none l r = record { represented = r; into = λ t h. inl h; back = λ t w. elim w [ inl h ↦ h | inr h ↦ absurd h ] }

-- a line without a triple
adds_empty : (l after : LoadState) (x : Line) (xs : List Line) → Empty x.text → Adds l xs after → Adds l (x ∷ xs) after
adds_empty l after x xs e a = record {
  represented = a.represented;
  into = λ t h. elim (a.into t h) [ inl old ↦ inl old | inr later ↦ inr (inr later) ];
  back = λ t w. elim w [
    | inl old ↦ a.back t (inl old)
    | inr here ↦ elim here [ inl s ↦ absurd (spelled_not_empty x.text t s e) | inr later ↦ a.back t (inr later) ]
  ];
}

-- a line with one
adds_one : (l m after : LoadState) (x : Line) (xs : List Line) (u : Triple) → SpellsTriple x.text u → IsLoadedWith u l m → Adds m xs after → Adds l (x ∷ xs) after
adds_one l m after x xs u spells one a = record {
  represented = a.represented;
  into = λ t h. elim (a.into t h) [
    | inl old ↦ elim (or_cases (is_among (keys_of l.triples) t) (same_triple t u) (sym (among t) ∙ old)) [
      | inl before ↦ inl before
      | inr same ↦ inr (inl (subst (SpellsTriple x.text) (sym (triple_is t u same)) spells))
    ]
    | inr later ↦ inr (inr later)
  ];
  back = λ t w. elim w [
    | inl before ↦ a.back t (inl (among t ∙ or_left (is_among (keys_of l.triples) t) (same_triple t u) before))
    | inr here ↦ elim here [
      | inl s ↦ a.back t (inl (among t ∙ or_right (is_among (keys_of l.triples) t) (same_triple t u) (subst (λ v. same_triple t v ≡ true) (one_reading x.text t u s spells) (triple_same t))))
      | inr later ↦ a.back t (inr later)
    ]
  ];
}
  where
    among : (t : Triple) → is_among (keys_of m.triples) t ≡ (is_among (keys_of l.triples) t || same_triple t u)
    among t = ap (λ ts. is_among ts t) one.triples ∙ any_with (same_triple t) (keys_of l.triples) u

abbrev is_whole : Ending → Bool
is_whole (loaded l) = true
is_whole (syntax n) = false
is_whole (limit n) = false

refused_not : (e : Ending) (l : LoadState) → is_whole e ≡ false → e ≡ loaded l → ⊥
refused_not e l off is = true≢false (sym (ap is_whole is) ∙ off)

-- one line, and those behind it
line_adds : (limits : Limits) (l : LoadState) (p : Place) (x : Line) (xs : List Line) (rest : Place → Ending → Type 0)
    → ((q : Place) (e : Ending) → IsRepresented q.state → rest q e → e ≡ loaded l → Adds q.state xs l)
    → (e : Ending) → IsRepresented p.state → LoadsLine limits p x rest e → e ≡ loaded l → Adds p.state (x ∷ xs) l
line_adds limits l p x xs rest more _ r (empty none e h) is = adds_empty p.state l x xs none (more (past p x p.state) e r h is)
line_adds limits l p x xs rest more _ r (takes t spells m made e h) is =
    let one = load_keeps limits t p.state m r (x.text, spells) made in
    adds_one p.state m l x xs t spells one (more (past p x m) e one.represented h is)
line_adds limits l p x xs rest more _ r (refuses t spells why stop) is = absurd (refused_not (limit (p.lines + 1)) l refl is)
line_adds limits l p x xs rest more _ r (neither nothing none) is = absurd (refused_not (syntax (p.lines + 1)) l refl is)

lines_add : (limits : Limits) (l : LoadState) (ls : List Line) (p : Place) (e : Ending) → IsRepresented p.state → LoadsFrom limits ls p e → e ≡ loaded l → Adds p.state ls l
lines_add limits l [] p e r h is = subst (Adds p.state []) (same_state p.state l (sym h ∙ is)) (adds_none p.state r)
lines_add limits l (x ∷ xs) p e r (inl (long, stop)) is = absurd (refused_not (limit (p.lines + 1)) l refl (sym stop ∙ is))
lines_add limits l (x ∷ xs) p e r (inr (within, line)) is = line_adds limits l p x xs (LoadsFrom limits xs) (lines_add limits l xs) e r line is

-- the loaded graph represents the triples of the text, with the numbers that were given
pub text_represented : (limits : Limits) (text : List ℕ) (l : LoadState) (n : Names) → LoadsFrom limits (cut text) at_start (loaded l) → ((p : Item) → number_in n p ≡ number_in (names_of l) p) → RepresentsText text l.graph n
text_represented limits text l n h same =
    let a = lines_add limits l (cut text) at_start (loaded l) nothing_represented h refl in
    let r = a.represented.represents in (
      keys_of l.triples,
      record {
        distinct = r.distinct;
        spelled = r.spelled;
        image = image_by l.graph (number_in (names_of l)) (number_in n) _ _ _ _ (λ p. sym (same p)) (λ q. refl) (λ b c. refl) r.image;
      },
      (λ t. ((λ k. elim (a.into t k) [ inl none ↦ absurd (true≢false (sym none)) | inr there ↦ there ]), (λ there. a.back t (inr there)))),
    )

-- what the open file loads to, the file of that name loads to
pub whole_there : (limits : Limits) (files : Option (List File)) (name : List ℕ) (left : Option (List ℕ)) → Finds files name true left
    → (l : Loader) → LoadsWhole limits left l → LoadsWholeFile limits files name l
whole_there limits files name left finds l w = (w.0, w.1, file_ends limits files name left finds (loaded (load_state l w.0)) w.2)

-- it loads to the graph of the loader
pub file_graph : (limits : Limits) (files : Option (List File)) (name : List ℕ) (l : Loader) → LoadsWholeFile limits files name l → LoadsObservable limits files name (loaded l.graph.graph)
file_graph limits files name l w = observable_there limits files name (loaded (load_state l w.0)) w.2

-- the numbers in the loader's tables are those of what it loaded
same_names : (l : Loader) (triples : List (Triple × ℕ)) (n : Names) → IsSoundLoader l → Holds l triples → n ≡ (names_by l.terms l.predicates l.known [] []).names
    → AreSameNames n (names_of (load_state l triples))
same_names l triples n sound holds is (of_term x) = ap (λ (m : Names). number_of m.terms x) is ∙ term_of_load l.terms x
same_names l triples n sound holds is (of_triple t) = ap (λ (m : Names). triple_number m.triples t) is ∙ triple_by l.terms l.predicates l.known [] t sound.known tt ∙ sym (holds t)

-- the text loads to its graph with them
pub file_named : (limits : Limits) (files : Option (List File)) (name : List ℕ) (l : Loader) (n : Names) → IsSoundLoader l → n ≡ (names_by l.terms l.predicates l.known [] []).names
    → LoadsWholeFile limits files name l → NamesObservable limits files name l.graph.graph n
file_named limits files name l n sound is (triples, holds, ends) = by files ends
  where
    by : (seen : Option (List File)) → FileEnds limits seen name (loaded (load_state l triples)) → NamesObservable limits seen name l.graph.graph n
    by None ends = tt
    by (Some seen) (text, there, lines) = (text, there, record { state = load_state l triples; ends = lines; graph = refl; names = same_names l triples n sound holds is })

-- and the graph with them represents its triples
pub file_represented : (limits : Limits) (files : Option (List File)) (name : List ℕ) (l : Loader) (n : Names) → IsSoundLoader l → n ≡ (names_by l.terms l.predicates l.known [] []).names
    → LoadsWholeFile limits files name l → RepresentsFile files name l.graph.graph n
file_represented limits files name l n sound is (triples, holds, ends) = by files ends
  where
    by : (seen : Option (List File)) → FileEnds limits seen name (loaded (load_state l triples)) → RepresentsFile seen name l.graph.graph n
    by None ends = tt
    by (Some seen) (text, there, lines) = (text, there, text_represented limits text (load_state l triples) n lines (same_names l triples n sound holds is))
