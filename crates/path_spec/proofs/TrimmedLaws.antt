-- An expression has the answers of what is left of it at its front.
use Rattle.std.proofs.Common.{◌≡◌, ℕ, ◌⊎◌, inl, inr, List, [], ◌∷◌, ◌++◌, refl, sym, ap, ◌∙◌, subst, true, false, Bool, cond, true≢false, append-nil, append_assoc}
use Rattle.std.specs.Prelude.{◌↔◌, ◌&&◌}
use Rattle.std.specs.List.{AllByRecursion}
use Rattle.graph_spec.specs.Shapes.{Shape}
use Rattle.graph_spec.specs.Walks.{Leads}
use Rattle.path_spec.specs.Trees.{star, plus, opt, child, below, Sep, Expr, only, or, Seq, last, then, Item, once, signed}
use Rattle.path_spec.specs.Matches.{Word, joined, AnyWord, Then, Pieces, Matches, MatchesSeq, MatchesItem, MatchesAtom}
use Rattle.path_spec.specs.Tests.{seq_matches, item_matches}
use Rattle.path_spec.specs.Trimmed.{trimmed_item, first_trimmed, from_required, trimmed_seq, trimmed}
use Rattle.path_spec.specs.PathAnswers.{IsAnswer, AreAnswers}
use Rattle.path_spec.proofs.WordTests.{says_seq, says_item}

-- the word ends in one of the kind that isn't empty
abbrev EndsIn : (Word → Type 0) → Word → Type 0
EndsIn Q w = (front : Word) × (first : List ℕ) × (others : Word) × Q (first ∷ others) × (w ≡ front ++ (first ∷ others))

-- Each word of the second kind is one of the first, and each word of the first ends in one of the second.
record IsCut (P Q : Word → Type 0) : Type 0 where
  pub kept : (w : Word) → Q w → P w
  pub none : P [] → Q []
  pub ends : (t : List ℕ) (w : Word) → P (t ∷ w) → EndsIn Q (t ∷ w)

further : (Q : Word → Type 0) (a b w : Word) → w ≡ a ++ b → EndsIn Q b → EndsIn Q w
further Q a b w e (front, first, others, q, h) = (a ++ front, first, others, q, e ∙ ap (λ x. a ++ x) h ∙ sym (append_assoc a front (first ∷ others)))

cut_same : (P : Word → Type 0) → IsCut P P
cut_same P = record { kept = λ w p. p; none = λ p. p; ends = λ t w p. ([], t, w, p, refl) }

cut_twice : (P Q R : Word → Type 0) → IsCut P Q → IsCut Q R → IsCut P R
cut_twice P Q R h k = record {
  kept = λ w r. h.kept w (k.kept w r);
  none = λ p. k.none (h.none p);
  ends = λ t w p. let f = h.ends t w p in further R f.0 (f.1 ∷ f.2) (t ∷ w) f.4 (k.ends f.1 f.2 f.3);
}

cut_either : (P P2 Q Q2 : Word → Type 0) → IsCut P P2 → IsCut Q Q2 → IsCut (λ w. P w ⊎ Q w) (λ w. P2 w ⊎ Q2 w)
cut_either P P2 Q Q2 h k = record {
  kept = λ w t. elim t [ inl p ↦ inl (h.kept w p) | inr q ↦ inr (k.kept w q) ];
  none = λ t. elim t [ inl p ↦ inl (h.none p) | inr q ↦ inr (k.none q) ];
  ends = λ t w m. elim m [
    | inl p ↦ (let f = h.ends t w p in (f.0, f.1, f.2, inl f.3, f.4))
    | inr q ↦ (let f = k.ends t w q in (f.0, f.1, f.2, inr f.3, f.4))
  ];
}

-- the front of a word of two parts is cut
cut_then : (P Q R : Word → Type 0) → IsCut P Q → IsCut (Then P R) (Then Q R)
cut_then P Q R h = record {
  kept = λ w m. (m.0, m.1, h.kept m.0 m.2, m.3, m.4);
  none = λ m. nothing m.0 m.1 m.2 m.3 m.4;
  ends = λ t w m. some m.0 m.1 t w m.2 m.3 m.4;
}
  where
    nothing : (a b : Word) → P a → R b → [] ≡ a ++ b → Then Q R []
    nothing [] b p r e = ([], b, h.none p, r, e)
    nothing (x ∷ a) b p r e = cc

    some : (a b : Word) (t : List ℕ) (w : Word) → P a → R b → t ∷ w ≡ a ++ b → EndsIn (Then Q R) (t ∷ w)
    some [] b t w p r e = ([], t, w, ([], b, h.none p, r, e), refl)
    some (x ∷ a) b t w p r e =
        let f = h.ends x a p in
        (f.0, f.1, f.2 ++ b, (f.1 ∷ f.2, b, f.3, r, refl), e ∙ ap (λ v. v ++ b) f.4 ∙ append_assoc f.0 (f.1 ∷ f.2) b)

-- the first of two parts may be empty, and the second not
cut_behind : (P R S : Word → Type 0) → P [] → (R [] → ⊥) → IsCut R S → IsCut (Then P R) S
cut_behind P R S empty some h = record {
  kept = λ w s. ([], w, empty, h.kept w s, refl);
  none = λ m. nothing m.0 m.1 m.3 m.4;
  ends = λ t w m. further S m.0 m.1 (t ∷ w) m.4 (behind m.1 m.3);
}
  where
    nothing : (a b : Word) → R b → [] ≡ a ++ b → S []
    nothing [] b r e = h.none (subst R (sym e) r)
    nothing (x ∷ a) b r e = cc

    behind : (b : Word) → R b → EndsIn S b
    behind [] r = absurd (some r)
    behind (x ∷ b) r = h.ends x b r

-- the last piece that isn't empty
last_piece : (P : Word → Type 0) (ps : List Word) → AllByRecursion P ps → (t : List ℕ) (w : Word) → t ∷ w ≡ joined ps → EndsIn P (t ∷ w)
last_piece P [] all t w e = cc
last_piece P (p ∷ ps) all t w e = by (joined ps) refl (λ x v h. last_piece P ps all.1 x v h)
  where
    by : (v : Word) → joined ps ≡ v → ((x : List ℕ) (v : Word) → x ∷ v ≡ joined ps → EndsIn P (x ∷ v)) → EndsIn P (t ∷ w)
    by [] h again = ([], t, w, subst P (sym (e ∙ ap (λ x. p ++ x) h ∙ append-nil p)) all.0, refl)
    by (x ∷ v) h again = further P p (joined ps) (t ∷ w) e (subst (EndsIn P) (sym h) (again x v (sym h)))

cut_star : (P : Word → Type 0) → IsCut (Pieces P) (λ w. (w ≡ []) ⊎ P w)
cut_star P = record {
  kept = λ w m. elim m [ inl e ↦ ([], tt, e) | inr p ↦ (w ∷ [], (p, tt), sym (append-nil w)) ];
  none = λ m. inl refl;
  ends = λ t w m. let f = last_piece P m.0 m.1 t w m.2 in (f.0, f.1, f.2, inr f.3, f.4);
}

cut_plus : (P : Word → Type 0) → IsCut (Then P (Pieces P)) P
cut_plus P = record {
  kept = λ w p. (w, [], p, ([], tt, refl), sym (append-nil w));
  none = λ m. nothing m.0 m.1 m.2 m.4;
  ends = λ t w m. last_piece P (m.0 ∷ m.3.0) (m.2, m.3.1) t w (m.4 ∙ ap (λ x. m.0 ++ x) m.3.2);
}
  where
    nothing : (a b : Word) → P a → [] ≡ a ++ b → P []
    nothing [] b p e = p
    nothing (x ∷ a) b p e = cc

cut_item : (i : Item) → IsCut (MatchesItem i) (MatchesItem (trimmed_item i))
cut_item (once a) = cut_same (MatchesAtom a)
cut_item (signed a star) = cut_star (MatchesAtom a)
cut_item (signed a plus) = cut_plus (MatchesAtom a)
cut_item (signed a opt) = cut_same (MatchesItem (signed a opt))

cut_first : (s : Seq) → IsCut (MatchesSeq s) (MatchesSeq (first_trimmed s))
cut_first (last i) = cut_item i
cut_first (then i child s) = cut_then (MatchesItem i) (MatchesItem (trimmed_item i)) (MatchesSeq s) (cut_item i)
cut_first (then i below s) = cut_then (MatchesItem i) (MatchesItem (trimmed_item i)) (Then AnyWord (MatchesSeq s)) (cut_item i)

some_seq : (s : Seq) → seq_matches s [] ≡ false → MatchesSeq s [] → ⊥
some_seq s h m = true≢false (sym ((says_seq s).is_yes [] m) ∙ h)

-- a sequence by its separator, behind an item that may be empty
cut_past : (i : Item) (p : Sep) (s : Seq) (Q : Word → Type 0) → item_matches i [] ≡ true → seq_matches s [] ≡ false → IsCut (MatchesSeq s) Q → IsCut (MatchesSeq (then i p s)) Q
cut_past i child s Q empty some h = cut_behind (MatchesItem i) (MatchesSeq s) Q ((says_item i).yes_is [] empty) (some_seq s some) h
cut_past i below s Q empty some h =
    cut_behind (MatchesItem i) (Then AnyWord (MatchesSeq s)) Q ((says_item i).yes_is [] empty) (λ m. none_below m.0 m.1 m.3 m.4)
    (cut_behind AnyWord (MatchesSeq s) Q tt (some_seq s some) h)
  where
    none_below : (a b : Word) → MatchesSeq s b → [] ≡ a ++ b → ⊥
    none_below [] b m e = some_seq s some (subst (MatchesSeq s) (sym e) m)
    none_below (x ∷ a) b m e = cc

rest_some : (i : Item) (p : Sep) (s : Seq) → item_matches i [] ≡ true → seq_matches (then i p s) [] ≡ false → seq_matches s [] ≡ false
rest_some i child s h k = sym (ap (λ b. b && seq_matches s []) h) ∙ k
rest_some i below s h k = sym (ap (λ b. b && seq_matches s []) h) ∙ k

cut_required : (s : Seq) → seq_matches s [] ≡ false → IsCut (MatchesSeq s) (MatchesSeq (from_required s))
cut_required (last i) some = cut_same (MatchesItem i)
cut_required (then i p s) some = by (item_matches i []) refl (λ h. cut_required s h)
  where
    by : (b : Bool) → item_matches i [] ≡ b → (seq_matches s [] ≡ false → IsCut (MatchesSeq s) (MatchesSeq (from_required s))) → IsCut (MatchesSeq (then i p s)) (MatchesSeq (cond b (from_required s) (then i p s)))
    by true h more = let k = rest_some i p s h some in cut_past i p s (MatchesSeq (from_required s)) h k (more k)
    by false h more = cut_same (MatchesSeq (then i p s))

cut_seq : (s : Seq) → IsCut (MatchesSeq s) (MatchesSeq (trimmed_seq s))
cut_seq s = by (seq_matches s []) refl
  where
    by : (b : Bool) → seq_matches s [] ≡ b → IsCut (MatchesSeq s) (MatchesSeq (first_trimmed (cond b s (from_required s))))
    by true h = cut_first s
    by false h = cut_twice (MatchesSeq s) (MatchesSeq (from_required s)) (MatchesSeq (first_trimmed (from_required s))) (cut_required s h) (cut_first (from_required s))

cut : (e : Expr) → IsCut (Matches e) (Matches (trimmed e))
cut (only s) = cut_seq s
cut (or s e) = cut_either (MatchesSeq s) (MatchesSeq (trimmed_seq s)) (Matches e) (Matches (trimmed e)) (cut_seq s) (cut e)

-- a walk from one of its nodes on
walk_from : (s : Shape) (front : Word) (t : List ℕ) (w : Word) (u v : ℕ) → Leads s u (front ++ (t ∷ w)) v → (x : ℕ) × Leads s x (t ∷ w) v
walk_from s [] t w u v h = (u, h)
walk_from s (f ∷ []) t w u v h = (h.1, h.3)
walk_from s (f ∷ g ∷ front) t w u v h = walk_from s (g ∷ front) t w h.1 v h.3

answer_trimmed : (s : Shape) (e : Expr) (v : ℕ) → IsAnswer s e v → IsAnswer s (trimmed e) v
answer_trimmed s e v ([], m, u, walk) = absurd walk
answer_trimmed s e v (t ∷ w, m, u, walk) =
    let f = (cut e).ends t w m in
    let x = walk_from s f.0 f.1 f.2 u v (subst (λ k. Leads s u k v) f.4 walk) in
    (f.1 ∷ f.2, f.3, x.0, x.1)

answer_whole : (s : Shape) (e : Expr) (v : ℕ) → IsAnswer s (trimmed e) v → IsAnswer s e v
answer_whole s e v (w, m, u, walk) = (w, (cut e).kept w m, u, walk)

-- the law
pub answers_trimmed : (s : Shape) (e : Expr) (nodes : List ℕ) → AreAnswers s (trimmed e) nodes ↔ AreAnswers s e nodes
answers_trimmed s e nodes = (
  λ a. record { rising = a.rising; sound = λ v h. answer_whole s e v (a.sound v h); complete = λ v k. a.complete v (answer_trimmed s e v k) },
  λ a. record { rising = a.rising; sound = λ v h. answer_trimmed s e v (a.sound v h); complete = λ v k. a.complete v (answer_whole s e v k) },
)
