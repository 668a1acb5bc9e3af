-- A prefix of what some lines print.
use Rattle.std.proofs.Common.{◌≡◌, ℕ, List, [], ◌∷◌, ◌++◌, refl, sym, ap, ◌∙◌, append_assoc, append-nil, subst, ◌⊎◌, inl, inr}
use Rattle.script_interpreter.specs.Rules.{Rules}
use Rattle.graph_spec.specs.Lines.{Line}
use Rattle.script_interpreter.specs.Runs.{Progress, RunsLine, RunsLines, PrintsPrefix, RunsPrefix}

-- of two ways to part a text, the one is a prefix of the other
prefixes : (a b c d : List ℕ) → a ++ b ≡ c ++ d → ((m : List ℕ) × (a ≡ c ++ m)) ⊎ ((m : List ℕ) × (c ≡ a ++ m) × (b ≡ m ++ d))
prefixes [] b c d e = inr (c, refl, e)
prefixes (x ∷ a) b [] d e = inl (x ∷ a, refl)
prefixes (x ∷ a) b (y ∷ c) d e =
    let head : x ≡ y = cc in
    let tail : a ++ b ≡ c ++ d = cc in
    elim (prefixes a b c d tail) [
      | inl p ↦ inl (p.0, ap (λ z. z ∷ a) head ∙ ap (λ l. y ∷ l) p.1)
      | inr p ↦ inr (p.0, ap (λ z. z ∷ c) (sym head) ∙ ap (λ l. x ∷ l) p.1, p.2)
    ]

-- the lines begin with one that is taken
prefix_on : {rules : Rules} (p : Progress) (l : Line) (text : List ℕ) (mid : Progress) (ls : List Line) (output : List ℕ)
    → RunsLine rules p l text mid → RunsPrefix rules mid ls output → RunsPrefix rules p (l ∷ ls) (text ++ output)
prefix_on p l text mid ls output t r = record {
  before = l ∷ r.before;
  left = r.left;
  printed = text ++ r.printed;
  prefix = r.prefix;
  last = r.last;
  lines_are = ap (λ x. l ∷ x) r.lines_are;
  takes = (text, r.printed, mid, t, r.takes, refl);
  next = r.next;
  output_is = ap (λ o. text ++ o) r.output_is ∙ sym (append_assoc text r.printed r.prefix);
}

-- some lines are taken, and `more` is what may come next: each prefix of the whole is a prefix of a run
pub prefix_of : {rules : Rules} (p : Progress) (lines : List Line) (printed : List ℕ) (q : Progress) → RunsLines rules p lines printed q
    → (left : List Line) (more : List ℕ) → ((f r : List ℕ) → more ≡ f ++ r → PrintsPrefix rules q left f)
    → (prefix rest : List ℕ) → printed ++ more ≡ prefix ++ rest → RunsPrefix rules p (lines ++ left) prefix
prefix_of {rules} p [] printed q t left more next prefix rest e = record {
  before = [];
  left = left;
  printed = [];
  prefix = prefix;
  last = p;
  lines_are = refl;
  takes = (refl, refl);
  next = subst (λ x. PrintsPrefix rules x left prefix) t.1 (next prefix rest (ap (λ x. x ++ more) (sym t.0) ∙ e));
  output_is = refl;
}
prefix_of {rules} p (l ∷ ls) printed q t left more next prefix rest e =
    elim (prefixes t.0 (t.1 ++ more) prefix rest (sym (append_assoc t.0 t.1 more) ∙ ap (λ x. x ++ more) (sym t.5) ∙ e)) [
      | inl m ↦ record {
        before = [];
        left = l ∷ (ls ++ left);
        printed = [];
        prefix = prefix;
        last = p;
        lines_are = refl;
        takes = (refl, refl);
        next = inr (m.0, inl (t.2, subst (λ x. RunsLine rules p l x t.2) m.1 t.3));
        output_is = refl;
      }
      | inr m ↦ subst (RunsPrefix rules p (l ∷ (ls ++ left))) (sym m.1)
          (prefix_on p l t.0 t.2 (ls ++ left) m.0 t.3 (prefix_of t.2 ls t.1 q t.4 left more next m.0 rest m.2))
    ]

-- nothing more comes
pub prefix_of_taken : {rules : Rules} (p : Progress) (lines : List Line) (printed : List ℕ) (q : Progress) → RunsLines rules p lines printed q
    → (left : List Line) (prefix rest : List ℕ) → printed ≡ prefix ++ rest → RunsPrefix rules p (lines ++ left) prefix
prefix_of_taken {rules} p lines printed q t left prefix rest e =
    prefix_of p lines printed q t left [] (λ f r n. subst (PrintsPrefix rules q left) (nil_prefix f r n) (inl refl)) prefix rest (append-nil printed ∙ e)
  where
    nil_prefix : (f r : List ℕ) → [] ≡ f ++ r → [] ≡ f
    nil_prefix [] r n = refl
    nil_prefix (x ∷ f) r n = cc
