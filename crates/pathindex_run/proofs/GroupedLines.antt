-- Groups in the lines of a script, as a run takes them.
use Rattle.std.proofs.Common.{◌≡◌, ℕ, suc, Bool, false, List, [], ◌∷◌, ◌++◌, Option, None, Some, refl, sym, ap, subst, arith, inl, inr}
use Rattle.std.specs.Prelude.{codes, slice_get, is_some}
use Rattle.graph_spec.specs.Lines.{Line}
use Rattle.change_spec.specs.Steps.{Step}
use Rattle.script_read.specs.Commands.{Command, change, begin, end, IsSpelled, SpellsSomething, SpellsNothing}
use Rattle.script_read.proofs.CommandLemmas.{keyword, lead, no_query, silent, free}
use Rattle.script_interpreter.specs.Rules.{Rules}
use Rattle.script_interpreter.specs.States.{State}
use Rattle.script_interpreter.specs.Runs as runs
use Rattle.script_interpreter.specs.Runs.{Progress, Group, RunsLines, Does, Obeys, TakesLine, IsBadIn}
use Rattle.script_interpreter.proofs.GroupLemmas.{one_word}
use Rattle.pathindex_run.specs.Headline.{IsInner, IsOutside, AreGrouped}

-- lines outside of groups
pub all_outside : (lines : List Line) → ((i : ℕ) (l : Line) → slice_get lines i ≡ Some l → IsOutside l.text) → AreGrouped false lines
all_outside [] h = refl
all_outside (l ∷ ls) h = inr (h 0 l refl, all_outside ls (λ i m e. h (suc i) m e))

-- no command that stands alone is the first line of a group
alone_begin : (rules : Rules) (s : State) (c : Command) (printed : List ℕ) (refuses : Bool) (t : State) → Obeys rules s c printed refuses t → lead (keyword c) ≡ lead (codes "begin") → ⊥
alone_begin rules s _ _ _ _ (runs.changes x _ _ _ _) e = (no_query x).no_begin e
alone_begin rules s _ _ _ _ (runs.inserts _ _ _ _ _) e = omega (arith, e)
alone_begin rules s _ _ _ _ (runs.deletes _ _ _ _ _ _ _) e = omega (arith, e)
alone_begin rules s _ _ _ _ (runs.misses _ _) e = omega (arith, e)
alone_begin rules s _ _ _ _ (runs.asks_path _ _ _ _ _) e = omega (arith, e)
alone_begin rules s _ _ _ _ (runs.asks_branch _ _ _ _ _) e = omega (arith, e)
alone_begin rules s _ _ _ _ (runs.explains _ _ _ _ _) e = omega (arith, e)
alone_begin rules s _ _ _ _ (runs.checks _ _ _ _) e = omega (arith, e)
alone_begin rules s _ _ _ _ (runs.lists _ _ _ _) e = omega (arith, e)
alone_begin rules s _ _ _ _ (runs.measures _ _) e = omega (arith, e)
alone_begin rules s _ _ _ _ (runs.saves _ _) e = omega (arith, e)
alone_begin rules s _ _ _ _ (runs.forgets _ _) e = omega (arith, e)
alone_begin rules s _ _ _ _ (runs.lacks _ _) e = omega (arith, e)

does_begin : (rules : Rules) (s : State) (line printed : List ℕ) (refuses : Bool) (t : State) → Does rules s line printed refuses t → IsSpelled line begin → ⊥
does_begin rules s line _ _ _ (runs.nothing q) b = silent line q begin b
does_begin rules s line _ _ _ (runs.over p) b = free rules.limits line begin b tt p
does_begin rules s line _ _ _ (runs.command c h w printed refuses t o) b = alone_begin rules s c printed refuses t o (ap lead (one_word line c begin h b))

no_step_end : (line : List ℕ) (x : Step) → IsSpelled line (change x) → IsSpelled line end → ⊥
no_step_end line x h e = (no_query x).no_end (ap lead (one_word line (change x) end h e))

no_inner_end : (line : List ℕ) → IsInner line → IsSpelled line end → ⊥
no_inner_end line (inl q) e = silent line q end e
no_inner_end line (inr x) e = no_step_end line x.0 x.1 e

-- where a line is taken, the groups go on behind it
next_grouped : (rules : Rules) (s : State) (number : ℕ) (l : Line) (ls : List Line) (group : Option Group) (printed : List ℕ) (refuses : Bool) (t : State) (left : Option Group)
    → TakesLine rules s number l.text group printed refuses t left → AreGrouped (is_some group) (l ∷ ls) → AreGrouped (is_some left) ls
next_grouped rules s number l ls _ _ _ _ _ (runs.outside printed refuses t d) (inl g) = absurd (does_begin rules s l.text printed refuses t d g.0)
next_grouped rules s number l ls _ _ _ _ _ (runs.outside printed refuses t d) (inr g) = g.1
next_grouped rules s number l ls _ _ _ _ _ (runs.begins b) (inl g) = g.1
next_grouped rules s number l ls _ _ _ _ _ (runs.begins b) (inr g) = absurd (g.0.0 b)
next_grouped rules s number l ls _ _ _ _ _ (runs.silent group q) (inl g) = absurd (silent l.text q end g.0)
next_grouped rules s number l ls _ _ _ _ _ (runs.silent group q) (inr g) = g.1
next_grouped rules s number l ls _ _ _ _ _ (runs.adds group x h) (inl g) = absurd (no_step_end l.text x h g.0)
next_grouped rules s number l ls _ _ _ _ _ (runs.adds group x h) (inr g) = g.1
next_grouped rules s number l ls _ _ _ _ _ (runs.ends group printed refuses t e m) (inl g) = g.1
next_grouped rules s number l ls _ _ _ _ _ (runs.ends group printed refuses t e m) (inr g) = absurd (no_inner_end l.text g.0 e)

-- and so behind several
pub grouped_on : (rules : Rules) (p : Progress) (before left : List Line) (printed : List ℕ) (q : Progress) → AreGrouped (is_some p.group) (before ++ left)
    → RunsLines rules p before printed q → AreGrouped (is_some q.group) left
grouped_on rules p [] left printed q g h = subst (λ (x : Progress). AreGrouped (is_some x.group) left) (sym h.1) g
grouped_on rules p (l ∷ ls) left printed q g h =
    grouped_on rules h.2 ls left h.1 q (next_grouped rules p.state _ l (ls ++ left) p.group _ _ _ _ h.3.takes g) h.4

not_both : (rules : Rules) (text : List ℕ) → SpellsSomething rules.limits text → SpellsNothing rules.limits text → ⊥
not_both rules text (inl q) n = n.0.0 q
not_both rules text (inr (inl c)) n = n.0.1 c.0 c.1
not_both rules text (inr (inr o)) n = n.1 o

-- no line of well grouped ones is bad where it stands
pub none_bad_in : (rules : Rules) (group : Option Group) (l : Line) (ls : List Line) → SpellsSomething rules.limits l.text → AreGrouped (is_some group) (l ∷ ls) → IsBadIn rules.limits group l.text → ⊥
none_bad_in rules None l ls s g (inl n) = not_both rules l.text s n
none_bad_in rules None l ls s (inl g) (inr e) = (let w = ap lead (one_word l.text begin end g.0 e) in omega (arith, w))
none_bad_in rules None l ls s (inr g) (inr e) = g.0.1 e
none_bad_in rules (Some open_group) l ls s (inl g) bad = bad (inr (inr g.0))
none_bad_in rules (Some open_group) l ls s (inr ((inl q), g)) bad = bad (inl q)
none_bad_in rules (Some open_group) l ls s (inr ((inr x), g)) bad = bad (inr (inl x))
