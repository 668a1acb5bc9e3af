-- A made script is within the limits, and has no bad line.
use Rattle.std.proofs.Common.{◌≡◌, ◌∙◌, ◌<◌, ◌≤◌, ◌+◌, ◌*◌, ◌^◌, ℕ, zero, suc, List, [], ◌∷◌, length, length-append, map, Some, refl, sym, ap, rules, arith, subst, inl, inr}
use Rattle.std.specs.Prelude.{slice_get}
use Rattle.px_base.specs.declared.lines.TheConstants.{LINE_BYTES, SCRIPT_BYTES}
use Rattle.graph_spec.specs.Lines.{Line, cut}
use Rattle.graph_spec.specs.ProgramLimits.{program_limits}
use Rattle.graph_spec.proofs.LineLemmas.{cut-feed}
use Rattle.script_read.specs.Commands.{SpellsSomething, IsSpelled, begin, end}
use Rattle.workload.specs.Generator.{state_after}
use Rattle.workload.specs.MadeTexts.{after_lines, last_lines, lines_text, made_script_text, steps_onto}
use Rattle.workload_spec.proofs.Plain.{uncut}
use Rattle.workload_spec.proofs.ScriptLines.{AreProper, IsProperLine, line_alone, script_lines}

abbrev fed : List ℕ → Line
fed line = record { text = line; end = 10 ∷ [] }

-- the text is cut into just these lines
pub cut_lines : (lines : List (List ℕ)) → AreProper lines → cut (lines_text lines) ≡ map fed lines
cut_lines [] p = refl
cut_lines (l ∷ ls) p = cut-feed l (lines_text ls) (uncut l p.0.plain) ∙ ap (λ t. fed l ∷ t) (cut_lines ls p.1)

length_lines : (lines : List (List ℕ)) → AreProper lines → length (lines_text lines) ≤ 101 * length lines
length_lines [] p = omega arith
length_lines (l ∷ ls) p =
    let e = length-append l (10 ∷ lines_text ls) in
    let s = p.0.short in
    let i = length_lines ls p.1 in
    omega (arith, e, s, i)

count_lines : (nodes n new x : ℕ) (lines : List (List ℕ)) → length (steps_onto nodes n new x lines) ≡ 4 * n + length lines
count_lines nodes zero new x lines = omega arith
count_lines nodes (suc n) new x lines = let i = count_lines nodes n (new + 1) (state_after 3 x) lines in omega (arith, i)

same_line : (a b : Line) → Some a ≡ Some b → a ≡ b
same_line a b e = cc

each_line : (lines : List (List ℕ)) (i : ℕ) (l : Line) → AreProper lines → slice_get (map fed lines) i ≡ Some l → IsProperLine l.text
each_line [] i l p e = cc
each_line (x ∷ xs) zero l p e = subst (λ t. IsProperLine t.text) (same_line (fed x) l (search (rules, e))) p.0
each_line (x ∷ xs) (suc i) l p e = each_line xs i l p.1 (search (rules, e))

pub script_small : (seed nodes : ℕ) → 0 < nodes → nodes + 500 ≤ 2 ^ 32 → length (made_script_text seed nodes) ≤ SCRIPT_BYTES
unfolding made_script_text
script_small seed nodes some space =
    let x = after_lines 20000 seed in
    small x
  where
    small : (x : ℕ) → length (lines_text (steps_onto nodes 500 nodes x last_lines)) ≤ SCRIPT_BYTES
    small x =
        let l = length_lines (steps_onto nodes 500 nodes x last_lines) (script_lines nodes x some space) in
        let n = count_lines nodes 500 nodes x last_lines in
        omega (arith, l, n)

pub script_proper : (seed nodes : ℕ) → 0 < nodes → nodes + 500 ≤ 2 ^ 32 → (i : ℕ) (l : Line) → slice_get (cut (made_script_text seed nodes)) i ≡ Some l
    → (length l.text ≤ LINE_BYTES) × SpellsSomething program_limits l.text
unfolding made_script_text
script_proper seed nodes some space i l e = proper (after_lines 20000 seed) e
  where
    proper : (x : ℕ) → slice_get (cut (lines_text (steps_onto nodes 500 nodes x last_lines))) i ≡ Some l → (length l.text ≤ LINE_BYTES) × SpellsSomething program_limits l.text
    proper x h =
        let lines = steps_onto nodes 500 nodes x last_lines in
        let are = script_lines nodes x some space in
        let p = each_line lines i l are (ap (λ ls. slice_get ls i) (sym (cut_lines lines are)) ∙ h) in
        (let s = p.short in omega (arith, s), inr (inl (p.command, p.spelled)))

-- no line is the first or the last of a group
pub script_alone : (seed nodes : ℕ) → 0 < nodes → nodes + 500 ≤ 2 ^ 32 → (i : ℕ) (l : Line) → slice_get (cut (made_script_text seed nodes)) i ≡ Some l
    → (¬ IsSpelled l.text begin) × (¬ IsSpelled l.text end)
unfolding made_script_text
script_alone seed nodes some space i l e = alone (after_lines 20000 seed) e
  where
    alone : (x : ℕ) → slice_get (cut (lines_text (steps_onto nodes 500 nodes x last_lines))) i ≡ Some l → (¬ IsSpelled l.text begin) × (¬ IsSpelled l.text end)
    alone x h =
        let lines = steps_onto nodes 500 nodes x last_lines in
        let are = script_lines nodes x some space in
        line_alone l.text (each_line lines i l are (ap (λ ls. slice_get ls i) (sym (cut_lines lines are)) ∙ h))
