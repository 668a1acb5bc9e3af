-- Texts that grow line by line, and states that move line by line.
use Rattle.std.proofs.Common.{◌≡◌, ◌∙◌, ◌+◌, ◌-◌, ◌<◌, ℕ, suc, List, [], ◌∷◌, ◌++◌, append_assoc, ap, sym, codes, arith}
use Rattle.workload.specs.Generator.{drawn, state_after}
use Rattle.workload.specs.MadeTexts.{after_line, after_lines, edge_line, graph_line, graph_lines, label_line, last_lines, lines_text, step_lines, steps_onto}

left : (n i : ℕ) → i < n → n - i ≡ suc (n - (i + 1))
left n i h = omega arith

pub after_next : (n i x : ℕ) → i < n → after_lines (n - i) x ≡ after_lines (n - (i + 1)) (after_line x)
after_next n i x h = ap (λ k. after_lines k x) (left n i h)

pub lines_next : (n i x : ℕ) → i < n → lines_text (graph_lines (n - i) x) ≡ (graph_line x ++ 10 ∷ []) ++ lines_text (graph_lines (n - (i + 1)) (after_line x))
lines_next n i x h =
    ap (λ k. lines_text (graph_lines k x)) (left n i h)
    ∙ sym (append_assoc (graph_line x) (10 ∷ []) (lines_text (graph_lines (n - (i + 1)) (after_line x))))

-- a text to which the next line is added
pub line_added : (n i x : ℕ) (out before whole : List ℕ) → i < n → before ++ lines_text (graph_lines (n - i) x) ≡ whole → out ≡ before ++ (graph_line x ++ 10 ∷ [])
    → out ++ lines_text (graph_lines (n - (i + 1)) (after_line x)) ≡ whole
line_added n i x out before whole h is added =
    ap (λ t. t ++ lines_text (graph_lines (n - (i + 1)) (after_line x))) added
    ∙ append_assoc before (graph_line x ++ 10 ∷ []) (lines_text (graph_lines (n - (i + 1)) (after_line x)))
    ∙ ap (λ t. before ++ t) (sym (lines_next n i x h))
    ∙ is

four_lines : (a b c d rest : List ℕ) → lines_text (a ∷ b ∷ c ∷ d ∷ []) ++ rest ≡ a ++ 10 ∷ (b ++ 10 ∷ (c ++ 10 ∷ (d ++ 10 ∷ rest)))
four_lines a b c d rest =
    append_assoc a (10 ∷ (b ++ 10 ∷ (c ++ 10 ∷ (d ++ 10 ∷ [])))) rest
    ∙ ap (λ t. a ++ 10 ∷ t) (append_assoc b (10 ∷ (c ++ 10 ∷ (d ++ 10 ∷ []))) rest
    ∙ ap (λ t. b ++ 10 ∷ t) (append_assoc c (10 ∷ (d ++ 10 ∷ [])) rest
    ∙ ap (λ t. c ++ 10 ∷ t) (append_assoc d (10 ∷ []) rest)))

past : (nodes i : ℕ) → nodes + i + 1 ≡ nodes + (i + 1)
past nodes i = omega arith

four_steps : (nodes new x : ℕ) (lines : List (List ℕ)) → lines_text (step_lines nodes new x []) ++ lines_text lines ≡ lines_text (step_lines nodes new x lines)
four_steps nodes new x lines =
    four_lines (label_line x) (edge_line (codes "link") new (drawn 2 nodes x)) (edge_line (codes "link") new (drawn 3 nodes x))
    (edge_line (codes "unlink") new (drawn 2 nodes x)) (lines_text lines)

pub steps_next : (nodes n i x : ℕ) → i < n
    → lines_text (steps_onto nodes (n - i) (nodes + i) x last_lines)
    ≡ lines_text (step_lines nodes (nodes + i) x []) ++ lines_text (steps_onto nodes (n - (i + 1)) (nodes + (i + 1)) (state_after 3 x) last_lines)
steps_next nodes n i x h =
    ap (λ k. lines_text (steps_onto nodes k (nodes + i) x last_lines)) (left n i h)
    ∙ ap (λ m. lines_text (step_lines nodes (nodes + i) x (steps_onto nodes (n - (i + 1)) m (state_after 3 x) last_lines))) (past nodes i)
    ∙ sym (four_steps nodes (nodes + i) x (steps_onto nodes (n - (i + 1)) (nodes + (i + 1)) (state_after 3 x) last_lines))

pub step_added : (nodes n i x : ℕ) (out before whole : List ℕ) → i < n
    → before ++ lines_text (steps_onto nodes (n - i) (nodes + i) x last_lines) ≡ whole → out ≡ before ++ lines_text (step_lines nodes (nodes + i) x [])
    → out ++ lines_text (steps_onto nodes (n - (i + 1)) (nodes + (i + 1)) (state_after 3 x) last_lines) ≡ whole
step_added nodes n i x out before whole h is added =
    let later = lines_text (steps_onto nodes (n - (i + 1)) (nodes + (i + 1)) (state_after 3 x) last_lines) in
    ap (λ t. t ++ later) added
    ∙ append_assoc before (lines_text (step_lines nodes (nodes + i) x [])) later
    ∙ ap (λ t. before ++ t) (sym (steps_next nodes n i x h))
    ∙ is
