-- A line spells at most one command, and none if it is quiet.
use Rattle.std.proofs.Common.{◌≡◌, ◌≢◌, ℕ, ◌<◌, ◌^◌, List, [], ◌∷◌, refl, sym, ap, ◌∙◌, subst, arith, map, ◌⊎◌, inl, inr}
use Rattle.std.specs.Prelude.{codes, slice_index}
use Rattle.std.specs.List.{AllByRecursion}
use Rattle.std.proofs.lemmas.Fmt.{decimal_injective}
use Rattle.change_spec.specs.Steps.{node, link, unlink, drop, relabel}
use Rattle.triples_read.proofs.OneTriple.{one_reading}
use Rattle.path_query.specs.Labels.{SpellsLabel}
use Rattle.graph_spec.specs.Words.{node_word}
use Rattle.bisim_spec.specs.declared.kind.Kind.{Kind}
use Rattle.bisim_spec.specs.declared.kind.Kind.TheVariants as kind
use Rattle.index_api.specs.declared.kinds.Via.{Via}
use Rattle.index_api.specs.declared.kinds.Via.TheVariants.{Data, A, One, Fb, B}
use Rattle.index_api.specs.Spelling.{via_word, kind_word}
use Rattle.script_read.specs.FirstWords.{first_word, behind_word, expression_text}
use Rattle.script_read.specs.Commands.{Command, change, begin, end, insert, delete, path, branch, why, check, extents, sizes, save, forget, IsIndex, IsVia, IsQuiet, IsSpelled, SpellsPair, SpellsNodes, AsksWith, Asks, NoCommand, SpellsOnce, LabelsOnce, PathsOnce, BranchesOnce}
use Rattle.script_read.specs.ScannedLines.{SaysNode, SaysRelabel, SaysTriple, SaysQuery, SaysWhy, SaysCheck, IsWhole}
use Rattle.script_read.proofs.WordLemmas.{head_word, is_split}
use Rattle.script_read.proofs.CommandLemmas.{second_same, third_same, lead, no_query, OpensWhole, no_part, opens_insert, opens_delete, apart, begins, opens_node, opens_relabel, silent}

node_number : (m n : ℕ) → m < 2 ^ 32 → n < 2 ^ 32 → node_word m ≡ node_word n → m ≡ n
node_number m n a b e = decimal_injective m n (omega arith) (omega arith) cc

-- the second and the third word
abbrev second : List (List ℕ) → List ℕ
second [] = []
second (a ∷ []) = []
second (a ∷ b ∷ ws) = b

abbrev third : List (List ℕ) → List ℕ
third [] = []
third (a ∷ []) = []
third (a ∷ b ∷ []) = []
third (a ∷ b ∷ c ∷ ws) = c

pair_one : (line word : List ℕ) (u v x y : ℕ) (f : ℕ → ℕ → Command) → SpellsPair line word u v → SpellsPair line word x y → f u v ≡ f x y
pair_one line word u v x y f h k =
    let z = sym h.0 ∙ k.0 in
    ap (λ n. f n v) (node_number u x h.1 k.1 (ap second z)) ∙ ap (λ n. f x n) (node_number v y h.2 k.2 (ap third z))

-- a word names one thing through which a query is asked, one index, and one kind of indexes
via_one : (v w : Via) → IsVia v → IsVia w → via_word v ≡ via_word w → v ≡ w
via_one (A m) (A n) h k e = ap A (decimal_injective m n (omega (arith, h)) (omega (arith, k)) cc)
via_one One One h k e = refl
via_one Fb Fb h k e = refl
via_one (B m) (B n) h k e = ap B (decimal_injective m n (omega (arith, h)) (omega (arith, k)) cc)
via_one Data Data h k e = refl
via_one v w h k e = absurd (let first = ap (λ l. slice_index l 0) e in omega (arith, first))

one_way : (line word : List ℕ) (v w : Via) → AsksWith word line v → AsksWith word line w → v ≡ w
one_way line word v w h k = via_one v w h.2 k.2 (sym h.1 ∙ k.1)

index_via : (v : Via) → IsIndex v → IsVia v
index_via (A m) h = h
index_via One h = h
index_via Fb h = h
index_via (B m) h = h
index_via Data h = absurd h

kind_one : (v w : Kind) → kind_word v ≡ kind_word w → v ≡ w
kind_one kind.A kind.A e = refl
kind_one kind.One kind.One e = refl
kind_one kind.Fb kind.Fb e = refl
kind_one kind.B kind.B e = refl
kind_one v w e = absurd (let first = ap (λ l. slice_index l 0) e in omega (arith, first))

-- a word spells at most one list of nodes
one_list : (xs ys : List ℕ) → AllByRecursion (λ n. n < 2 ^ 32) xs → AllByRecursion (λ n. n < 2 ^ 32) ys → map node_word xs ≡ map node_word ys → xs ≡ ys
one_list [] [] a b e = refl
one_list [] (y ∷ ys) a b e = cc
one_list (x ∷ xs) [] a b e = cc
one_list (x ∷ xs) (y ∷ ys) a b e =
    let word : node_word x ≡ node_word y = cc in
    let words : map node_word xs ≡ map node_word ys = cc in
    ap (λ n. n ∷ xs) (node_number x y a.0 b.0 word) ∙ ap (λ ns. y ∷ ns) (one_list xs ys a.1 b.1 words)

nodes_once : (word xs ys : List ℕ) → SpellsNodes word xs → SpellsNodes word ys → xs ≡ ys
nodes_once word xs ys h k = one_list xs ys h.1 k.1 (sym h.0 ∙ k.0)

-- the first bytes of `path`, `why` or `check`, which a path expression follows
abbrev OpensPath : ℕ → Type 0
OpensPath b = (b ≡ lead (codes "path")) ⊎ ((b ≡ lead (codes "why")) ⊎ (b ≡ lead (codes "check")))

-- the word behind `node`, or behind `relabel` and a node, if there is one, spells at most one label, and the expression at most one tree
record PartsOnce (line : List ℕ) : Type 0 where
  label : (word : List ℕ) → SaysNode line word → LabelsOnce word
  other_label : (u : ℕ) (word : List ℕ) → SaysRelabel line u word → LabelsOnce word
  expression : OpensPath (lead (first_word line)) → PathsOnce (expression_text line)
  query : first_word line ≡ codes "branch" → BranchesOnce (expression_text line)

command_one : (line : List ℕ) → PartsOnce line → (c d : Command) → IsSpelled line c → IsSpelled line d → c ≡ d
command_one line o (change (node t)) (change (node u)) h k =
    let same : h.0 ≡ k.0 = second_same (sym h.1 ∙ k.1) in
    ap (λ x. change (node x)) (o.label h.0 h.1 t u h.2 (subst (λ w. SpellsLabel w u) (sym same) k.2))
command_one line o (change (link u v)) (change (link x y)) h k = pair_one line _ u v x y (λ a b. change (link a b)) h k
command_one line o (change (unlink u v)) (change (unlink x y)) h k = pair_one line _ u v x y (λ a b. change (unlink a b)) h k
command_one line o (change (drop u)) (change (drop x)) h k = ap (λ n. change (drop n)) (node_number u x h.1 k.1 (ap second (sym h.0 ∙ k.0)))
command_one line o (change (relabel u t)) (change (relabel v r)) h k =
    let z = sym h.1 ∙ k.1 in
    ap (λ n. change (relabel n t)) (node_number u v h.2 k.2 (ap second z))
    ∙ ap (λ x. change (relabel v x)) (o.other_label u h.0 (h.1, h.2) t r h.3 (subst (λ w. SpellsLabel w r) (sym (third_same z)) k.3))
command_one line o (path v e) (path w f) h k =
    ap (λ v. path v e) (one_way line _ v w h.0 k.0) ∙ ap (path w) (o.expression (inl (ap lead h.0.0)) e f h.1 k.1)
command_one line o (branch v e) (branch w f) h k =
    ap (λ v. branch v e) (one_way line _ v w h.0 k.0) ∙ ap (branch w) (o.query h.0.0 e f h.1 k.1)
command_one line o (why v e) (why w f) h k =
    ap (λ n. why n e) (node_number v w h.0.2 k.0.2 (sym h.0.1 ∙ k.0.1)) ∙ ap (why w) (o.expression (inr (inl (ap lead h.0.0))) e f h.1 k.1)
command_one line o (check xs e) (check ys f) h k =
    ap (λ n. check n e) (nodes_once (first_word (behind_word line)) xs ys h.0.1 k.0.1) ∙ ap (check ys) (o.expression (inr (inr (ap lead h.0.0))) e f h.1 k.1)
command_one line o (extents v) (extents w) h k = ap extents (via_one v w (index_via v h.1) (index_via w k.1) (second_same (sym h.0 ∙ k.0)))
command_one line o sizes sizes h k = refl
command_one line o save save h k = refl
command_one line o begin begin h k = refl
command_one line o end end h k = refl
command_one line o (insert t) (insert u) h k = ap insert (one_reading (behind_word line) t u h.1 k.1)
command_one line o (delete t) (delete u) h k = ap delete (one_reading (behind_word line) t u h.1 k.1)
command_one line o (forget v) (forget w) h k = ap forget (kind_one v w (second_same (sym h ∙ k)))
command_one line o (change c) begin h k = absurd (apart (first_word line) _ _ (begins line (change c) h) (begins line begin k) (no_query c).no_begin)
command_one line o (change c) end h k = absurd (apart (first_word line) _ _ (begins line (change c) h) (begins line end k) (no_query c).no_end)
command_one line o begin (change c) h k = absurd (apart (first_word line) _ _ (begins line (change c) k) (begins line begin h) (no_query c).no_begin)
command_one line o end (change c) h k = absurd (apart (first_word line) _ _ (begins line (change c) k) (begins line end h) (no_query c).no_end)
command_one line o (change c) (insert t) h k = absurd (apart (first_word line) _ _ (begins line (change c) h) (begins line (insert t) k) (no_query c).no_insert)
command_one line o (change c) (delete t) h k = absurd (apart (first_word line) _ _ (begins line (change c) h) (begins line (delete t) k) (no_query c).no_delete)
command_one line o (insert t) (change c) h k = absurd (apart (first_word line) _ _ (begins line (change c) k) (begins line (insert t) h) (no_query c).no_insert)
command_one line o (delete t) (change c) h k = absurd (apart (first_word line) _ _ (begins line (change c) k) (begins line (delete t) h) (no_query c).no_delete)
command_one line o (change c) (path v e) h k = absurd (apart (first_word line) _ _ (begins line (change c) h) (begins line (path v e) k) (no_query c).no_path)
command_one line o (change c) (branch v e) h k = absurd (apart (first_word line) _ _ (begins line (change c) h) (begins line (branch v e) k) (no_query c).no_branch)
command_one line o (change c) (why v e) h k = absurd (apart (first_word line) _ _ (begins line (change c) h) (begins line (why v e) k) (no_query c).no_why)
command_one line o (change c) (check v e) h k = absurd (apart (first_word line) _ _ (begins line (change c) h) (begins line (check v e) k) (no_query c).no_check)
command_one line o (change c) (extents v) h k = absurd (apart (first_word line) _ _ (begins line (change c) h) (begins line (extents v) k) (no_query c).no_extents)
command_one line o (change c) sizes h k = absurd (apart (first_word line) _ _ (begins line (change c) h) (begins line sizes k) (no_query c).no_sizes)
command_one line o (change c) save h k = absurd (apart (first_word line) _ _ (begins line (change c) h) (begins line save k) (no_query c).no_save)
command_one line o (change c) (forget v) h k = absurd (apart (first_word line) _ _ (begins line (change c) h) (begins line (forget v) k) (no_query c).no_forget)
command_one line o (path v e) (change c) h k = absurd (apart (first_word line) _ _ (begins line (change c) k) (begins line (path v e) h) (no_query c).no_path)
command_one line o (branch v e) (change c) h k = absurd (apart (first_word line) _ _ (begins line (change c) k) (begins line (branch v e) h) (no_query c).no_branch)
command_one line o (why v e) (change c) h k = absurd (apart (first_word line) _ _ (begins line (change c) k) (begins line (why v e) h) (no_query c).no_why)
command_one line o (check v e) (change c) h k = absurd (apart (first_word line) _ _ (begins line (change c) k) (begins line (check v e) h) (no_query c).no_check)
command_one line o (extents v) (change c) h k = absurd (apart (first_word line) _ _ (begins line (change c) k) (begins line (extents v) h) (no_query c).no_extents)
command_one line o sizes (change c) h k = absurd (apart (first_word line) _ _ (begins line (change c) k) (begins line sizes h) (no_query c).no_sizes)
command_one line o save (change c) h k = absurd (apart (first_word line) _ _ (begins line (change c) k) (begins line save h) (no_query c).no_save)
command_one line o (forget v) (change c) h k = absurd (apart (first_word line) _ _ (begins line (change c) k) (begins line (forget v) h) (no_query c).no_forget)
command_one line o c d h k = absurd (apart (first_word line) _ _ (begins line c h) (begins line d k) (λ e. omega (arith, e)))

-- no path expression follows another first word
no_expression : (line word : List ℕ) → first_word line ≡ word → (lead word ≢ lead (codes "path")) → (lead word ≢ lead (codes "why")) → (lead word ≢ lead (codes "check")) → OpensPath (lead (first_word line)) → ⊥
no_expression line word e p w c (inl f) = p (ap lead (sym e) ∙ f)
no_expression line word e p w c (inr (inl f)) = w (ap lead (sym e) ∙ f)
no_expression line word e p w c (inr (inr f)) = c (ap lead (sym e) ∙ f)

-- the parts of a line that begins with none of `node`, `relabel`, `path`, `branch`, `why` and `check`
no_parts : (line word : List ℕ) → first_word line ≡ word → OpensWhole (lead word) → PartsOnce line
no_parts line word e o = record {
  label = λ w s. absurd (o.no_node (ap lead (sym e ∙ (head_word line _ _ _ _ (is_split line) s).0)));
  other_label = λ u w s. absurd (o.no_relabel (ap lead (sym e ∙ opens_relabel line u w s)));
  expression = λ f. absurd (no_expression line word e o.no_path o.no_why o.no_check f);
  query = λ f. absurd (o.no_branch (ap lead (sym e ∙ f)));
}

-- one lemma for each thing that a line can say
pub quiet_once : (line : List ℕ) → IsQuiet line → SpellsOnce line
quiet_once line q c d h k = absurd (silent line q c h)

pub bad_once : (line : List ℕ) → NoCommand line × (¬ Asks line) → SpellsOnce line
bad_once line n c d h k = absurd (n.0.1 c h)

pub node_once : (line word : List ℕ) → SaysNode line word → LabelsOnce word → SpellsOnce line
node_once line word s once = command_one line (record {
  label = λ w t. subst LabelsOnce (second_same (sym s ∙ t)) once;
  other_label = λ u w t. absurd (apart (first_word line) _ _ (opens_node line word s) (opens_relabel line u w t) (λ e. omega (arith, e)));
  expression = λ f. absurd (no_expression line _ (opens_node line word s) (λ e. omega (arith, e)) (λ e. omega (arith, e)) (λ e. omega (arith, e)) f);
  query = λ f. absurd (apart (first_word line) _ _ (opens_node line word s) f (λ e. omega (arith, e)));
})

pub relabel_once : (line : List ℕ) (u : ℕ) (word : List ℕ) → SaysRelabel line u word → LabelsOnce word → SpellsOnce line
relabel_once line u word s once = command_one line (record {
  label = λ w t. absurd (apart (first_word line) _ _ (opens_relabel line u word s) (opens_node line w t) (λ e. omega (arith, e)));
  other_label = λ v w t. subst LabelsOnce (third_same (sym s.0 ∙ t.0)) once;
  expression = λ f. absurd (no_expression line _ (opens_relabel line u word s) (λ e. omega (arith, e)) (λ e. omega (arith, e)) (λ e. omega (arith, e)) f);
  query = λ f. absurd (apart (first_word line) _ _ (opens_relabel line u word s) f (λ e. omega (arith, e)));
})

pub triple_once : (line word text : List ℕ) → SaysTriple word line text → OpensWhole (lead word) → SpellsOnce line
triple_once line word text s o = command_one line (no_parts line word s.0 o)

-- the line begins with this word, which a path expression follows
expression_once : (line word text : List ℕ) → first_word line ≡ word → (lead word ≢ lead (codes "node")) → (lead word ≢ lead (codes "relabel")) → (lead word ≢ lead (codes "branch"))
    → text ≡ expression_text line → PathsOnce text → SpellsOnce line
expression_once line word text e n r b s once = command_one line (record {
  label = λ w t. absurd (apart (first_word line) _ _ e (opens_node line w t) n);
  other_label = λ u w t. absurd (apart (first_word line) _ _ e (opens_relabel line u w t) r);
  expression = λ f. subst PathsOnce s once;
  query = λ f. absurd (apart (first_word line) _ _ e f b);
})

pub path_once : (line : List ℕ) (via : Via) (text : List ℕ) → SaysQuery (codes "path") line via text → PathsOnce text → SpellsOnce line
path_once line via text s once = expression_once line _ text s.0.0 (λ e. omega (arith, e)) (λ e. omega (arith, e)) (λ e. omega (arith, e)) s.1 once

pub why_once : (line : List ℕ) (v : ℕ) (text : List ℕ) → SaysWhy line v text → PathsOnce text → SpellsOnce line
why_once line v text s once = expression_once line _ text s.0.0 (λ e. omega (arith, e)) (λ e. omega (arith, e)) (λ e. omega (arith, e)) s.1 once

pub check_once : (line word text : List ℕ) → SaysCheck line word text → PathsOnce text → SpellsOnce line
check_once line word text s once = expression_once line _ text s.0 (λ e. omega (arith, e)) (λ e. omega (arith, e)) (λ e. omega (arith, e)) s.2 once

pub branch_once : (line : List ℕ) (via : Via) (text : List ℕ) → SaysQuery (codes "branch") line via text → BranchesOnce text → SpellsOnce line
branch_once line via text s once = command_one line (record {
  label = λ w t. absurd (apart (first_word line) _ _ (opens_node line w t) s.0.0 (λ e. omega (arith, e)));
  other_label = λ u w t. absurd (apart (first_word line) _ _ (opens_relabel line u w t) s.0.0 (λ e. omega (arith, e)));
  expression = λ f. absurd (no_expression line _ s.0.0 (λ e. omega (arith, e)) (λ e. omega (arith, e)) (λ e. omega (arith, e)) f);
  query = λ f. subst BranchesOnce s.1 once;
})

pub whole_once : (line : List ℕ) (c : Command) → IsSpelled line c → IsWhole c → SpellsOnce line
whole_once line c h w = command_one line (no_parts line _ (begins line c h) (no_part c w))

pub ruleset reading_laws = (silent, quiet_once, bad_once, node_once, relabel_once, triple_once, opens_insert, opens_delete, path_once, branch_once, why_once, check_once, whole_once)
