-- From the first word of a line to what the line says.
use Rattle.std.proofs.Common.{◌≡◌, ◌≢◌, ℕ, ◌+◌, ◌*◌, ◌<◌, ◌^◌, List, [], ◌∷◌, refl, sym, ap, ◌∙◌, subst, arith, Err, IsTrue}
use Rattle.std.specs.Prelude.{codes, slice_index, ◌↔◌}
use Rattle.graph_spec.specs.Words.{words}
use Rattle.change_spec.specs.Steps.{Step, node, link, unlink, drop, relabel}
use Rattle.bisim_spec.specs.declared.kind.Kind.{Kind}
use Rattle.index_api.specs.declared.kinds.Via.{Via}
use Rattle.index_api.specs.Spelling.{via_word, kind_word}
use Rattle.graph_spec.specs.declared.limits.Limits.{Limits}
use Rattle.triples_read.specs.declared.term.Triple.{Triple}
use Rattle.triples_read.specs.Lines.{SpellsTriple}
use Rattle.path_spec.specs.Trees.{Expr}
use Rattle.path_query.specs.Labels.{SpellsLabel}
use Rattle.path_query.specs.Parsed.{SpellsPath, is_past}
use Rattle.branch_spec.specs.Trees.{Branch}
use Rattle.branch_text.specs.Parsed.{SpellsBranch}
use Rattle.script_read.specs.ScannedLines.{SaysNode, SaysRelabel, SaysTriple, SaysQuery, SaysWhy, SaysCheck, IsWhole, OpensTriple}
use Rattle.script_read.specs.ReadLines.{ReadsCommand}
use Rattle.script_read.specs.declared.commands.ScriptError.{ScriptError}
use Rattle.script_read.specs.declared.commands.ScriptError.TheVariants.{Bad, Limit, Memory}
use Rattle.graph_spec.specs.Words.{node_word}
use Rattle.script_read.specs.Commands.{Command, change, begin, end, insert, delete, path, branch, why, check, extents, sizes, save, forget, IsIndex, IsVia, SaysNothing, IsQuiet, AsksWith, Asks, by_path, by_branch, by_why, by_check, SpellsNodes, SpellsPathLine, SpellsBranchLine, SpellsWhy, SpellsCheck, PassesLimit, IsSpelled, NoCommand}
use Rattle.script_read.specs.FirstWords.{IsSplit, OpensNothing, first_word, behind_word, expression_text}
use Rattle.script_read.proofs.WordLemmas.{head_word, is_split, words-cons}

pub opens_quiet : (line word rest : List ℕ) → IsSplit line word rest → OpensNothing word → SaysNothing (words line)
opens_quiet line [] rest s o = subst SaysNothing (sym (s.none refl)) tt
opens_quiet line (b ∷ bs) rest s o = subst SaysNothing (sym (s.some (λ e. cc))) o

quiet_opens : (line word rest : List ℕ) → IsSplit line word rest → SaysNothing (words line) → OpensNothing word
quiet_opens line [] rest s q = tt
quiet_opens line (b ∷ bs) rest s q = let P : List (List ℕ) → Type 0 = SaysNothing in subst P (s.some (λ e. cc)) q

pub opens_some : (word : List ℕ) → ¬ OpensNothing word → word ≢ []
opens_some word n e = n (subst OpensNothing (sym e) tt)

-- the first word of a command
abbrev pub keyword : Command → List ℕ
keyword (change (node t)) = codes "node"
keyword (change (link u v)) = codes "link"
keyword (change (unlink u v)) = codes "unlink"
keyword (change (drop u)) = codes "drop"
keyword (change (relabel u t)) = codes "relabel"
keyword begin = codes "begin"
keyword end = codes "end"
keyword (insert t) = codes "insert"
keyword (delete t) = codes "delete"
keyword (path via e) = codes "path"
keyword (branch via q) = codes "branch"
keyword (why v e) = codes "why"
keyword (check nodes e) = codes "check"
keyword (extents via) = codes "extents"
keyword sizes = codes "sizes"
keyword save = codes "save"
keyword (forget kind) = codes "forget"

-- two lists of words with the same second word
pub second_same : {a b v w : List ℕ} → a ∷ v ∷ [] ≡ b ∷ w ∷ [] → v ≡ w
second_same e = cc

-- two lists of words with the same third word
pub third_same : {a b c d v w : List ℕ} → a ∷ b ∷ v ∷ [] ≡ c ∷ d ∷ w ∷ [] → v ≡ w
third_same e = cc

-- the first two bytes of a word, as a number
abbrev pub lead : List ℕ → ℕ
lead w = slice_index w 0 * 256 + slice_index w 1

-- first bytes that aren't those of a word of another command than a change
pub record OpensChange (b : ℕ) : Type 0 where
  pub no_begin : b ≢ lead (codes "begin")
  pub no_end : b ≢ lead (codes "end")
  pub no_insert : b ≢ lead (codes "insert")
  pub no_delete : b ≢ lead (codes "delete")
  pub no_path : b ≢ lead (codes "path")
  pub no_branch : b ≢ lead (codes "branch")
  pub no_why : b ≢ lead (codes "why")
  pub no_check : b ≢ lead (codes "check")
  pub no_extents : b ≢ lead (codes "extents")
  pub no_sizes : b ≢ lead (codes "sizes")
  pub no_save : b ≢ lead (codes "save")
  pub no_forget : b ≢ lead (codes "forget")

-- a change begins with no word of another command
pub no_query : (s : Step) → OpensChange (lead (keyword (change s)))
no_query (node t) = record { no_begin = λ e. omega (arith, e); no_end = λ e. omega (arith, e); no_insert = λ e. omega (arith, e); no_delete = λ e. omega (arith, e); no_path = λ e. omega (arith, e); no_branch = λ e. omega (arith, e); no_why = λ e. omega (arith, e); no_check = λ e. omega (arith, e); no_extents = λ e. omega (arith, e); no_sizes = λ e. omega (arith, e); no_save = λ e. omega (arith, e); no_forget = λ e. omega (arith, e) }
no_query (link u v) = record { no_begin = λ e. omega (arith, e); no_end = λ e. omega (arith, e); no_insert = λ e. omega (arith, e); no_delete = λ e. omega (arith, e); no_path = λ e. omega (arith, e); no_branch = λ e. omega (arith, e); no_why = λ e. omega (arith, e); no_check = λ e. omega (arith, e); no_extents = λ e. omega (arith, e); no_sizes = λ e. omega (arith, e); no_save = λ e. omega (arith, e); no_forget = λ e. omega (arith, e) }
no_query (unlink u v) = record { no_begin = λ e. omega (arith, e); no_end = λ e. omega (arith, e); no_insert = λ e. omega (arith, e); no_delete = λ e. omega (arith, e); no_path = λ e. omega (arith, e); no_branch = λ e. omega (arith, e); no_why = λ e. omega (arith, e); no_check = λ e. omega (arith, e); no_extents = λ e. omega (arith, e); no_sizes = λ e. omega (arith, e); no_save = λ e. omega (arith, e); no_forget = λ e. omega (arith, e) }
no_query (drop u) = record { no_begin = λ e. omega (arith, e); no_end = λ e. omega (arith, e); no_insert = λ e. omega (arith, e); no_delete = λ e. omega (arith, e); no_path = λ e. omega (arith, e); no_branch = λ e. omega (arith, e); no_why = λ e. omega (arith, e); no_check = λ e. omega (arith, e); no_extents = λ e. omega (arith, e); no_sizes = λ e. omega (arith, e); no_save = λ e. omega (arith, e); no_forget = λ e. omega (arith, e) }
no_query (relabel u t) = record { no_begin = λ e. omega (arith, e); no_end = λ e. omega (arith, e); no_insert = λ e. omega (arith, e); no_delete = λ e. omega (arith, e); no_path = λ e. omega (arith, e); no_branch = λ e. omega (arith, e); no_why = λ e. omega (arith, e); no_check = λ e. omega (arith, e); no_extents = λ e. omega (arith, e); no_sizes = λ e. omega (arith, e); no_save = λ e. omega (arith, e); no_forget = λ e. omega (arith, e) }

-- first bytes that aren't those of `node`, `relabel`, `path`, `branch`, `why` or `check`
pub record OpensWhole (b : ℕ) : Type 0 where
  pub no_node : b ≢ lead (codes "node")
  pub no_relabel : b ≢ lead (codes "relabel")
  pub no_path : b ≢ lead (codes "path")
  pub no_branch : b ≢ lead (codes "branch")
  pub no_why : b ≢ lead (codes "why")
  pub no_check : b ≢ lead (codes "check")

pub no_part : (c : Command) → IsWhole c → OpensWhole (lead (keyword c))
no_part (change (node t)) w = absurd w
no_part (change (relabel u t)) w = absurd w
no_part (path via e) w = absurd w
no_part (branch via q) w = absurd w
no_part (why v e) w = absurd w
no_part (check nodes e) w = absurd w
no_part c w = record { no_node = λ e. omega (arith, e); no_relabel = λ e. omega (arith, e); no_path = λ e. omega (arith, e); no_branch = λ e. omega (arith, e); no_why = λ e. omega (arith, e); no_check = λ e. omega (arith, e) }

-- two words that differ in the first two bytes
pub apart : (word a b : List ℕ) → word ≡ a → word ≡ b → (lead a ≢ lead b) → ⊥
apart word a b p q d = d (ap lead (sym p ∙ q))

pub begins : (line : List ℕ) (c : Command) → IsSpelled line c → first_word line ≡ keyword c
begins line (change (node t)) h = (head_word line _ _ _ _ (is_split line) h.1).0
begins line (change (link u v)) h = (head_word line _ _ _ _ (is_split line) h.0).0
begins line (change (unlink u v)) h = (head_word line _ _ _ _ (is_split line) h.0).0
begins line (change (drop u)) h = (head_word line _ _ _ _ (is_split line) h.0).0
begins line (change (relabel u t)) h = (head_word line _ _ _ _ (is_split line) h.1).0
begins line begin h = (head_word line _ _ _ _ (is_split line) h).0
begins line end h = (head_word line _ _ _ _ (is_split line) h).0
begins line (insert t) h = h.0
begins line (delete t) h = h.0
begins line (path via e) h = h.0.0
begins line (branch via q) h = h.0.0
begins line (why v e) h = h.0.0
begins line (check nodes e) h = h.0.0
begins line (extents via) h = (head_word line _ _ _ _ (is_split line) h.0).0
begins line sizes h = (head_word line _ _ _ _ (is_split line) h).0
begins line save h = (head_word line _ _ _ _ (is_split line) h).0
begins line (forget kind) h = (head_word line _ _ _ _ (is_split line) h).0

-- a line that asks begins with `path`, `branch`, `why` or `check`
pub asks_otherwise : (line k : List ℕ) → first_word line ≡ k → (lead k ≢ lead (codes "path")) → (lead k ≢ lead (codes "branch")) → (lead k ≢ lead (codes "why")) → (lead k ≢ lead (codes "check")) → ¬ Asks line
asks_otherwise line k e p b w c (by_path via x) = apart (first_word line) k _ e x.0 p
asks_otherwise line k e p b w c (by_branch via x) = apart (first_word line) k _ e x.0 b
asks_otherwise line k e p b w c (by_why v x) = apart (first_word line) k _ e x.0 w
asks_otherwise line k e p b w c (by_check nodes x) = apart (first_word line) k _ e x.0 c

-- what follows the first word
behind : (line w : List ℕ) (ws : List (List ℕ)) → words line ≡ w ∷ ws → words (behind_word line) ≡ ws
behind line w ws e = (head_word line _ _ _ _ (is_split line) e).1

-- the words of a line that begins with this word
pub words_opened : (line word rest key : List ℕ) (vs : List (List ℕ)) → word ≡ first_word line → rest ≡ behind_word line → ¬ OpensNothing word
    → word ≡ key → words rest ≡ vs → words line ≡ key ∷ vs
words_opened line word rest key vs w r loud k v =
    words-cons line (first_word line) (behind_word line) vs (is_split line) (opens_some _ (λ o. loud (subst OpensNothing (sym w) o))) (sym (ap words r) ∙ v)
    ∙ ap (λ x. x ∷ vs) (sym w ∙ k)

module _ (line word rest : List ℕ) (loud : ¬ OpensNothing word) (is_first : word ≡ first_word line) (is_rest : rest ≡ behind_word line) where
  not_quiet : ¬ IsQuiet line
  not_quiet q = loud (subst OpensNothing (sym is_first) (quiet_opens line _ _ (is_split line) q))

  starts : (c : Command) → IsSpelled line c → word ≡ keyword c
  starts c h = is_first ∙ begins line c h

  clash : (k : List ℕ) → word ≡ k → (c : Command) → IsSpelled line c → (lead k ≢ lead (keyword c)) → ⊥
  clash k e c h d = apart word k (keyword c) e (starts c h) d

  no_asks : (k : List ℕ) → word ≡ k → (lead k ≢ lead (codes "path")) → (lead k ≢ lead (codes "branch")) → (lead k ≢ lead (codes "why")) → (lead k ≢ lead (codes "check")) → ¬ Asks line
  no_asks k e p b w c = asks_otherwise line k (sym is_first ∙ e) p b w c

  follows : (w : List ℕ) (ws : List (List ℕ)) → words line ≡ w ∷ ws → words rest ≡ ws
  follows w ws e = ap words is_rest ∙ behind line w ws e

  pub none_node : word ≡ codes "node" → ((w : List ℕ) → words rest ≢ w ∷ []) → NoCommand line × (¬ Asks line)
  none_node e absent = ((not_quiet, other), no_asks _ e (λ d. omega (arith, d)) (λ d. omega (arith, d)) (λ d. omega (arith, d)) (λ d. omega (arith, d)))
    where
      other : (c : Command) → IsSpelled line c → ⊥
      other (change (node t)) h = absent h.0 (follows _ _ h.1)
      other c h = clash _ e c h (λ d. omega (arith, d))

  pub none_link : word ≡ codes "link" → ((u v : ℕ) → u < 2 ^ 32 → v < 2 ^ 32 → words rest ≢ node_word u ∷ node_word v ∷ []) → NoCommand line × (¬ Asks line)
  none_link e absent = ((not_quiet, other), no_asks _ e (λ d. omega (arith, d)) (λ d. omega (arith, d)) (λ d. omega (arith, d)) (λ d. omega (arith, d)))
    where
      other : (c : Command) → IsSpelled line c → ⊥
      other (change (link u v)) h = absent u v h.1 h.2 (follows _ _ h.0)
      other c h = clash _ e c h (λ d. omega (arith, d))

  pub none_unlink : word ≡ codes "unlink" → ((u v : ℕ) → u < 2 ^ 32 → v < 2 ^ 32 → words rest ≢ node_word u ∷ node_word v ∷ []) → NoCommand line × (¬ Asks line)
  none_unlink e absent = ((not_quiet, other), no_asks _ e (λ d. omega (arith, d)) (λ d. omega (arith, d)) (λ d. omega (arith, d)) (λ d. omega (arith, d)))
    where
      other : (c : Command) → IsSpelled line c → ⊥
      other (change (unlink u v)) h = absent u v h.1 h.2 (follows _ _ h.0)
      other c h = clash _ e c h (λ d. omega (arith, d))

  pub none_drop : word ≡ codes "drop" → ((u : ℕ) → u < 2 ^ 32 → words rest ≢ node_word u ∷ []) → NoCommand line × (¬ Asks line)
  none_drop e absent = ((not_quiet, other), no_asks _ e (λ d. omega (arith, d)) (λ d. omega (arith, d)) (λ d. omega (arith, d)) (λ d. omega (arith, d)))
    where
      other : (c : Command) → IsSpelled line c → ⊥
      other (change (drop u)) h = absent u h.1 (follows _ _ h.0)
      other c h = clash _ e c h (λ d. omega (arith, d))

  pub none_relabel : word ≡ codes "relabel" → ((u : ℕ) (w : List ℕ) → u < 2 ^ 32 → words rest ≢ node_word u ∷ w ∷ []) → NoCommand line × (¬ Asks line)
  none_relabel e absent = ((not_quiet, other), no_asks _ e (λ d. omega (arith, d)) (λ d. omega (arith, d)) (λ d. omega (arith, d)) (λ d. omega (arith, d)))
    where
      other : (c : Command) → IsSpelled line c → ⊥
      other (change (relabel u t)) h = absent u h.0 h.2 (follows _ _ h.1)
      other c h = clash _ e c h (λ d. omega (arith, d))

  pub none_path : word ≡ codes "path" → ((via : Via) (x : Expr) → SpellsPathLine line via x → ⊥) → NoCommand line
  none_path e absent = (not_quiet, other)
    where
      other : (c : Command) → IsSpelled line c → ⊥
      other (path via x) h = absent via x h
      other (change d) h = clash _ e (change d) h (λ z. (no_query d).no_path (sym z))
      other c h = clash _ e c h (λ d. omega (arith, d))

  pub none_branch : word ≡ codes "branch" → ((via : Via) (q : Branch) → SpellsBranchLine line via q → ⊥) → NoCommand line
  none_branch e absent = (not_quiet, other)
    where
      other : (c : Command) → IsSpelled line c → ⊥
      other (branch via q) h = absent via q h
      other (change d) h = clash _ e (change d) h (λ z. (no_query d).no_branch (sym z))
      other c h = clash _ e c h (λ d. omega (arith, d))

  pub none_why : word ≡ codes "why" → ((v : ℕ) (x : Expr) → SpellsWhy line v x → ⊥) → NoCommand line
  none_why e absent = (not_quiet, other)
    where
      other : (c : Command) → IsSpelled line c → ⊥
      other (why v x) h = absent v x h
      other (change d) h = clash _ e (change d) h (λ z. (no_query d).no_why (sym z))
      other c h = clash _ e c h (λ d. omega (arith, d))

  pub none_check : word ≡ codes "check" → ((nodes : List ℕ) (x : Expr) → SpellsCheck line nodes x → ⊥) → NoCommand line
  none_check e absent = (not_quiet, other)
    where
      other : (c : Command) → IsSpelled line c → ⊥
      other (check nodes x) h = absent nodes x h
      other (change d) h = clash _ e (change d) h (λ z. (no_query d).no_check (sym z))
      other c h = clash _ e c h (λ d. omega (arith, d))

  -- what follows `path`, or `branch`, names nothing through which a query is asked
  pub no_path : word ≡ codes "path" → ((via : Via) → IsVia via → first_word rest ≢ via_word via) → NoCommand line × (¬ Asks line)
  no_path e absent = (none_path e (λ v x h. unnamed v h.0), asks)
    where
      unnamed : (v : Via) → AsksWith (codes "path") line v → ⊥
      unnamed v x = absent v x.2 (ap first_word is_rest ∙ x.1)

      asks : ¬ Asks line
      asks (by_path via x) = unnamed via x
      asks (by_branch via x) = apart word _ _ e (is_first ∙ x.0) (λ d. omega (arith, d))
      asks (by_why v x) = apart word _ _ e (is_first ∙ x.0) (λ d. omega (arith, d))
      asks (by_check nodes x) = apart word _ _ e (is_first ∙ x.0) (λ d. omega (arith, d))

  pub no_branch : word ≡ codes "branch" → ((via : Via) → IsVia via → first_word rest ≢ via_word via) → NoCommand line × (¬ Asks line)
  no_branch e absent = (none_branch e (λ v x h. unnamed v h.0), asks)
    where
      unnamed : (v : Via) → AsksWith (codes "branch") line v → ⊥
      unnamed v x = absent v x.2 (ap first_word is_rest ∙ x.1)

      asks : ¬ Asks line
      asks (by_branch via x) = unnamed via x
      asks (by_path via x) = apart word _ _ e (is_first ∙ x.0) (λ d. omega (arith, d))
      asks (by_why v x) = apart word _ _ e (is_first ∙ x.0) (λ d. omega (arith, d))
      asks (by_check nodes x) = apart word _ _ e (is_first ∙ x.0) (λ d. omega (arith, d))

  -- what follows `why` is no node, or what follows `check` are no nodes
  pub no_why : word ≡ codes "why" → ((v : ℕ) → v < 2 ^ 32 → first_word rest ≢ node_word v) → NoCommand line × (¬ Asks line)
  no_why e absent = (none_why e (λ v x h. unnamed v h.0.1 h.0.2), asks)
    where
      unnamed : (v : ℕ) → first_word (behind_word line) ≡ node_word v → v < 2 ^ 32 → ⊥
      unnamed v x l = absent v l (ap first_word is_rest ∙ x)

      asks : ¬ Asks line
      asks (by_why v x) = unnamed v x.1 x.2
      asks (by_path via x) = apart word _ _ e (is_first ∙ x.0) (λ d. omega (arith, d))
      asks (by_branch via x) = apart word _ _ e (is_first ∙ x.0) (λ d. omega (arith, d))
      asks (by_check nodes x) = apart word _ _ e (is_first ∙ x.0) (λ d. omega (arith, d))

  pub no_check : word ≡ codes "check" → ((nodes : List ℕ) → SpellsNodes (first_word rest) nodes → ⊥) → NoCommand line × (¬ Asks line)
  no_check e absent = (none_check e (λ nodes x h. unnamed nodes h.0.1), asks)
    where
      unnamed : (nodes : List ℕ) → SpellsNodes (first_word (behind_word line)) nodes → ⊥
      unnamed nodes x = absent nodes (subst (λ r. SpellsNodes (first_word r) nodes) (sym is_rest) x)

      asks : ¬ Asks line
      asks (by_check nodes x) = unnamed nodes x.1
      asks (by_path via x) = apart word _ _ e (is_first ∙ x.0) (λ d. omega (arith, d))
      asks (by_branch via x) = apart word _ _ e (is_first ∙ x.0) (λ d. omega (arith, d))
      asks (by_why v x) = apart word _ _ e (is_first ∙ x.0) (λ d. omega (arith, d))

  pub none_extents : word ≡ codes "extents" → ((via : Via) → IsIndex via → words rest ≢ via_word via ∷ []) → NoCommand line × (¬ Asks line)
  none_extents e absent = ((not_quiet, other), no_asks _ e (λ d. omega (arith, d)) (λ d. omega (arith, d)) (λ d. omega (arith, d)) (λ d. omega (arith, d)))
    where
      other : (c : Command) → IsSpelled line c → ⊥
      other (extents via) h = absent via h.1 (follows _ _ h.0)
      other (change d) h = clash _ e (change d) h (λ z. (no_query d).no_extents (sym z))
      other c h = clash _ e c h (λ d. omega (arith, d))

  pub none_sizes : word ≡ codes "sizes" → words rest ≢ [] → NoCommand line × (¬ Asks line)
  none_sizes e absent = ((not_quiet, other), no_asks _ e (λ d. omega (arith, d)) (λ d. omega (arith, d)) (λ d. omega (arith, d)) (λ d. omega (arith, d)))
    where
      other : (c : Command) → IsSpelled line c → ⊥
      other sizes h = absent (follows _ _ h)
      other (change d) h = clash _ e (change d) h (λ z. (no_query d).no_sizes (sym z))
      other c h = clash _ e c h (λ d. omega (arith, d))

  pub none_save : word ≡ codes "save" → words rest ≢ [] → NoCommand line × (¬ Asks line)
  none_save e absent = ((not_quiet, other), no_asks _ e (λ d. omega (arith, d)) (λ d. omega (arith, d)) (λ d. omega (arith, d)) (λ d. omega (arith, d)))
    where
      other : (c : Command) → IsSpelled line c → ⊥
      other save h = absent (follows _ _ h)
      other (change d) h = clash _ e (change d) h (λ z. (no_query d).no_save (sym z))
      other c h = clash _ e c h (λ d. omega (arith, d))

  pub none_forget : word ≡ codes "forget" → ((kind : Kind) → words rest ≢ kind_word kind ∷ []) → NoCommand line × (¬ Asks line)
  none_forget e absent = ((not_quiet, other), no_asks _ e (λ d. omega (arith, d)) (λ d. omega (arith, d)) (λ d. omega (arith, d)) (λ d. omega (arith, d)))
    where
      other : (c : Command) → IsSpelled line c → ⊥
      other (forget kind) h = absent kind (follows _ _ h)
      other (change d) h = clash _ e (change d) h (λ z. (no_query d).no_forget (sym z))
      other c h = clash _ e c h (λ d. omega (arith, d))

  pub none_begin : word ≡ codes "begin" → words rest ≢ [] → NoCommand line × (¬ Asks line)
  none_begin e absent = ((not_quiet, other), no_asks _ e (λ d. omega (arith, d)) (λ d. omega (arith, d)) (λ d. omega (arith, d)) (λ d. omega (arith, d)))
    where
      other : (c : Command) → IsSpelled line c → ⊥
      other begin h = absent (follows _ _ h)
      other (change d) h = clash _ e (change d) h (λ z. (no_query d).no_begin (sym z))
      other c h = clash _ e c h (λ d. omega (arith, d))

  pub none_end : word ≡ codes "end" → words rest ≢ [] → NoCommand line × (¬ Asks line)
  none_end e absent = ((not_quiet, other), no_asks _ e (λ d. omega (arith, d)) (λ d. omega (arith, d)) (λ d. omega (arith, d)) (λ d. omega (arith, d)))
    where
      other : (c : Command) → IsSpelled line c → ⊥
      other end h = absent (follows _ _ h)
      other (change d) h = clash _ e (change d) h (λ z. (no_query d).no_end (sym z))
      other c h = clash _ e c h (λ d. omega (arith, d))

  -- what follows `insert`, or `delete`, spells no triple
  pub none_insert : word ≡ codes "insert" → ((t : Triple) → SpellsTriple rest t → ⊥) → NoCommand line
  none_insert e absent = (not_quiet, other)
    where
      other : (c : Command) → IsSpelled line c → ⊥
      other (insert t) h = absent t (subst (λ text. SpellsTriple text t) (sym is_rest) h.1)
      other (change d) h = clash _ e (change d) h (λ z. (no_query d).no_insert (sym z))
      other c h = clash _ e c h (λ d. omega (arith, d))

  pub none_delete : word ≡ codes "delete" → ((t : Triple) → SpellsTriple rest t → ⊥) → NoCommand line
  none_delete e absent = (not_quiet, other)
    where
      other : (c : Command) → IsSpelled line c → ⊥
      other (delete t) h = absent t (subst (λ text. SpellsTriple text t) (sym is_rest) h.1)
      other (change d) h = clash _ e (change d) h (λ z. (no_query d).no_delete (sym z))
      other c h = clash _ e c h (λ d. omega (arith, d))

  pub none_other : OpensTriple word → word ≢ codes "insert" → word ≢ codes "delete" → NoCommand line × (¬ Asks line)
  none_other o i d = ((not_quiet, other), asks)
    where
      other : (c : Command) → IsSpelled line c → ⊥
      other (change (node t)) h = o.group.report.other.no_node (starts (change (node t)) h)
      other (change (link u v)) h = o.group.report.other.no_link (starts (change (link u v)) h)
      other (change (unlink u v)) h = o.group.report.other.no_unlink (starts (change (unlink u v)) h)
      other (change (drop u)) h = o.group.report.other.no_drop (starts (change (drop u)) h)
      other (change (relabel u t)) h = o.group.report.other.no_relabel (starts (change (relabel u t)) h)
      other begin h = o.no_begin (starts begin h)
      other end h = o.no_end (starts end h)
      other (insert t) h = i (starts (insert t) h)
      other (delete t) h = d (starts (delete t) h)
      other (path via e) h = o.group.report.no_path (starts (path via e) h)
      other (branch via q) h = o.group.report.no_branch (starts (branch via q) h)
      other (why v e) h = o.group.report.no_why (starts (why v e) h)
      other (check nodes e) h = o.group.report.no_check (starts (check nodes e) h)
      other (extents via) h = o.group.no_extents (starts (extents via) h)
      other sizes h = o.group.no_sizes (starts sizes h)
      other save h = o.group.no_save (starts save h)
      other (forget kind) h = o.group.no_forget (starts (forget kind) h)

      asks : ¬ Asks line
      asks (by_path via a) = o.group.report.no_path (is_first ∙ a.0)
      asks (by_branch via a) = o.group.report.no_branch (is_first ∙ a.0)
      asks (by_why v a) = o.group.report.no_why (is_first ∙ a.0)
      asks (by_check nodes a) = o.group.report.no_check (is_first ∙ a.0)

-- a line that says nothing is no command
pub silent : (line : List ℕ) → IsQuiet line → (c : Command) → IsSpelled line c → ⊥
silent line q c h = loud c h (subst OpensNothing (begins line c h) (quiet_opens line _ _ (is_split line) q))
  where
    loud : (c : Command) → IsSpelled line c → OpensNothing (keyword c) → ⊥
    loud (change (node t)) h o = omega (arith, o)
    loud (change (link u v)) h o = omega (arith, o)
    loud (change (unlink u v)) h o = omega (arith, o)
    loud (change (drop u)) h o = omega (arith, o)
    loud (change (relabel u t)) h o = omega (arith, o)
    loud begin h o = omega (arith, o)
    loud end h o = omega (arith, o)
    loud (insert t) h o = omega (arith, o)
    loud (delete t) h o = omega (arith, o)
    loud (path via e) h o = omega (arith, o)
    loud (branch via q) h o = omega (arith, o)
    loud (why v e) h o = omega (arith, o)
    loud (check nodes e) h o = omega (arith, o)
    loud (extents via) h o = omega (arith, o)
    loud sizes h o = omega (arith, o)
    loud save h o = omega (arith, o)
    loud (forget kind) h o = omega (arith, o)

-- a line that asks nothing passes no limit on expressions
pub asks_nothing : (limits : Limits) (line : List ℕ) → ¬ Asks line → ¬ PassesLimit limits line
asks_nothing limits line absent h = absent h.0

-- nor does a line that says nothing
pub quiet_free : (line : List ℕ) → IsQuiet line → ¬ Asks line
quiet_free line q a = opened a (quiet_opens line _ _ (is_split line) q)
  where
    opened : Asks line → OpensNothing (first_word line) → ⊥
    opened (by_path via x) o = (let n : OpensNothing (codes "path") = subst OpensNothing x.0 o in omega (arith, n))
    opened (by_branch via x) o = (let n : OpensNothing (codes "branch") = subst OpensNothing x.0 o in omega (arith, n))
    opened (by_why v x) o = (let n : OpensNothing (codes "why") = subst OpensNothing x.0 o in omega (arith, n))
    opened (by_check nodes x) o = (let n : OpensNothing (codes "check") = subst OpensNothing x.0 o in omega (arith, n))

-- a command without an expression asks nothing
pub free : (limits : Limits) (line : List ℕ) (c : Command) → IsSpelled line c → IsWhole c → ¬ PassesLimit limits line
free limits line c h w k = (let other = no_part c w in asks_otherwise line _ (begins line c h) other.no_path other.no_branch other.no_why other.no_check k.0)

pub opens_node : (line word : List ℕ) → SaysNode line word → first_word line ≡ codes "node"
opens_node line word s = (head_word line _ _ _ _ (is_split line) s).0

pub node_free : (limits : Limits) (line word : List ℕ) → SaysNode line word → ¬ PassesLimit limits line
node_free limits line word s k = asks_otherwise line _ (opens_node line word s) (λ d. omega (arith, d)) (λ d. omega (arith, d)) (λ d. omega (arith, d)) (λ d. omega (arith, d)) k.0

-- the same of a line that gives a node a label
pub opens_relabel : (line : List ℕ) (u : ℕ) (word : List ℕ) → SaysRelabel line u word → first_word line ≡ codes "relabel"
opens_relabel line u word s = (head_word line _ _ _ _ (is_split line) s.0).0

pub relabel_free : (limits : Limits) (line : List ℕ) (u : ℕ) (word : List ℕ) → SaysRelabel line u word → ¬ PassesLimit limits line
relabel_free limits line u word s k = asks_otherwise line _ (opens_relabel line u word s) (λ d. omega (arith, d)) (λ d. omega (arith, d)) (λ d. omega (arith, d)) (λ d. omega (arith, d)) k.0

-- the word behind the node spells no label
pub relabel_bad : (line : List ℕ) (u : ℕ) (word : List ℕ) → SaysRelabel line u word → ((t : List ℕ) → SpellsLabel word t → ⊥) → NoCommand line
relabel_bad line u word s absent = (quiet, other)
  where
    quiet : ¬ IsQuiet line
    quiet q = (let o : OpensNothing (codes "relabel") = subst OpensNothing (opens_relabel line u word s) (quiet_opens line _ _ (is_split line) q) in omega (arith, o))

    other : (c : Command) → IsSpelled line c → ⊥
    other (change (relabel v t)) h = absent t (subst (λ w. SpellsLabel w t) (third_same (sym h.1 ∙ s.0)) h.3)
    other c h = apart (first_word line) _ _ (opens_relabel line u word s) (begins line c h) (λ d. omega (arith, d))

-- the word behind `node` spells no label
pub node_bad : (line word : List ℕ) → SaysNode line word → ((t : List ℕ) → SpellsLabel word t → ⊥) → NoCommand line
node_bad line word s absent = (quiet, other)
  where
    quiet : ¬ IsQuiet line
    quiet q = (let o : OpensNothing (codes "node") = subst OpensNothing (opens_node line word s) (quiet_opens line _ _ (is_split line) q) in omega (arith, o))

    other : (c : Command) → IsSpelled line c → ⊥
    other (change (node t)) h = absent t (subst (λ w. SpellsLabel w t) (second_same (sym h.1 ∙ s)) h.2)
    other c h = apart (first_word line) _ _ (opens_node line word s) (begins line c h) (λ d. omega (arith, d))

-- what follows the first word is no expression
pub triple_free : (limits : Limits) (line word text : List ℕ) → SaysTriple word line text → OpensWhole (lead word) → ¬ PassesLimit limits line
triple_free limits line word text s o k = asks_otherwise line word s.0 o.no_path o.no_branch o.no_why o.no_check k.0

pub opens_insert : OpensWhole (lead (codes "insert"))
opens_insert = record { no_node = λ e. omega (arith, e); no_relabel = λ e. omega (arith, e); no_path = λ e. omega (arith, e); no_branch = λ e. omega (arith, e); no_why = λ e. omega (arith, e); no_check = λ e. omega (arith, e) }

pub opens_delete : OpensWhole (lead (codes "delete"))
opens_delete = record { no_node = λ e. omega (arith, e); no_relabel = λ e. omega (arith, e); no_path = λ e. omega (arith, e); no_branch = λ e. omega (arith, e); no_why = λ e. omega (arith, e); no_check = λ e. omega (arith, e) }

-- the text behind `insert`, or `delete`, spells no triple
pub insert_bad : (line text : List ℕ) → SaysTriple (codes "insert") line text → ((t : Triple) → SpellsTriple text t → ⊥) → NoCommand line
insert_bad line text s absent =
    none_insert line (first_word line) (behind_word line) (λ o. (let n : OpensNothing (codes "insert") = subst OpensNothing s.0 o in omega (arith, n))) refl refl s.0
    (λ t h. absent t (subst (λ x. SpellsTriple x t) (sym s.1) h))

pub delete_bad : (line text : List ℕ) → SaysTriple (codes "delete") line text → ((t : Triple) → SpellsTriple text t → ⊥) → NoCommand line
delete_bad line text s absent =
    none_delete line (first_word line) (behind_word line) (λ o. (let n : OpensNothing (codes "delete") = subst OpensNothing s.0 o in omega (arith, n))) refl refl s.0
    (λ t h. absent t (subst (λ x. SpellsTriple x t) (sym s.1) h))

-- the line asks for what spells no expression
pub path_bad : (line : List ℕ) (via : Via) (text : List ℕ) → SaysQuery (codes "path") line via text → ((e : Expr) → SpellsPath text e → ⊥) → NoCommand line
path_bad line via text s absent =
    none_path line (first_word line) (behind_word line) (λ o. (let n : OpensNothing (codes "path") = subst OpensNothing s.0.0 o in omega (arith, n))) refl refl s.0.0
    (λ v x h. absent x (subst (λ t. SpellsPath t x) (sym s.1) h.1))

pub branch_bad : (line : List ℕ) (via : Via) (text : List ℕ) → SaysQuery (codes "branch") line via text → ((q : Branch) → SpellsBranch text q → ⊥) → NoCommand line
branch_bad line via text s absent =
    none_branch line (first_word line) (behind_word line) (λ o. (let n : OpensNothing (codes "branch") = subst OpensNothing s.0.0 o in omega (arith, n))) refl refl s.0.0
    (λ v x h. absent x (subst (λ t. SpellsBranch t x) (sym s.1) h.1))

pub why_bad : (line : List ℕ) (v : ℕ) (text : List ℕ) → SaysWhy line v text → ((e : Expr) → SpellsPath text e → ⊥) → NoCommand line
why_bad line v text s absent =
    none_why line (first_word line) (behind_word line) (λ o. (let n : OpensNothing (codes "why") = subst OpensNothing s.0.0 o in omega (arith, n))) refl refl s.0.0
    (λ u x h. absent x (subst (λ t. SpellsPath t x) (sym s.1) h.1))

pub check_bad : (line word text : List ℕ) → SaysCheck line word text → ((e : Expr) → SpellsPath text e → ⊥) → NoCommand line
check_bad line word text s absent =
    none_check line (first_word line) (behind_word line) (λ o. (let n : OpensNothing (codes "check") = subst OpensNothing s.0 o in omega (arith, n))) refl refl s.0
    (λ u x h. absent x (subst (λ t. SpellsPath t x) (sym s.2) h.1))

-- the word behind `check` spells no nodes
pub nodes_bad : (line word text : List ℕ) → SaysCheck line word text → ((nodes : List ℕ) → SpellsNodes word nodes → ⊥) → NoCommand line × (¬ Asks line)
nodes_bad line word text s absent =
    no_check line (first_word line) (behind_word line) (λ o. (let n : OpensNothing (codes "check") = subst OpensNothing s.0 o in omega (arith, n))) refl refl s.0
    (λ nodes h. absent nodes (subst (λ w. SpellsNodes w nodes) (sym s.1) h))

-- what is read if the word behind `node` gave this error
pub failed_node : (limits : Limits) (line word : List ℕ) (e : ScriptError) → SaysNode line word → (e ≢ Limit) → (e ≡ Bad → (t : List ℕ) → SpellsLabel word t → ⊥)
    → ReadsCommand limits line (Err e)
failed_node limits line word Bad s n f = (node_bad line word s (f refl), node_free limits line word s)
failed_node limits line word Limit s n f = absurd (n refl)
failed_node limits line word Memory s n f = tt

-- or the one behind `relabel` and a node
pub failed_relabel : (limits : Limits) (line : List ℕ) (u : ℕ) (word : List ℕ) (e : ScriptError) → SaysRelabel line u word → (e ≢ Limit)
    → (e ≡ Bad → (t : List ℕ) → SpellsLabel word t → ⊥) → ReadsCommand limits line (Err e)
failed_relabel limits line u word Bad s n f = (relabel_bad line u word s (f refl), relabel_free limits line u word s)
failed_relabel limits line u word Limit s n f = absurd (n refl)
failed_relabel limits line u word Memory s n f = tt

-- or the text behind `insert` or `delete`
pub failed_triple : (limits : Limits) (line word text : List ℕ) (e : ScriptError) → SaysTriple word line text → OpensWhole (lead word) → (e ≢ Limit)
    → (e ≡ Bad → NoCommand line) → ReadsCommand limits line (Err e)
failed_triple limits line word text Bad s o n f = (f refl, triple_free limits line word text s o)
failed_triple limits line word text Limit s o n f = absurd (n refl)
failed_triple limits line word text Memory s o n f = tt

-- and if that behind `check` did
pub failed_nodes : (limits : Limits) (line word text : List ℕ) (e : ScriptError) → SaysCheck line word text → (e ≢ Limit)
    → (e ≡ Bad → (nodes : List ℕ) → SpellsNodes word nodes → ⊥) → ReadsCommand limits line (Err e)
failed_nodes limits line word text Bad s n f = (let none = nodes_bad line word text s (f refl) in (none.0, asks_nothing limits line none.1))
failed_nodes limits line word text Limit s n f = absurd (n refl)
failed_nodes limits line word text Memory s n f = tt

-- the expression of the line is what its text is
pub text_within : (limits : Limits) (line text : List ℕ) → text ≡ expression_text line → (IsTrue (is_past limits text) → ⊥) → ¬ PassesLimit limits line
text_within limits line text s within k = within (subst (λ t. IsTrue (is_past limits t)) (sym s) k.1)

-- what is read if the text of a line that asks gave this error
failed_text : (limits : Limits) (line text : List ℕ) (e : ScriptError) → Asks line → text ≡ expression_text line → (e ≡ Limit ↔ IsTrue (is_past limits text))
    → (e ≡ Bad → NoCommand line) → ReadsCommand limits line (Err e)
failed_text limits line text Bad a s l f = (f refl, text_within limits line text s (λ p. (let b : ◌≡◌ {A = ScriptError} Bad Limit = l.1 p in cc)))
failed_text limits line text Limit a s l f = (a, subst (λ t. IsTrue (is_past limits t)) s (l.0 refl))
failed_text limits line text Memory a s l f = tt

pub failed_path : (limits : Limits) (line : List ℕ) (via : Via) (text : List ℕ) (e : ScriptError) → SaysQuery (codes "path") line via text → (e ≡ Limit ↔ IsTrue (is_past limits text))
    → (e ≡ Bad → (x : Expr) → SpellsPath text x → ⊥) → ReadsCommand limits line (Err e)
failed_path limits line via text e s l f = failed_text limits line text e (by_path via s.0) s.1 l (λ i. path_bad line via text s (f i))

pub failed_branch : (limits : Limits) (line : List ℕ) (via : Via) (text : List ℕ) (e : ScriptError) → SaysQuery (codes "branch") line via text
    → (e ≡ Limit ↔ IsTrue (is_past limits text)) → (e ≡ Bad → (q : Branch) → SpellsBranch text q → ⊥) → ReadsCommand limits line (Err e)
failed_branch limits line via text e s l f = failed_text limits line text e (by_branch via s.0) s.1 l (λ i. branch_bad line via text s (f i))

pub failed_why : (limits : Limits) (line : List ℕ) (v : ℕ) (text : List ℕ) (e : ScriptError) → SaysWhy line v text → (e ≡ Limit ↔ IsTrue (is_past limits text))
    → (e ≡ Bad → (x : Expr) → SpellsPath text x → ⊥) → ReadsCommand limits line (Err e)
failed_why limits line v text e s l f = failed_text limits line text e (by_why v s.0) s.1 l (λ i. why_bad line v text s (f i))

pub failed_check : (limits : Limits) (line word text nodes : List ℕ) (e : ScriptError) → SaysCheck line word text → SpellsNodes word nodes → (e ≡ Limit ↔ IsTrue (is_past limits text))
    → (e ≡ Bad → (x : Expr) → SpellsPath text x → ⊥) → ReadsCommand limits line (Err e)
failed_check limits line word text nodes e s n l f =
    failed_text limits line text e (by_check nodes (s.0, subst (λ w. SpellsNodes w nodes) s.1 n)) s.2 l (λ i. check_bad line word text s (f i))
