-- What clap reads of the usage line's words, and of those without flags in each order.
use Rattle.std.proofs.Common.{◌≡◌, ℕ, Bool, List, [], ◌∷◌, ◌++◌, Option, Some, None, true, false, codes, ap}
use Rattle.std.specs.Prelude.{IfSome}
use Rattle.clap.proofs.OnLiterals.{clap_on_literals}
use Rattle.command_line.specs.Usage.{HasPlain, HasPlainTexts, IsPlainText, Order, ScriptUsage, Usage, of_script, of_seed, of_check, flagless, arguments_by, arguments_of_seed, arguments_of_check, arguments_with, words_in, words_of}
use Rattle.command_line.specs.Usage.{script_level_graph, graph_script_level, graph_level_script, level_script_graph, level_graph_script}
use Rattle.command_line.specs.Words.{form_of, form_read, read}
use Rattle.command_line.specs.Arguments.{arguments_form}
use Rattle.command_line.proofs.Marks.{Marked, read_marked}

abbrev option_marks : List ℕ → Option (List ℕ) → List Marked
option_marks name None = []
option_marks name (Some text) = (false, name) ∷ (true, text) ∷ []

abbrev flag_marks : List ℕ → Bool → List Marked
flag_marks name false = []
flag_marks name true = (false, name) ∷ []

abbrev script_marks : ScriptUsage → List Marked
script_marks u = (true, u.script) ∷ []

abbrev graph_marks : ScriptUsage → List Marked
graph_marks u = option_marks (codes "--graph") u.graph

abbrev level_marks : ScriptUsage → List Marked
level_marks u = option_marks (codes "--k") u.k

abbrev one_marks : ScriptUsage → List Marked
one_marks u = flag_marks (codes "--without-one") u.without_one

abbrev fb_marks : ScriptUsage → List Marked
fb_marks u = flag_marks (codes "--without-fb") u.without_fb

abbrev bk_marks : ScriptUsage → List Marked
bk_marks u = flag_marks (codes "--with-bk") u.with_bk

abbrev marks_of : ScriptUsage → List Marked
marks_of u = script_marks u ++ (graph_marks u ++ (level_marks u ++ (one_marks u ++ (fb_marks u ++ bk_marks u))))

abbrev marks_in : Order → ScriptUsage → List Marked
marks_in script_level_graph u = script_marks u ++ (level_marks u ++ graph_marks u)
marks_in graph_script_level u = graph_marks u ++ (script_marks u ++ level_marks u)
marks_in graph_level_script u = graph_marks u ++ (level_marks u ++ script_marks u)
marks_in level_script_graph u = level_marks u ++ (script_marks u ++ graph_marks u)
marks_in level_graph_script u = level_marks u ++ (graph_marks u ++ script_marks u)

abbrev used : List ℕ → Option (List ℕ) → Option (List ℕ) → Bool → Bool → Bool → ScriptUsage
used script graph k one fb bk = record { script = script; graph = graph; k = k; without_one = one; without_fb = fb; with_bk = bk }

plain_by_parts : (s : List ℕ) (g k : Option (List ℕ)) (one fb bk : Bool) → IsPlainText s → IfSome g IsPlainText → IfSome k IsPlainText
    → read (words_of (of_script (used s g k one fb bk))) ≡ Some (arguments_with (used s g k one fb bk))
unfolding clap_on_literals
plain_by_parts s None None false false false p q r = read_marked (marks_of (used s None None false false false)) (p, tt)
plain_by_parts s None None false false true p q r = read_marked (marks_of (used s None None false false true)) (p, tt)
plain_by_parts s None None false true false p q r = read_marked (marks_of (used s None None false true false)) (p, tt)
plain_by_parts s None None false true true p q r = read_marked (marks_of (used s None None false true true)) (p, tt)
plain_by_parts s None None true false false p q r = read_marked (marks_of (used s None None true false false)) (p, tt)
plain_by_parts s None None true false true p q r = read_marked (marks_of (used s None None true false true)) (p, tt)
plain_by_parts s None None true true false p q r = read_marked (marks_of (used s None None true true false)) (p, tt)
plain_by_parts s None None true true true p q r = read_marked (marks_of (used s None None true true true)) (p, tt)
plain_by_parts s None (Some k) false false false p q r = read_marked (marks_of (used s None (Some k) false false false)) (p, (r, tt))
plain_by_parts s None (Some k) false false true p q r = read_marked (marks_of (used s None (Some k) false false true)) (p, (r, tt))
plain_by_parts s None (Some k) false true false p q r = read_marked (marks_of (used s None (Some k) false true false)) (p, (r, tt))
plain_by_parts s None (Some k) false true true p q r = read_marked (marks_of (used s None (Some k) false true true)) (p, (r, tt))
plain_by_parts s None (Some k) true false false p q r = read_marked (marks_of (used s None (Some k) true false false)) (p, (r, tt))
plain_by_parts s None (Some k) true false true p q r = read_marked (marks_of (used s None (Some k) true false true)) (p, (r, tt))
plain_by_parts s None (Some k) true true false p q r = read_marked (marks_of (used s None (Some k) true true false)) (p, (r, tt))
plain_by_parts s None (Some k) true true true p q r = read_marked (marks_of (used s None (Some k) true true true)) (p, (r, tt))
plain_by_parts s (Some g) None false false false p q r = read_marked (marks_of (used s (Some g) None false false false)) (p, (q, tt))
plain_by_parts s (Some g) None false false true p q r = read_marked (marks_of (used s (Some g) None false false true)) (p, (q, tt))
plain_by_parts s (Some g) None false true false p q r = read_marked (marks_of (used s (Some g) None false true false)) (p, (q, tt))
plain_by_parts s (Some g) None false true true p q r = read_marked (marks_of (used s (Some g) None false true true)) (p, (q, tt))
plain_by_parts s (Some g) None true false false p q r = read_marked (marks_of (used s (Some g) None true false false)) (p, (q, tt))
plain_by_parts s (Some g) None true false true p q r = read_marked (marks_of (used s (Some g) None true false true)) (p, (q, tt))
plain_by_parts s (Some g) None true true false p q r = read_marked (marks_of (used s (Some g) None true true false)) (p, (q, tt))
plain_by_parts s (Some g) None true true true p q r = read_marked (marks_of (used s (Some g) None true true true)) (p, (q, tt))
plain_by_parts s (Some g) (Some k) false false false p q r = read_marked (marks_of (used s (Some g) (Some k) false false false)) (p, (q, (r, tt)))
plain_by_parts s (Some g) (Some k) false false true p q r = read_marked (marks_of (used s (Some g) (Some k) false false true)) (p, (q, (r, tt)))
plain_by_parts s (Some g) (Some k) false true false p q r = read_marked (marks_of (used s (Some g) (Some k) false true false)) (p, (q, (r, tt)))
plain_by_parts s (Some g) (Some k) false true true p q r = read_marked (marks_of (used s (Some g) (Some k) false true true)) (p, (q, (r, tt)))
plain_by_parts s (Some g) (Some k) true false false p q r = read_marked (marks_of (used s (Some g) (Some k) true false false)) (p, (q, (r, tt)))
plain_by_parts s (Some g) (Some k) true false true p q r = read_marked (marks_of (used s (Some g) (Some k) true false true)) (p, (q, (r, tt)))
plain_by_parts s (Some g) (Some k) true true false p q r = read_marked (marks_of (used s (Some g) (Some k) true true false)) (p, (q, (r, tt)))
plain_by_parts s (Some g) (Some k) true true true p q r = read_marked (marks_of (used s (Some g) (Some k) true true true)) (p, (q, (r, tt)))

seed_read : (seed : List ℕ) → IsPlainText seed → read (words_of (of_seed seed)) ≡ Some (arguments_of_seed seed)
unfolding clap_on_literals
seed_read seed plain = read_marked ((false, codes "--make") ∷ (true, seed) ∷ []) (plain, tt)

check_read : (file : List ℕ) → IsPlainText file → read (words_of (of_check file)) ≡ Some (arguments_of_check file)
unfolding clap_on_literals
check_read file plain = read_marked ((false, codes "--check") ∷ (true, file) ∷ []) (plain, tt)

-- plain words are taken, with just these texts
pub plain_read : (u : Usage) → HasPlainTexts u → read (words_of u) ≡ Some (arguments_by u)
plain_read (of_script u) plain = plain_by_parts u.script u.graph u.k u.without_one u.without_fb u.with_bk plain.0 plain.1 plain.2
plain_read (of_seed seed) plain = seed_read seed plain
plain_read (of_check file) plain = check_read file plain

reordered_by_parts : (o : Order) (s : List ℕ) (g k : Option (List ℕ)) (one fb bk : Bool) → IsPlainText s → IfSome g IsPlainText → IfSome k IsPlainText
    → read (words_in o (used s g k one fb bk)) ≡ Some (arguments_with (used s g k false false false))
unfolding clap_on_literals
reordered_by_parts script_level_graph s None None one fb bk p q r = read_marked (marks_in script_level_graph (used s None None false false false)) (p, tt)
reordered_by_parts script_level_graph s None (Some k) one fb bk p q r = read_marked (marks_in script_level_graph (used s None (Some k) false false false)) (p, (r, tt))
reordered_by_parts script_level_graph s (Some g) None one fb bk p q r = read_marked (marks_in script_level_graph (used s (Some g) None false false false)) (p, (q, tt))
reordered_by_parts script_level_graph s (Some g) (Some k) one fb bk p q r = read_marked (marks_in script_level_graph (used s (Some g) (Some k) false false false)) (p, (r, (q, tt)))
reordered_by_parts graph_script_level s None None one fb bk p q r = read_marked (marks_in graph_script_level (used s None None false false false)) (p, tt)
reordered_by_parts graph_script_level s None (Some k) one fb bk p q r = read_marked (marks_in graph_script_level (used s None (Some k) false false false)) (p, (r, tt))
reordered_by_parts graph_script_level s (Some g) None one fb bk p q r = read_marked (marks_in graph_script_level (used s (Some g) None false false false)) (q, (p, tt))
reordered_by_parts graph_script_level s (Some g) (Some k) one fb bk p q r = read_marked (marks_in graph_script_level (used s (Some g) (Some k) false false false)) (q, (p, (r, tt)))
reordered_by_parts graph_level_script s None None one fb bk p q r = read_marked (marks_in graph_level_script (used s None None false false false)) (p, tt)
reordered_by_parts graph_level_script s None (Some k) one fb bk p q r = read_marked (marks_in graph_level_script (used s None (Some k) false false false)) (r, (p, tt))
reordered_by_parts graph_level_script s (Some g) None one fb bk p q r = read_marked (marks_in graph_level_script (used s (Some g) None false false false)) (q, (p, tt))
reordered_by_parts graph_level_script s (Some g) (Some k) one fb bk p q r = read_marked (marks_in graph_level_script (used s (Some g) (Some k) false false false)) (q, (r, (p, tt)))
reordered_by_parts level_script_graph s None None one fb bk p q r = read_marked (marks_in level_script_graph (used s None None false false false)) (p, tt)
reordered_by_parts level_script_graph s None (Some k) one fb bk p q r = read_marked (marks_in level_script_graph (used s None (Some k) false false false)) (r, (p, tt))
reordered_by_parts level_script_graph s (Some g) None one fb bk p q r = read_marked (marks_in level_script_graph (used s (Some g) None false false false)) (p, (q, tt))
reordered_by_parts level_script_graph s (Some g) (Some k) one fb bk p q r = read_marked (marks_in level_script_graph (used s (Some g) (Some k) false false false)) (r, (p, (q, tt)))
reordered_by_parts level_graph_script s None None one fb bk p q r = read_marked (marks_in level_graph_script (used s None None false false false)) (p, tt)
reordered_by_parts level_graph_script s None (Some k) one fb bk p q r = read_marked (marks_in level_graph_script (used s None (Some k) false false false)) (r, (p, tt))
reordered_by_parts level_graph_script s (Some g) None one fb bk p q r = read_marked (marks_in level_graph_script (used s (Some g) None false false false)) (q, (p, tt))
reordered_by_parts level_graph_script s (Some g) (Some k) one fb bk p q r = read_marked (marks_in level_graph_script (used s (Some g) (Some k) false false false)) (r, (q, (p, tt)))

pub plain_form : (u : Usage) → HasPlainTexts u → form_of (words_of u) ≡ arguments_form (arguments_by u)
plain_form u plain = ap form_read (plain_read u plain)

-- so are words without flags in another order
pub reordered_form : (o : Order) (u : ScriptUsage) → HasPlain u → form_of (words_in o u) ≡ arguments_form (arguments_with (flagless u))
reordered_form o u plain = ap form_read (reordered_by_parts o u.script u.graph u.k u.without_one u.without_fb u.with_bk plain.0 plain.1 plain.2)
