-- The forms of worked words, and laws on malformed words.
use Rattle.std.proofs.Common.{◌≡◌, ◌∙◌, ℕ, List, [], ◌∷◌, Option, Some, None, true, false, codes, refl, ap}
use Rattle.clap.proofs.OnLiterals.{clap_on_literals}
use Rattle.command_line.specs.Forms.{Form, makes, checks, neither, runs}
use Rattle.command_line.specs.Arguments.{level_of, make_with, run_with, seed_of}
use Rattle.command_line.specs.Usage.{IsPlainText, of_script, of_seed, of_check}
use Rattle.command_line.specs.Words.{form_of, form_read}
use Rattle.command_line.proofs.Marks.{read_marked}
use Rattle.command_line.proofs.Usages.{plain_form}

-- ---- worked words

abbrev run_of : Option (List ℕ) → ℕ → Form
run_of graph k = runs (record { script = codes "s"; graph = graph; k = k; without_one = false; without_fb = false; with_bk = false })

script_alone : form_of (codes "s" ∷ []) ≡ run_of None 2
unfolding clap_on_literals
script_alone = refl

all_three : form_of (codes "s" ∷ codes "--graph" ∷ codes "g" ∷ codes "--k" ∷ codes "0" ∷ []) ≡ run_of (Some (codes "g")) 0
unfolding clap_on_literals
all_three = refl

highest_level : form_of (codes "s" ∷ codes "--k" ∷ codes "8" ∷ []) ≡ run_of None 8
unfolding clap_on_literals
highest_level = refl

graph_first : form_of (codes "--graph" ∷ codes "g" ∷ codes "s" ∷ []) ≡ run_of (Some (codes "g")) 2
unfolding clap_on_literals
graph_first = refl

both_flags : form_of (codes "s" ∷ codes "--without-one" ∷ codes "--without-fb" ∷ [])
    ≡ runs (record { script = codes "s"; graph = None; k = 2; without_one = true; without_fb = true; with_bk = false })
unfolding clap_on_literals
both_flags = refl

flag_first : form_of (codes "--without-fb" ∷ codes "s" ∷ []) ≡ runs (record { script = codes "s"; graph = None; k = 2; without_one = false; without_fb = true; with_bk = false })
unfolding clap_on_literals
flag_first = refl

bounded_flag : form_of (codes "s" ∷ codes "--with-bk" ∷ []) ≡ runs (record { script = codes "s"; graph = None; k = 2; without_one = false; without_fb = false; with_bk = true })
unfolding clap_on_literals
bounded_flag = refl

seed_alone : form_of (codes "--make" ∷ codes "1" ∷ []) ≡ makes 1
unfolding clap_on_literals
seed_alone = refl

seed_with_zeros : form_of (codes "--make" ∷ codes "00000000000000000001" ∷ []) ≡ makes 1
unfolding clap_on_literals
seed_with_zeros = refl

greatest_seed : form_of (codes "--make" ∷ codes "18446744073709551615" ∷ []) ≡ makes 18446744073709551615
unfolding clap_on_literals
greatest_seed = refl

file_alone : form_of (codes "--check" ∷ codes "f" ∷ []) ≡ checks (codes "f")
unfolding clap_on_literals
file_alone = refl

file_named_help : form_of (codes "--check" ∷ codes "help" ∷ []) ≡ checks (codes "help")
unfolding clap_on_literals
file_named_help = refl

file_behind_sign : form_of (codes "--check=--check" ∷ []) ≡ checks (codes "--check")
unfolding clap_on_literals
file_behind_sign = refl

empty_file_name : form_of (codes "--check" ∷ [] ∷ []) ≡ checks []
unfolding clap_on_literals
empty_file_name = refl

-- what clap offers beside the usage line's words
with_equals_sign : form_of (codes "s" ∷ codes "--graph=g" ∷ []) ≡ run_of (Some (codes "g")) 2
unfolding clap_on_literals
with_equals_sign = refl

-- a script may be named as a subcommand would be
named_help : form_of (codes "help" ∷ []) ≡ runs (record { script = codes "help"; graph = None; k = 2; without_one = false; without_fb = false; with_bk = false })
unfolding clap_on_literals
named_help = refl

-- to clap an empty word is a text like others
empty_name : form_of ([] ∷ []) ≡ runs (record { script = []; graph = None; k = 2; without_one = false; without_fb = false; with_bk = false })
unfolding clap_on_literals
empty_name = refl

-- ---- malformed words

no_words : form_of [] ≡ neither
unfolding clap_on_literals
no_words = refl

call_for_help : form_of (codes "--help" ∷ []) ≡ neither
unfolding clap_on_literals
call_for_help = refl

help_behind : form_of (codes "s" ∷ codes "--help" ∷ []) ≡ neither
unfolding clap_on_literals
help_behind = refl

level_nine : form_of (codes "s" ∷ codes "--k" ∷ codes "9" ∷ []) ≡ neither
unfolding clap_on_literals
level_nine = refl

two_digits : form_of (codes "s" ∷ codes "--k" ∷ codes "02" ∷ []) ≡ neither
unfolding clap_on_literals
two_digits = refl

unknown_option : form_of (codes "s" ∷ codes "--deep" ∷ []) ≡ neither
unfolding clap_on_literals
unknown_option = refl

flag_with_text : form_of (codes "s" ∷ codes "--without-one=false" ∷ []) ≡ neither
unfolding clap_on_literals
flag_with_text = refl

flag_twice : form_of (codes "s" ∷ codes "--without-one" ∷ codes "--without-one" ∷ []) ≡ neither
unfolding clap_on_literals
flag_twice = refl

seed_too_great : form_of (codes "--make" ∷ codes "18446744073709551616" ∷ []) ≡ neither
unfolding clap_on_literals
seed_too_great = refl

seed_too_long : form_of (codes "--make" ∷ codes "000000000000000000001" ∷ []) ≡ neither
unfolding clap_on_literals
seed_too_long = refl

seed_with_sign : form_of (codes "--make" ∷ codes "+1" ∷ []) ≡ neither
unfolding clap_on_literals
seed_with_sign = refl

empty_seed : form_of (codes "--make" ∷ [] ∷ []) ≡ neither
unfolding clap_on_literals
empty_seed = refl

seed_and_graph : form_of (codes "--make" ∷ codes "1" ∷ codes "--graph" ∷ codes "g" ∷ []) ≡ neither
unfolding clap_on_literals
seed_and_graph = refl

seed_and_level : form_of (codes "--make" ∷ codes "1" ∷ codes "--k" ∷ codes "2" ∷ []) ≡ neither
unfolding clap_on_literals
seed_and_level = refl

seed_and_flag : form_of (codes "--make" ∷ codes "1" ∷ codes "--without-one" ∷ []) ≡ neither
unfolding clap_on_literals
seed_and_flag = refl

seed_and_other_flag : form_of (codes "--without-fb" ∷ codes "--make" ∷ codes "1" ∷ []) ≡ neither
unfolding clap_on_literals
seed_and_other_flag = refl

seed_and_bounded : form_of (codes "--make" ∷ codes "1" ∷ codes "--with-bk" ∷ []) ≡ neither
unfolding clap_on_literals
seed_and_bounded = refl

check_and_graph : form_of (codes "--check" ∷ codes "f" ∷ codes "--graph" ∷ codes "g" ∷ []) ≡ neither
unfolding clap_on_literals
check_and_graph = refl

check_and_level : form_of (codes "--k" ∷ codes "2" ∷ codes "--check" ∷ codes "f" ∷ []) ≡ neither
unfolding clap_on_literals
check_and_level = refl

check_and_flag : form_of (codes "--check" ∷ codes "f" ∷ codes "--without-one" ∷ []) ≡ neither
unfolding clap_on_literals
check_and_flag = refl

check_and_other_flag : form_of (codes "--without-fb" ∷ codes "--check" ∷ codes "f" ∷ []) ≡ neither
unfolding clap_on_literals
check_and_other_flag = refl

check_and_bounded : form_of (codes "--check" ∷ codes "f" ∷ codes "--with-bk" ∷ []) ≡ neither
unfolding clap_on_literals
check_and_bounded = refl

check_and_bad_seed : form_of (codes "--make" ∷ codes "x" ∷ codes "--check" ∷ codes "f" ∷ []) ≡ neither
unfolding clap_on_literals
check_and_bad_seed = refl

check_and_help : form_of (codes "--check" ∷ codes "f" ∷ codes "--help" ∷ []) ≡ neither
unfolding clap_on_literals
check_and_help = refl

no_file : form_of (codes "--check" ∷ []) ≡ neither
unfolding clap_on_literals
no_file = refl

no_file_but_flag : form_of (codes "--check" ∷ codes "--with-bk" ∷ []) ≡ neither
unfolding clap_on_literals
no_file_but_flag = refl

no_script : form_of (codes "--graph" ∷ codes "g" ∷ []) ≡ neither
unfolding clap_on_literals
no_script = refl

no_text : form_of (codes "s" ∷ codes "--graph" ∷ []) ≡ neither
unfolding clap_on_literals
no_text = refl

lone_hyphens : form_of (codes "--" ∷ []) ≡ neither
unfolding clap_on_literals
lone_hyphens = refl

-- ---- malformed words, for all plain texts

second_script : (s t : List ℕ) → IsPlainText s → IsPlainText t → form_of (s ∷ t ∷ []) ≡ neither
unfolding clap_on_literals
second_script s t p q = ap form_read (read_marked ((true, s) ∷ (true, t) ∷ []) (p, (q, tt)))

repeated_graph : (s g h : List ℕ) → IsPlainText s → IsPlainText g → IsPlainText h
    → form_of (s ∷ codes "--graph" ∷ g ∷ codes "--graph" ∷ h ∷ []) ≡ neither
unfolding clap_on_literals
repeated_graph s g h p q r =
    ap form_read (read_marked ((true, s) ∷ (false, codes "--graph") ∷ (true, g) ∷ (false, codes "--graph") ∷ (true, h) ∷ []) (p, (q, (r, tt))))

repeated_level : (s m n : List ℕ) → IsPlainText s → IsPlainText m → IsPlainText n
    → form_of (s ∷ codes "--k" ∷ m ∷ codes "--k" ∷ n ∷ []) ≡ neither
unfolding clap_on_literals
repeated_level s m n p q r =
    ap form_read (read_marked ((true, s) ∷ (false, codes "--k") ∷ (true, m) ∷ (false, codes "--k") ∷ (true, n) ∷ []) (p, (q, (r, tt))))

-- a text that names no level
no_level : (s n : List ℕ) → IsPlainText s → IsPlainText n → level_of n ≡ None → form_of (s ∷ codes "--k" ∷ n ∷ []) ≡ neither
no_level s n p q none =
    plain_form (of_script (record { script = s; graph = None; k = Some n; without_one = false; without_fb = false; with_bk = false })) (p, tt, q) ∙ ap (λ level. run_with (Some s) None level false false false) none

-- a script beside a seed
seed_and_script : (s t : List ℕ) → IsPlainText s → IsPlainText t → form_of (codes "--make" ∷ t ∷ s ∷ []) ≡ neither
unfolding clap_on_literals
seed_and_script s t p q = ap form_read (read_marked ((false, codes "--make") ∷ (true, t) ∷ (true, s) ∷ []) (q, (p, tt)))

-- a file to check beside a script, in both orders, or a seed, or another file
check_and_script : (f s : List ℕ) → IsPlainText f → IsPlainText s → form_of (codes "--check" ∷ f ∷ s ∷ []) ≡ neither
unfolding clap_on_literals
check_and_script f s p q = ap form_read (read_marked ((false, codes "--check") ∷ (true, f) ∷ (true, s) ∷ []) (p, (q, tt)))

script_and_check : (s f : List ℕ) → IsPlainText s → IsPlainText f → form_of (s ∷ codes "--check" ∷ f ∷ []) ≡ neither
unfolding clap_on_literals
script_and_check s f p q = ap form_read (read_marked ((true, s) ∷ (false, codes "--check") ∷ (true, f) ∷ []) (p, (q, tt)))

seed_and_check : (t f : List ℕ) → IsPlainText t → IsPlainText f → form_of (codes "--make" ∷ t ∷ codes "--check" ∷ f ∷ []) ≡ neither
unfolding clap_on_literals
seed_and_check t f p q =
    ap form_read (read_marked ((false, codes "--make") ∷ (true, t) ∷ (false, codes "--check") ∷ (true, f) ∷ []) (p, (q, tt)))

repeated_check : (f g : List ℕ) → IsPlainText f → IsPlainText g → form_of (codes "--check" ∷ f ∷ codes "--check" ∷ g ∷ []) ≡ neither
unfolding clap_on_literals
repeated_check f g p q =
    ap form_read (read_marked ((false, codes "--check") ∷ (true, f) ∷ (false, codes "--check") ∷ (true, g) ∷ []) (p, (q, tt)))

-- plain words check that file
checked : (f : List ℕ) → IsPlainText f → form_of (codes "--check" ∷ f ∷ []) ≡ checks f
checked f p = plain_form (of_check f) p

-- a text that names no seed
no_seed : (t : List ℕ) → IsPlainText t → seed_of t ≡ None → form_of (codes "--make" ∷ t ∷ []) ≡ neither
no_seed t p none = plain_form (of_seed t) p ∙ ap make_with none
