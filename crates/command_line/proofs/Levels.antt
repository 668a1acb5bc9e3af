-- The level of a form, where there is one, is at most 8.
use Rattle.std.proofs.Common.{◌≡◌, ◌≤◌, ◌||◌, ℕ, Bool, List, [], ◌∷◌, Option, Some, None, true, false, is_some, if◌then◌else◌, refl, arith, rules}
use Rattle.command_line.specs.Forms.{HasLevel, checks, neither}
use Rattle.command_line.specs.Arguments.{Arguments, form_beside, form_with, has_others, level_of, level_or_default, make_with, run_with, seed_of}
use Rattle.command_line.specs.Words.{form_read}

level_small : (text : List ℕ) (k : ℕ) → level_of text ≡ Some k → k ≤ 8
level_small [] k e = cc
level_small (b ∷ []) k e = search (rules, arith, e)
level_small (b ∷ c ∷ bs) k e = cc

default_small : (text : Option (List ℕ)) (k : ℕ) → level_or_default text ≡ Some k → k ≤ 8
default_small None k e = search (rules, arith, e)
default_small (Some t) k e = level_small t k e

run_level : (script graph : Option (List ℕ)) (level : Option ℕ) (one fb bk : Bool) → ((k : ℕ) → level ≡ Some k → k ≤ 8)
    → HasLevel (run_with script graph level one fb bk)
run_level None graph level one fb bk small = tt
run_level (Some s) graph None one fb bk small = tt
run_level (Some s) graph (Some k) one fb bk small = small k refl

make_level : (b : Bool) (seed : Option ℕ) → HasLevel (if b then neither else make_with seed)
make_level true seed = tt
make_level false None = tt
make_level false (Some n) = tt

with_level : (make : Option (List ℕ)) (g : Arguments) → HasLevel (form_with make g)
with_level None g = run_level g.script g.graph (level_or_default g.k) g.without_one g.without_fb g.with_bk (default_small g.k)
with_level (Some text) g = make_level (has_others g) (seed_of text)

check_level : (b : Bool) (file : List ℕ) → HasLevel (if b then neither else checks file)
check_level true file = tt
check_level false file = tt

beside_level : (check : Option (List ℕ)) (g : Arguments) → HasLevel (form_beside check g)
beside_level None g = with_level g.make g
beside_level (Some file) g = check_level (is_some g.make || has_others g) file

pub read_level : (o : Option Arguments) → HasLevel (form_read o)
read_level None = tt
read_level (Some g) = beside_level g.check g
