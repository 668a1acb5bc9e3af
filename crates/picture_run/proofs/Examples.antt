-- What worked words ask for.
use Rattle.std.proofs.Common.{◌≡◌, ℕ, List, [], ◌∷◌, Option, Some, None, codes, refl}
use Rattle.clap.proofs.OnLiterals.{clap_on_literals}
use Rattle.index_api.specs.declared.kinds.Via.{Via}
use Rattle.index_api.specs.declared.kinds.Via.TheVariants.{Data, A, One, B}
use Rattle.picture_run.specs.Settings.{Settings}
use Rattle.picture_run.specs.Words.{settings_of}

abbrev asks : Via → ℕ → ℕ → Option Settings
asks via blocks members = Some (record { file = codes "g"; via = via; blocks = blocks; members = members })

file_alone : settings_of (codes "g" ∷ []) ≡ asks (A 1) 20 3
unfolding clap_on_literals
file_alone = refl

graph_itself : settings_of (codes "g" ∷ codes "--graph-of" ∷ codes "data" ∷ []) ≡ asks Data 20 3
unfolding clap_on_literals
graph_itself = refl

option_first : settings_of (codes "--graph-of" ∷ codes "one" ∷ codes "g" ∷ []) ≡ asks One 20 3
unfolding clap_on_literals
option_first = refl

all_options : settings_of (codes "g" ∷ codes "--graph-of" ∷ codes "b8" ∷ codes "--blocks" ∷ codes "200" ∷ codes "--members" ∷ codes "1" ∷ []) ≡ asks (B 8) 200 1
unfolding clap_on_literals
all_options = refl

no_words : settings_of [] ≡ None
unfolding clap_on_literals
no_words = refl

level_nine : settings_of (codes "g" ∷ codes "--graph-of" ∷ codes "a9" ∷ []) ≡ None
unfolding clap_on_literals
level_nine = refl

no_blocks : settings_of (codes "g" ∷ codes "--blocks" ∷ codes "0" ∷ []) ≡ None
unfolding clap_on_literals
no_blocks = refl

many_members : settings_of (codes "g" ∷ codes "--members" ∷ codes "51" ∷ []) ≡ None
unfolding clap_on_literals
many_members = refl

two_files : settings_of (codes "g" ∷ codes "h" ∷ []) ≡ None
unfolding clap_on_literals
two_files = refl
