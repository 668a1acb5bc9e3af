-- What the words ask for is within bounds.
use Rattle.std.proofs.Common.{◌≡◌, ◌≤◌, ℕ, Bool, List, [], ◌∷◌, Option, Some, None, true, false, if◌then◌else◌, refl, sym, ap, subst, arith, rules}
use Rattle.std.specs.Prelude.{IfSome, nat_eq, bytes_eq, codes, option_map}
use Rattle.std.specs.Str.Parse.{digits_value}
use Rattle.bisim_spec.specs.declared.kind.Kind.{Kind}
use Rattle.index_api.specs.declared.kinds.Via.{Via}
use Rattle.index_api.specs.declared.kinds.Via.TheVariants.{Data, A, One, Fb, B}
use Rattle.index_api.specs.IndexOrder.{place_of}
use Rattle.picture_run.specs.Settings.{AreWithin, Arguments, family_named, index_named, is_numeral, level_named, number_or, number_within, settings_beside, settings_with, via_named, via_or_default}
use Rattle.picture_run.specs.SettingsValues.{settings_value}
use Rattle.picture_run.specs.Words.{settings_read}
use Rattle.picture_run.specs.declared.settings.Settings.{Settings as SettingsSeen}

-- ---- levels

-- the index, if it has a level, has one that is kept
abbrev IsLow : Via → Type 0
IsLow via = (kind : Kind) (level : ℕ) → place_of via ≡ Some (kind, level) → level ≤ 8

abbrev level_in : Option (Kind × ℕ) → ℕ
level_in None = 0
level_in (Some p) = p.1

its_level : (via : Via) (kind : Kind) (level : ℕ) → place_of via ≡ Some (kind, level) → level_in (place_of via) ≡ level
its_level via kind level e = ap level_in e

low_data : IsLow Data
low_data kind level e = cc

low_one : IsLow One
low_one kind level e = (let z : 0 ≡ level = its_level One kind level e in omega (arith, z))

low_fb : IsLow Fb
low_fb kind level e = (let z : 0 ≡ level = its_level Fb kind level e in omega (arith, z))

low_a : (n : ℕ) → n ≤ 8 → IsLow (A n)
low_a n few kind level e = (let z : n ≡ level = its_level (A n) kind level e in omega (arith, z, few))

low_b : (n : ℕ) → n ≤ 8 → IsLow (B n)
low_b n few kind level e = (let z : n ≡ level = its_level (B n) kind level e in omega (arith, z, few))

level_small : (b n : ℕ) → level_named b ≡ Some n → n ≤ 8
level_small b n e = search (rules, arith, e)

-- whatever index is named, it is low
abbrev AreLow : Option Via → Type 0
AreLow o = (via : Via) → o ≡ Some via → IsLow via

none_low : AreLow None
none_low via e = cc

some_low : (via : Via) → IsLow via → AreLow (Some via)
some_low via low other e = (let z : via ≡ other = cc in subst IsLow z low)

choice_low : (b : Bool) (o p : Option Via) → AreLow o → AreLow p → AreLow (if b then o else p)
choice_low true o p f g = f
choice_low false o p f g = g

index_low : (letter : ℕ) (o : Option ℕ) → ((n : ℕ) → o ≡ Some n → n ≤ 8) → AreLow (index_named letter o)
index_low letter None few = none_low
index_low letter (Some n) few =
    choice_low (nat_eq letter 97) (Some (A n)) (if nat_eq letter 98 then Some (B n) else None) (some_low (A n) (low_a n (few n refl)))
    (choice_low (nat_eq letter 98) (Some (B n)) None (some_low (B n) (low_b n (few n refl))) none_low)

family_low : (text : List ℕ) → AreLow (family_named text)
family_low [] = none_low
family_low (a ∷ []) = none_low
family_low (a ∷ b ∷ []) = index_low a (level_named b) (level_small b)
family_low (a ∷ b ∷ c ∷ bs) = none_low

via_low : (text : List ℕ) → AreLow (via_named text)
via_low text =
    choice_low (bytes_eq text (codes "data")) (Some Data) _ (some_low Data low_data)
    (choice_low (bytes_eq text (codes "one")) (Some One) _ (some_low One low_one)
    (choice_low (bytes_eq text (codes "fb")) (Some Fb) (family_named text) (some_low Fb low_fb) (family_low text)))

default_low : (text : Option (List ℕ)) → AreLow (via_or_default text)
default_low None = some_low (A 1) (low_a 1 (omega arith))
default_low (Some text) = via_low text

-- ---- numbers

abbrev IsBetween : ℕ → Option ℕ → Type 0
IsBetween most o = (n : ℕ) → o ≡ Some n → (1 ≤ n) × (n ≤ most)

none_between : (most : ℕ) → IsBetween most None
none_between most n e = cc

number_between : (most n : ℕ) → IsBetween most (number_within most n)
number_between most n m e = (search (rules, arith, e), search (rules, arith, e))

chosen_between : (b : Bool) (most : ℕ) (o : Option ℕ) → IsBetween most o → IsBetween most (if b then o else None)
chosen_between true most o f = f
chosen_between false most o f = none_between most

or_between : (most own : ℕ) (text : Option (List ℕ)) → 1 ≤ own → own ≤ most → IsBetween most (number_or most own text)
or_between most own None some few = λ n e. (let z : own ≡ n = cc in (omega (arith, z, some), omega (arith, z, few)))
or_between most own (Some text) some few =
    chosen_between (is_numeral text) most (number_within most (digits_value 10 text)) (number_between most (digits_value 10 text))

-- ---- settings

with_within : (file : List ℕ) (via : Option Via) (blocks members : Option ℕ) → AreLow via → IsBetween 200 blocks → IsBetween 50 members
    → IfSome (settings_with file via blocks members) AreWithin
with_within file None blocks members low b m = tt
with_within file (Some via) None members low b m = tt
with_within file (Some via) (Some n) None low b m = tt
with_within file (Some via) (Some n) (Some k) low b m =
    record { level = low via refl; some_blocks = (b n refl).0; most_blocks = (b n refl).1; some_members = (m k refl).0; most_members = (m k refl).1 }

beside_within : (file : Option (List ℕ)) (g : Arguments) → IfSome (settings_beside file g) AreWithin
beside_within None g = tt
beside_within (Some file) g =
    with_within file (via_or_default g.graph_of) (number_or 200 20 g.blocks) (number_or 50 3 g.members) (default_low g.graph_of)
    (or_between 200 20 g.blocks (omega arith) (omega arith)) (or_between 50 3 g.members (omega arith) (omega arith))

read_within : (o : Option Arguments) → IfSome (settings_read o) AreWithin
read_within None = tt
read_within (Some g) = beside_within g.graph g

value_within : (o : Option SettingsSeen) → IfSome (option_map settings_value o) AreWithin → IfSome o (λ s. AreWithin (settings_value s))
value_within None h = tt
value_within (Some s) h = h

-- what is read is within bounds
pub seen_within : (o : Option SettingsSeen) (g : Option Arguments) → option_map settings_value o ≡ settings_read g → IfSome o (λ s. AreWithin (settings_value s))
seen_within o g e = value_within o (subst (λ p. IfSome p AreWithin) (sym e) (read_within g))
