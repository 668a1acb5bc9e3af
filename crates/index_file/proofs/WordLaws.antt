-- Words and numbers at the front of a text.
use Rattle.std.proofs.Common.{◌≡◌, ℕ, suc, cond, ◌+◌, List, [], ◌∷◌, ◌++◌, take, drop, true, refl, sym, ◌∙◌, ap, subst, arith}
use Rattle.std.specs.List.{list_all, prefix_len}
use Rattle.std.specs.Char.{is_ascii_digit}
use Rattle.std.proofs.lemmas.Bool.{and_parts}
use Rattle.std.proofs.lemmas.List.{take-append-drop}
use Rattle.index_file.specs.FoundNumbers.{IsFound, AreFound}
use Rattle.index_file.specs.Statements.{IsNumber, AreNumbers, HasPrefix}
use Rattle.index_file.proofs.DecimalLaws.{digits_of}

-- digits in front of a space (32) are all that stand there
pub digits_first : (a rest : List ℕ) → list_all is_ascii_digit a ≡ true
    → (take (prefix_len is_ascii_digit (a ++ 32 ∷ rest)) (a ++ 32 ∷ rest) ≡ a) × (drop (prefix_len is_ascii_digit (a ++ 32 ∷ rest)) (a ++ 32 ∷ rest) ≡ 32 ∷ rest)
digits_first [] rest h = (refl, refl)
digits_first (d ∷ ds) rest h =
    let p = and_parts (is_ascii_digit d) (list_all is_ascii_digit ds) h in
    let r = digits_first ds rest p.1 in
    let all : List ℕ = ds ++ 32 ∷ rest in
    let k : ℕ = prefix_len is_ascii_digit all in
    let next : 1 + k ≡ suc k = omega arith in
    let len : prefix_len is_ascii_digit (d ∷ all) ≡ suc k = ap (λ b. cond b (1 + k) 0) p.0 ∙ next in
    (ap (λ n. take n (d ∷ all)) len ∙ ap (λ xs. d ∷ xs) r.0, ap (λ n. drop n (d ∷ all)) len ∙ r.1)

-- what stands behind a word is one text
pub behind_one : (w x y : List ℕ) → w ++ x ≡ w ++ y → x ≡ y
behind_one [] x y e = e
behind_one (b ∷ w) x y e = behind_one w x y (tails (w ++ x) (w ++ y) b e)
  where
    tails : (p q : List ℕ) (c : ℕ) → c ∷ p ≡ c ∷ q → p ≡ q
    tails p q c e = cc

-- the parts of a text that begins with a number and a word
pub number_parts : (text word first rest a b more : List ℕ) (k : ℕ) → word ≡ 32 ∷ more → k ≡ prefix_len is_ascii_digit text → first ≡ take k text → rest ≡ drop k text
    → text ≡ a ++ (word ++ b) → list_all is_ascii_digit a ≡ true → (first ≡ a) × (rest ≡ word ++ b)
number_parts text word first rest a b more k space len head tail e digits =
    let whole : text ≡ a ++ 32 ∷ (more ++ b) = e ∙ ap (λ w. a ++ (w ++ b)) space in
    let r = digits_first a (more ++ b) digits in
    let n : k ≡ prefix_len is_ascii_digit (a ++ 32 ∷ (more ++ b)) = len ∙ ap (prefix_len is_ascii_digit) whole in (
      head ∙ ap (λ t. take k t) whole ∙ ap (λ j. take j (a ++ 32 ∷ (more ++ b))) n ∙ r.0,
      tail ∙ ap (λ t. drop k t) whole ∙ ap (λ j. drop j (a ++ 32 ∷ (more ++ b))) n ∙ r.1 ∙ ap (λ w. w ++ b) (sym space),
    )

-- no number, or another word, stands there
pub no_numbers : (text word first rest more : List ℕ) (k : ℕ) → word ≡ 32 ∷ more → k ≡ prefix_len is_ascii_digit text → first ≡ take k text → rest ≡ drop k text
    → ((b : List ℕ) (n m : ℕ) → rest ≡ word ++ b → IsNumber first n → IsNumber b m → ⊥) → (n m : ℕ) → AreNumbers word text n m → ⊥
no_numbers text word first rest more k space len head tail none n m (a, b, e, p, q) =
    let r = number_parts text word first rest a b more k space len head tail e (digits_of a n p) in
    none b n m r.1 (subst (λ d. IsNumber d n) (sym r.0) p) q

pub found_numbers : (text word first rest second more : List ℕ) (k n m : ℕ) → word ≡ 32 ∷ more → k ≡ prefix_len is_ascii_digit text → first ≡ take k text → rest ≡ drop k text
    → rest ≡ word ++ second → IsFound (IsNumber first) n → IsFound (IsNumber second) m → AreFound (AreNumbers word text) (n, m)
found_numbers text word first rest second more k n m space len head tail e f g =
    let parts : text ≡ first ++ rest = sym (ap (λ t. t ++ rest) head ∙ ap (λ t. take k text ++ t) tail ∙ take-append-drop k text) in
    record {
      first = f.number;
      second = g.number;
      hold = (first, second, parts ∙ ap (λ t. first ++ t) e, f.holds, g.holds);
      only = λ i j h. only_pair i j h;
      are = (f.is, g.is);
    }
  where
    only_pair : (i j : ℕ) → AreNumbers word text i j → (i ≡ f.number) × (j ≡ g.number)
    only_pair i j (a, b, t, p, q) =
        let r = number_parts text word first rest a b more k space len head tail t (digits_of a i p) in
        let same : b ≡ second = behind_one word b second (sym r.1 ∙ e) in
        (f.only i (subst (λ d. IsNumber d i) (sym r.0) p), g.only j (subst (λ d. IsNumber d j) same q))

-- the same behind a word
pub prefix_found : (word line rest : List ℕ) (r : ℕ) → line ≡ word ++ rest → IsFound (IsNumber rest) r → IsFound (λ n. HasPrefix word line (λ digits. IsNumber digits n)) r
prefix_found word line rest r e f = record {
  number = f.number;
  holds = (rest, e, f.holds);
  only = λ n h. by n h;
  is = f.is;
}
  where
    by : (n : ℕ) → HasPrefix word line (λ digits. IsNumber digits n) → n ≡ f.number
    by n (digits, t, p) = f.only n (subst (λ d. IsNumber d n) (behind_one word digits rest (sym t ∙ e)) p)

pub prefix_none : (word line rest : List ℕ) → line ≡ word ++ rest → ((n : ℕ) → IsNumber rest n → ⊥) → (n : ℕ) → HasPrefix word line (λ digits. IsNumber digits n) → ⊥
prefix_none word line rest e none n (digits, t, p) = none n (subst (λ d. IsNumber d n) (behind_one word digits rest (sym t ∙ e)) p)

pub pair_found : (word between line rest : List ℕ) (p : ℕ × ℕ) → line ≡ word ++ rest → AreFound (AreNumbers between rest) p
    → AreFound (λ n m. HasPrefix word line (λ text. AreNumbers between text n m)) p
pair_found word between line rest p e f = record {
  first = f.first;
  second = f.second;
  hold = (rest, e, f.hold);
  only = λ n m h. by n m h;
  are = f.are;
}
  where
    by : (n m : ℕ) → HasPrefix word line (λ text. AreNumbers between text n m) → (n ≡ f.first) × (m ≡ f.second)
    by n m (text, t, h) = f.only n m (subst (λ d. AreNumbers between d n m) (behind_one word text rest (sym t ∙ e)) h)

pub pair_none : (word between line rest : List ℕ) → line ≡ word ++ rest → ((n m : ℕ) → AreNumbers between rest n m → ⊥)
    → (n m : ℕ) → HasPrefix word line (λ text. AreNumbers between text n m) → ⊥
pair_none word between line rest e none n m (text, t, h) = none n m (subst (λ d. AreNumbers between d n m) (behind_one word text rest (sym t ∙ e)) h)

-- a number behind the word is one of what was found behind it
pub second_is : (word b second rest : List ℕ) (m : ℕ) → rest ≡ word ++ b → rest ≡ word ++ second → IsNumber b m → IsNumber second m
second_is word b second rest m e f p = subst (λ d. IsNumber d m) (behind_one word b second (sym e ∙ f)) p
