-- The next number that passes, of more and more numbers.
use Rattle.std.proofs.Common.{◌≡◌, ℕ, ◌<◌, ◌≤◌, ◌+◌, List, Option, None, Some, refl, sym, ◌∙◌, ap, subst, true, false, Bool, ◌&&◌, ◌||◌, take, length, get_or}
use Rattle.std.specs.Prelude.{nat_eq}
use Rattle.std.proofs.lemmas.List.{take_all}
use Rattle.graph_spec.specs.Members.{has, Lists}
use Rattle.quotient_draft.specs.Nexts.{IsNext}
use Rattle.quotient_draft.proofs.Spans.{has_more}

-- tests that agree have the same next number
pub next_as : (p q : ℕ → Bool) (from : ℕ) (o : Option ℕ) → ((x : ℕ) → p x ≡ q x) → IsNext p from o → IsNext q from o
next_as p q from None same n = λ x le. sym (same x) ∙ n x le
next_as p q from (Some a) same n = record { from_on = n.from_on; passes = sym (same a) ∙ n.passes; least = λ x le lt. sym (same x) ∙ n.least x le lt }

-- the first numbers of a list, one more, and all of them
or_off : (t : Bool) → (t || false) ≡ t
or_off true = refl
or_off false = refl

or_parts : (s t u : Bool) → ((s || t) || u) ≡ (s || (t || u))
or_parts true t u = refl
or_parts false t u = refl

pub next_start : (seen p : ℕ → Bool) (xs : List ℕ) (from : ℕ) (o : Option ℕ) → IsNext (λ x. seen x && p x) from o → IsNext (λ x. (seen x || has (take 0 xs) x) && p x) from o
next_start seen p xs from o = next_as (λ x. seen x && p x) (λ x. (seen x || has (take 0 xs) x) && p x) from o (λ x. ap (λ t. t && p x) (sym (or_off (seen x))))

pub next_more : (seen p : ℕ → Bool) (xs : List ℕ) (i d from : ℕ) (o r : Option ℕ) → i < length xs
    → ((s : ℕ → Bool) → IsNext (λ x. s x && p x) from o → IsNext (λ x. (s x || nat_eq x (get_or xs i d)) && p x) from r) → IsNext (λ x. (seen x || has (take i xs) x) && p x) from o
    → IsNext (λ x. (seen x || has (take (i + 1) xs) x) && p x) from r
next_more seen p xs i d from o r within step n =
    next_as (λ x. ((seen x || has (take i xs) x) || nat_eq x (get_or xs i d)) && p x) (λ x. (seen x || has (take (i + 1) xs) x) && p x) from r
    (λ x. ap (λ t. t && p x) (or_parts (seen x) (has (take i xs) x) (nat_eq x (get_or xs i d)) ∙ ap (λ t. seen x || t) (sym (has_more xs i d x within))))
    (step (λ x. seen x || has (take i xs) x) n)

pub next_all : (seen p : ℕ → Bool) (xs : List ℕ) (i from : ℕ) (o : Option ℕ) → length xs ≤ i → IsNext (λ x. (seen x || has (take i xs) x) && p x) from o
    → IsNext (λ x. (seen x || has xs x) && p x) from o
next_all seen p xs i from o over = subst (λ ys. IsNext (λ x. (seen x || has ys x) && p x) from o) (take_all i xs over)

-- nothing is among no numbers
pub next_none : (p : ℕ → Bool) (from : ℕ) → IsNext (λ x. false && p x) from None
next_none p from = λ x le. refl

-- What passes p is among the numbers of two lists, the first of which has just what passes q, and the second all at which the
-- tests differ.
pub next_of_both : (p q : ℕ → Bool) (base drafted : List ℕ) (from : ℕ) (o : Option ℕ) → Lists q base → ((a : ℕ) → has drafted a ≡ false → p a ≡ q a)
    → IsNext (λ x. ((false || has base x) || has drafted x) && p x) from o → IsNext p from o
next_of_both p q base drafted from o l other = next_as (λ x. ((false || has base x) || has drafted x) && p x) p from o (λ x. ap (λ t. (t || has drafted x) && p x) (l.members x) ∙ found (p x) (q x) (has drafted x) (other x))
  where
    found : (p q d : Bool) → (d ≡ false → p ≡ q) → ((q || d) && p) ≡ p
    found p true d h = refl
    found p false true h = refl
    found p false false h = sym (h refl)
