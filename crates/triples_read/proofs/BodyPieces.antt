-- Pieces between quotes, read from the front.
use Rattle.std.proofs.Common.{◌≡◌, ◌≢◌, ◌<◌, ◌≤◌, ◌+◌, ◌-◌, ℕ, suc, List, [], ◌∷◌, ◌++◌, length, take, drop, Bool, true, false, refl, sym, ◌∙◌, ap, subst, arith, cond, Some, None, Option, inl, inr, append_assoc, length-append, get_or, drop-cons, not}
use Rattle.std.specs.List.{AllByRecursion}
use Rattle.std.proofs.Math.Utf8.{scalar, scalars, encode, encodes}
use Rattle.std.proofs.lemmas.Str.{encode_same, encode_ascii, encodes-append, IsUtf8-take, IsCharBoundary-before_ascii, IsCharBoundary-end}
use Rattle.std.proofs.lemmas.Bool.{cases_lt, ltb-false}
use Rattle.std.specs.List.{position_or_len, position, take_while}
use Rattle.std.specs.Prelude.{IsUtf8, IfSome}
use Rattle.std.specs.Str.{IsCharBoundary}
use Rattle.std.proofs.lemmas.List.{take-append-drop, append-nil}
use Rattle.std.proofs.Math.ListN.{drop_of_length-le}
use Rattle.std.proofs.lemmas.List.Sums.{prefix_len-le-length, passes_at_first, take_while-cons}
use Rattle.triples_read.specs.Terminals.{Many}
use Rattle.triples_read.specs.ByteReaders.{starts_with}
use Rattle.triples_read.specs.Bodies.{PieceOf, Body, Step, Adds, StopsAt, IsBodyPrefix}
use Rattle.triples_read.proofs.Basics.{and_both, no_both, cons-tail, drop-past, scalars-both, seam, eqb_same, if_none, first_of, second_of, none_some}

pub record Kind (class : ℕ → Bool) (e : ℕ) : Type 0 where
  pub no_escape : class 92 ≡ false
  pub no_end : class e ≡ false
  pub end_ascii : e < 128
  pub end_other : e ≢ 92
  pub wide : (c : ℕ) → 128 ≤ c → class c ≡ true

-- escapes, and the function that reads one behind its backslash
pub record Escapes (Esc : List ℕ → ℕ → Type 0) (esc_at : List ℕ → Option (ℕ × ℕ)) : Type 0 where
  pub sound : (bs : List ℕ) (c n : ℕ) → esc_at bs ≡ Some (c, n) → (s : List ℕ) × (rest : List ℕ) × (92 ∷ bs ≡ s ++ rest) × (n ≡ length s) × Esc s c × (encodes s ≡ s)
  pub text : (s : List ℕ) (c : ℕ) → Esc s c → scalars s ≡ true
  pub complete : (s : List ℕ) (c : ℕ) → Esc s c → (t : List ℕ) × (s ≡ 92 ∷ t) × (encodes s ≡ s) × ((rest : List ℕ) → esc_at (t ++ rest) ≡ Some (c, length s))

pub step-then : (P : List ℕ → ℕ → Type 0) (e : ℕ) (a b c xs ys : List ℕ) → Step P e a b xs → Step P e b c ys → Step P e a c (xs ++ ys)
step-then P e a b c xs ys f g =
    record {
      sound = λ v tail h. subst (λ (w : List ℕ). Body P e a w tail) (sym (append_assoc xs ys v)) (f.sound (ys ++ v) tail (g.sound v tail h));
      complete = λ v tail h.
          let one = f.complete v tail h in
          let two = g.complete one.0 tail one.2 in
          (two.0, one.1 ∙ ap (λ (z : List ℕ). xs ++ z) two.1 ∙ sym (append_assoc xs ys two.0), two.2);
    }

abbrev pub AllPass : (ℕ → Bool) → List ℕ → Type 0
AllPass p xs = AllByRecursion (λ x. p x ≡ true) xs

all_parts : (p : ℕ → Bool) (xs ys : List ℕ) → AllPass p (xs ++ ys) → AllPass p xs × AllPass p ys
all_parts p [] ys h = (tt, h)
all_parts p (x ∷ xs) ys h = let t = all_parts p xs ys h.1 in ((h.0, t.0), t.1)

class_of_char : (class : ℕ → Bool) (e : ℕ) → Kind class e → (c : ℕ) → AllPass class (encode c) → class c ≡ true
class_of_char class e k c h =
    elim (cases_lt c 128) [
      | inl small ↦ (let g : AllPass class (c ∷ []) = subst (AllPass class) (encode_ascii c small) h in g.0)
      | inr large ↦ k.wide c large
    ]

chars_in : (class : ℕ → Bool) (e : ℕ) → Kind class e → (cs : List ℕ) → AllPass class (encodes cs) → AllPass class cs
chars_in class e k [] h = tt
chars_in class e k (c ∷ cs) h =
    let both = all_parts class (encode c) (encodes cs) h in
    (class_of_char class e k c both.0, chars_in class e k cs both.1)

run-sound : (class : ℕ → Bool) (Esc : List ℕ → ℕ → Type 0) (e : ℕ) (cs rest v tail : List ℕ) → scalars cs ≡ true → AllPass class cs → Body (PieceOf class Esc) e rest v tail → Body (PieceOf class Esc) e (encodes cs ++ rest) (cs ++ v) tail
run-sound class Esc e [] rest v tail ok all b = b
run-sound class Esc e (c ∷ cs) rest v tail ok all b =
    let both = and_both (scalar c) (scalars cs) ok in
    let (s, eq, m) = run-sound class Esc e cs rest v tail both.1 all.1 b in (
      c ∷ s,
      append_assoc (encode c) (encodes cs) rest ∙ ap (λ (z : List ℕ). encode c ++ z) eq ∙ sym (append_assoc (encode c) (encodes s) (e ∷ tail)),
      (c ∷ [], s, refl, inl (refl, both.0, all.0), m),
    )

-- a text that begins with an ASCII character and with another character
first_char : (c d : ℕ) (x y : List ℕ) → d < 128 → encode c ++ x ≡ d ∷ y → (c ≡ d) × (x ≡ y)
first_char c d x y small eq = encode_same c d x y (eq ∙ ap (λ (z : List ℕ). z ++ y) (sym (encode_ascii d small)))

pub run-complete : (class : ℕ → Bool) (Esc : List ℕ → ℕ → Type 0) (esc_at : List ℕ → Option (ℕ × ℕ)) (e : ℕ) → Kind class e → Escapes Esc esc_at → (cs rest v tail : List ℕ) → AllPass class cs → Body (PieceOf class Esc) e (encodes cs ++ rest) v tail → (w : List ℕ) × (v ≡ cs ++ w) × Body (PieceOf class Esc) e rest w tail
run-complete class Esc esc_at e k escapes [] rest v tail all b = (v, refl, b)
run-complete class Esc esc_at e k escapes (c ∷ cs) rest [] tail all (s, eq, m) =
    let at_end : encode c ++ (encodes cs ++ rest) ≡ e ∷ tail = sym (append_assoc (encode c) (encodes cs) rest) ∙ eq ∙ ap (λ (z : List ℕ). encodes z ++ e ∷ tail) m in
    let same = first_char c e (encodes cs ++ rest) tail k.end_ascii at_end in
    absurd (no_both (class c) all.0 (ap class same.0 ∙ k.no_end))
run-complete class Esc esc_at e k escapes (c ∷ cs) rest (d ∷ v) tail all (s, eq, (piece, left, parts, inl one, m)) =
    let split : encode c ++ (encodes cs ++ rest) ≡ encode d ++ (encodes left ++ e ∷ tail) =
    sym (append_assoc (encode c) (encodes cs) rest) ∙ eq ∙ ap (λ (z : List ℕ). encodes z ++ e ∷ tail) (parts ∙ ap (λ (z : List ℕ). z ++ left) one.0) ∙ append_assoc (encode d) (encodes left) (e ∷ tail) in
    let same = encode_same c d (encodes cs ++ rest) (encodes left ++ e ∷ tail) split in
    let (w, is, b) = run-complete class Esc esc_at e k escapes cs rest v tail all.1 (left, same.1, m) in
    (w, ap (λ (z : ℕ). z ∷ v) (sym same.0) ∙ ap (λ (z : List ℕ). c ∷ z) is, b)
run-complete class Esc esc_at e k escapes (c ∷ cs) rest (d ∷ v) tail all (s, eq, (piece, left, parts, inr esc, m)) =
    let known = escapes.complete piece d esc in
    let spelled : encodes s ≡ 92 ∷ (known.0 ++ encodes left) =
    ap encodes parts ∙ encodes-append piece left ∙ ap (λ (z : List ℕ). z ++ encodes left) (known.2 ∙ known.1) in
    let split : encode c ++ (encodes cs ++ rest) ≡ 92 ∷ ((known.0 ++ encodes left) ++ e ∷ tail) =
    sym (append_assoc (encode c) (encodes cs) rest) ∙ eq ∙ ap (λ (z : List ℕ). z ++ e ∷ tail) spelled in
    let same = first_char c 92 (encodes cs ++ rest) ((known.0 ++ encodes left) ++ e ∷ tail) (omega arith) split in
    absurd (no_both (class c) all.0 (ap class same.0 ∙ k.no_escape))

-- a run of characters that stand for themselves
pub run-step : (class : ℕ → Bool) (Esc : List ℕ → ℕ → Type 0) (esc_at : List ℕ → Option (ℕ × ℕ)) (e : ℕ) → Kind class e → Escapes Esc esc_at → (cs rest : List ℕ) → scalars cs ≡ true → AllPass class (encodes cs) → Step (PieceOf class Esc) e (encodes cs ++ rest) rest cs
run-step class Esc esc_at e k escapes cs rest ok all =
    let each = chars_in class e k cs all in
    record {
      sound = λ v tail b. run-sound class Esc e cs rest v tail ok each b;
      complete = λ v tail b. run-complete class Esc esc_at e k escapes cs rest v tail each b;
    }

-- at the end
pub at_end : (class : ℕ → Bool) (Esc : List ℕ → ℕ → Type 0) (esc_at : List ℕ → Option (ℕ × ℕ)) (e : ℕ) → Kind class e → Escapes Esc esc_at → (b : ℕ) (after v tail : List ℕ) → b < 128 → class b ≡ false → b ≢ 92 → Body (PieceOf class Esc) e (b ∷ after) v tail → (b ≡ e) × (v ≡ []) × (after ≡ tail)
at_end class Esc esc_at e k escapes b after [] tail small out other (s, eq, m) =
    let both : b ∷ after ≡ e ∷ tail = eq ∙ ap (λ (z : List ℕ). encodes z ++ e ∷ tail) m in
    (cc, refl, cc)
at_end class Esc esc_at e k escapes b after (d ∷ v) tail small out other (s, eq, (piece, left, parts, inl one, m)) =
    let split : encode d ++ (encodes left ++ e ∷ tail) ≡ b ∷ after =
    sym (append_assoc (encode d) (encodes left) (e ∷ tail)) ∙ ap (λ (z : List ℕ). encodes z ++ e ∷ tail) (sym (parts ∙ ap (λ (z : List ℕ). z ++ left) one.0)) ∙ sym eq in
    let same = first_char d b (encodes left ++ e ∷ tail) after small split in
    absurd (no_both (class b) (ap class (sym same.0) ∙ one.2) out)
at_end class Esc esc_at e k escapes b after (d ∷ v) tail small out other (s, eq, (piece, left, parts, inr esc, m)) =
    let known = escapes.complete piece d esc in
    let spelled : encodes s ≡ 92 ∷ (known.0 ++ encodes left) =
    ap encodes parts ∙ encodes-append piece left ∙ ap (λ (z : List ℕ). z ++ encodes left) (known.2 ∙ known.1) in
    let split : b ∷ after ≡ 92 ∷ ((known.0 ++ encodes left) ++ e ∷ tail) = eq ∙ ap (λ (z : List ℕ). z ++ e ∷ tail) spelled in
    let same : b ≡ 92 = cc in
    absurd (other same)

pub end-sound : (P : List ℕ → ℕ → Type 0) (e : ℕ) (tail : List ℕ) → Body P e (e ∷ tail) [] tail
end-sound P e tail = ([], refl, refl)

pub end-nothing : (P : List ℕ → ℕ → Type 0) (e : ℕ) (v tail : List ℕ) → Body P e [] v tail → ⊥
end-nothing P e v tail (s, eq, m) =
    let longer : 0 ≡ length (encodes s) + length (e ∷ tail) = ap length eq ∙ length-append (encodes s) (e ∷ tail) in
    omega (arith, longer)

-- at an escape
pub escape-here : (class : ℕ → Bool) (Esc : List ℕ → ℕ → Type 0) (esc_at : List ℕ → Option (ℕ × ℕ)) (e : ℕ) → Kind class e → Escapes Esc esc_at → (bs v tail : List ℕ) → Body (PieceOf class Esc) e (92 ∷ bs) v tail → (c : ℕ) × (w : List ℕ) × (t : List ℕ) × (left : List ℕ) × (v ≡ c ∷ w) × (bs ≡ t ++ (encodes left ++ e ∷ tail)) × Many (PieceOf class Esc) left w × (esc_at bs ≡ Some (c, suc (length t)))
escape-here class Esc esc_at e k escapes bs [] tail (s, eq, m) =
    let both : 92 ∷ bs ≡ e ∷ tail = eq ∙ ap (λ (z : List ℕ). encodes z ++ e ∷ tail) m in
    absurd (k.end_other cc)
escape-here class Esc esc_at e k escapes bs (d ∷ v) tail (s, eq, (piece, left, parts, inl one, m)) =
    let split : encode d ++ (encodes left ++ e ∷ tail) ≡ 92 ∷ bs =
    sym (append_assoc (encode d) (encodes left) (e ∷ tail)) ∙ ap (λ (z : List ℕ). encodes z ++ e ∷ tail) (sym (parts ∙ ap (λ (z : List ℕ). z ++ left) one.0)) ∙ sym eq in
    let same = first_char d 92 (encodes left ++ e ∷ tail) bs (omega arith) split in
    absurd (no_both (class 92) (ap class (sym same.0) ∙ one.2) k.no_escape)
escape-here class Esc esc_at e k escapes bs (d ∷ v) tail (s, eq, (piece, left, parts, inr esc, m)) =
    let known = escapes.complete piece d esc in
    let spelled : encodes s ≡ 92 ∷ (known.0 ++ encodes left) =
    ap encodes parts ∙ encodes-append piece left ∙ ap (λ (z : List ℕ). z ++ encodes left) (known.2 ∙ known.1) in
    let split : 92 ∷ bs ≡ 92 ∷ ((known.0 ++ encodes left) ++ e ∷ tail) = eq ∙ ap (λ (z : List ℕ). z ++ e ∷ tail) spelled in
    let behind : bs ≡ known.0 ++ (encodes left ++ e ∷ tail) = cons-tail split ∙ append_assoc known.0 (encodes left) (e ∷ tail) in
    (d, v, known.0, left, refl, behind, m, ap esc_at behind ∙ known.3 (encodes left ++ e ∷ tail) ∙ ap (λ (z : List ℕ). Some (d, length z)) known.1)

cond_all : (p : ℕ → Bool) (x : ℕ) (ys : List ℕ) (b : Bool) → p x ≡ b → AllPass p ys → AllPass p (cond (not (not b)) (x ∷ ys) [])
cond_all p x ys true e h = (e, h)
cond_all p x ys false e h = tt

all_taken : (p : ℕ → Bool) (xs : List ℕ) → AllPass p (take_while (λ x. not (not (p x))) xs)
all_taken p [] = tt
all_taken p (x ∷ xs) =
    subst (AllPass p) (sym (take_while-cons (λ x. not (not (p x))) x xs)) (cond_all p x (take_while (λ x. not (not (p x))) xs) (p x) refl (all_taken p xs))

pub run-adds : (class : ℕ → Bool) (Esc : List ℕ → ℕ → Type 0) (esc_at : List ℕ → Option (ℕ × ℕ)) (e : ℕ) → Kind class e → Escapes Esc esc_at → (rest old : List ℕ) (n : ℕ) → n ≡ position_or_len (λ x. not (class x)) rest → IsUtf8 (take n rest) → Adds (PieceOf class Esc) e old (old ++ take n rest) rest (drop n rest)
run-adds class Esc esc_at e k escapes rest old n is (cs, (ok, eq)) =
    let all : AllPass class (encodes cs) = subst (AllPass class) (ap (λ (i : ℕ). take i rest) (sym is) ∙ sym eq) (all_taken class rest) in
    let step = run-step class Esc esc_at e k escapes cs (drop n rest) ok all in
    let whole : encodes cs ++ drop n rest ≡ rest = ap (λ (z : List ℕ). z ++ drop n rest) eq ∙ take-append-drop n rest in
    (cs, ap (λ (z : List ℕ). old ++ z) (sym eq), subst (λ (z : List ℕ). Step (PieceOf class Esc) e z (drop n rest) cs) whole step)

pub many-scalars : (class : ℕ → Bool) (Esc : List ℕ → ℕ → Type 0) (esc_at : List ℕ → Option (ℕ × ℕ)) → Escapes Esc esc_at → (v s : List ℕ) → Many (PieceOf class Esc) s v → scalars s ≡ true
many-scalars class Esc esc_at escapes [] s m = rw m refl
many-scalars class Esc esc_at escapes (d ∷ v) s (piece, left, parts, inl one, m) =
    rw (parts, one.0, one.1, many-scalars class Esc esc_at escapes v left m) refl
many-scalars class Esc esc_at escapes (d ∷ v) s (piece, left, parts, inr esc, m) =
    rw parts (scalars-both piece left (escapes.text piece d esc) (many-scalars class Esc esc_at escapes v left m))

not_true : (b : Bool) → not b ≡ true → b ≡ false
not_true true h = absurd cc
not_true false h = refl

ascii_stop : (class : ℕ → Bool) (e : ℕ) → Kind class e → (b : ℕ) → class b ≡ false → b < 128
ascii_stop class e k b h =
    elim (cases_lt b 128) [
      | inl small ↦ small
      | inr large ↦ absurd (no_both (class b) (k.wide b large) h)
    ]

-- a run ends where a character does
pub run-boundary : (class : ℕ → Bool) (e : ℕ) → Kind class e → (rest : List ℕ) (n : ℕ) → n ≡ position_or_len (λ x. not (class x)) rest → IsCharBoundary rest n
run-boundary class e k rest n is =
    elim (cases_lt n (length rest)) [
      | inl inside ↦ (
          let stops : class (get_or rest n 0) ≡ false = ap (λ (i : ℕ). class (get_or rest i 0)) is ∙ not_true _ (passes_at_first (λ x. not (class x)) rest 0 (subst (λ (i : ℕ). i < length rest) is inside)) in
          IsCharBoundary-before_ascii rest n inside (ascii_stop class e k _ stops))
      | inr past ↦ (
          let all : length rest ≡ n = omega (arith, past, is, prefix_len-le-length (λ x. not (not (class x))) rest) in
          subst (IsCharBoundary rest) all (IsCharBoundary-end rest))
    ]

-- an escape behind its backslash
pub escape-step : (class : ℕ → Bool) (Esc : List ℕ → ℕ → Type 0) (esc_at : List ℕ → Option (ℕ × ℕ)) (e : ℕ) → Kind class e → Escapes Esc esc_at → (bs : List ℕ) (c n : ℕ) → esc_at bs ≡ Some (c, n) → Step (PieceOf class Esc) e (92 ∷ bs) (drop (n - 1) bs) (c ∷ [])
escape-step class Esc esc_at e k escapes bs c n found =
    let (p, rest, parts, len, esc, plain) = escapes.sound bs c n found in
    let known = escapes.complete p c esc in
    let behind : bs ≡ known.0 ++ rest = cons-tail (parts ∙ ap (λ (z : List ℕ). z ++ rest) known.1) in
    let count : n - 1 ≡ length known.0 = ap (λ (i : ℕ). i - 1) (len ∙ ap length known.1) ∙ omega arith in
    let after : drop (n - 1) bs ≡ rest = ap (λ (i : ℕ). drop i bs) count ∙ ap (drop (length known.0)) behind ∙ drop-past known.0 rest in
    record {
      sound = λ v tail b. (
        p ++ b.0,
        parts ∙ ap (λ (z : List ℕ). p ++ z) (sym after ∙ b.1) ∙ sym (append_assoc p (encodes b.0) (e ∷ tail)) ∙ ap (λ (z : List ℕ). (z ++ encodes b.0) ++ e ∷ tail) (sym plain) ∙ ap (λ (z : List ℕ). z ++ e ∷ tail) (sym (encodes-append p b.0)),
        (p, b.0, refl, inr esc, b.2),
      );
      complete = λ v tail b.
          let (d, w, t, left, is, cut, m, read) = escape-here class Esc esc_at e k escapes bs v tail b in
          let same : ◌≡◌ {A = Option (ℕ × ℕ)} (Some (c, n)) (Some (d, suc (length t))) = sym found ∙ read in
          let long : n - 1 ≡ length t = ap (λ (i : ℕ). i - 1) (ap second_of same) ∙ omega arith in (
            w,
            is ∙ ap (λ (z : ℕ). z ∷ w) (sym (ap first_of same)),
            (left, ap (λ (i : ℕ). drop i bs) long ∙ ap (drop (length t)) cut ∙ drop-past t (encodes left ++ e ∷ tail), m),
          );
    }

pub escape-adds : (class : ℕ → Bool) (Esc : List ℕ → ℕ → Type 0) (esc_at : List ℕ → Option (ℕ × ℕ)) (e : ℕ) → Kind class e → Escapes Esc esc_at → (bs old : List ℕ) (c n : ℕ) → esc_at bs ≡ Some (c, n) → Adds (PieceOf class Esc) e old (old ++ encode c) (92 ∷ bs) (drop (n - 1) bs)
escape-adds class Esc esc_at e k escapes bs old c n found =
    (c ∷ [], ap (λ (z : List ℕ). old ++ z) (sym (append-nil (encode c))), escape-step class Esc esc_at e k escapes bs c n found)

pub escape-none : (class : ℕ → Bool) (Esc : List ℕ → ℕ → Type 0) (esc_at : List ℕ → Option (ℕ × ℕ)) (e : ℕ) → Kind class e → Escapes Esc esc_at → (bs : List ℕ) → None ≡ esc_at bs → (v tail : List ℕ) → Body (PieceOf class Esc) e (92 ∷ bs) v tail → ⊥
escape-none class Esc esc_at e k escapes bs none v tail b =
    let (d, w, t, left, is, cut, m, read) = escape-here class Esc esc_at e k escapes bs v tail b in
    none_some (d, suc (length t)) (none ∙ read)

pub escape-within : (Esc : List ℕ → ℕ → Type 0) (esc_at : List ℕ → Option (ℕ × ℕ)) → Escapes Esc esc_at → (bs : List ℕ) (r : Option (ℕ × ℕ)) → r ≡ esc_at bs → IfSome r (λ found. (0 < found.1) × (found.1 ≤ length bs + 1))
escape-within Esc esc_at escapes bs None e = tt
escape-within Esc esc_at escapes bs (Some (c, n)) e =
    let (p, rest, parts, len, esc, plain) = escapes.sound bs c n (sym e) in
    let known = escapes.complete p c esc in
    let behind : bs ≡ known.0 ++ rest = cons-tail (parts ∙ ap (λ (z : List ℕ). z ++ rest) known.1) in
    let size : length bs ≡ length known.0 + length rest = ap length behind ∙ length-append known.0 rest in
    let count : n ≡ suc (length known.0) = len ∙ ap length known.1 in
    (omega (arith, count), omega (arith, count, size))

-- an escape ends where a character does
pub escape-boundary : (Esc : List ℕ → ℕ → Type 0) (esc_at : List ℕ → Option (ℕ × ℕ)) → Escapes Esc esc_at → (bs : List ℕ) (c n : ℕ) → IsUtf8 bs → Some (c, n) ≡ esc_at bs → IsCharBoundary bs (n - 1)
escape-boundary Esc esc_at escapes bs c n utf8 found =
    let (p, rest, parts, len, esc, plain) = escapes.sound bs c n (sym found) in
    let known = escapes.complete p c esc in
    let behind : bs ≡ known.0 ++ rest = cons-tail (parts ∙ ap (λ (z : List ℕ). z ++ rest) known.1) in
    let first : encodes (92 ∷ known.0) ≡ 92 ∷ encodes known.0 = rw (encode_ascii 92 (omega arith)) refl in
    let own : encodes known.0 ≡ known.0 = cons-tail (sym first ∙ ap encodes (sym known.1) ∙ plain ∙ known.1) in
    let count : n - 1 ≡ length known.0 = ap (λ (i : ℕ). i - 1) (len ∙ ap length known.1) ∙ omega arith in
    subst (IsCharBoundary bs) (ap length own ∙ sym count) (seam known.0 rest bs utf8 (behind ∙ ap (λ (z : List ℕ). z ++ rest) (sym own)))

pub adds-then : (P : List ℕ → ℕ → Type 0) (e : ℕ) (old mid new rest after next : List ℕ) → Adds P e old mid rest after → Adds P e mid new after next → Adds P e old new rest next
adds-then P e old mid new rest after next (xs, is, f) (ys, is', g) =
    (xs ++ ys, is' ∙ ap (λ (z : List ℕ). z ++ encodes ys) is ∙ append_assoc old (encodes xs) (encodes ys) ∙ ap (λ (z : List ℕ). old ++ z) (sym (encodes-append xs ys)), step-then P e rest after next xs ys f g)

pub adds-none : (P : List ℕ → ℕ → Type 0) (e : ℕ) (old mid rest after : List ℕ) → Adds P e old mid rest after → ((v tail : List ℕ) → Body P e after v tail → ⊥) → (v tail : List ℕ) → Body P e rest v tail → ⊥
adds-none P e old mid rest after (xs, is, f) none v tail b =
    let on = f.complete v tail b in none on.0 tail on.2

pub run-added : (class : ℕ → Bool) (Esc : List ℕ → ℕ → Type 0) (esc_at : List ℕ → Option (ℕ × ℕ)) (e : ℕ) → Kind class e → Escapes Esc esc_at → (rest old new run after : List ℕ) (n : ℕ) → IsUtf8 rest → n ≡ position_or_len (λ x. not (class x)) rest → run ≡ take n rest → after ≡ drop n rest → new ≡ old ++ run → Adds (PieceOf class Esc) e old new rest after
run-added class Esc esc_at e k escapes rest old new run after n utf8 is run_is after_is text =
    let made = run-adds class Esc esc_at e k escapes rest old n is (IsUtf8-take rest n utf8 (run-boundary class e k rest n is)) in
    let to_after : Adds (PieceOf class Esc) e old (old ++ take n rest) rest after = subst (λ (z : List ℕ). Adds (PieceOf class Esc) e old (old ++ take n rest) rest z) (sym after_is) made in
    subst (λ (z : List ℕ). Adds (PieceOf class Esc) e old z rest after) (sym (text ∙ ap (λ (z : List ℕ). old ++ z) run_is)) to_after

pub escape-added : (class : ℕ → Bool) (Esc : List ℕ → ℕ → Type 0) (esc_at : List ℕ → Option (ℕ × ℕ)) (e : ℕ) → Kind class e → Escapes Esc esc_at → (bs old new after : List ℕ) (c n : ℕ) → Some (c, n) ≡ esc_at bs → after ≡ drop (n - 1) bs → new ≡ old ++ encode c → Adds (PieceOf class Esc) e old new (92 ∷ bs) after
escape-added class Esc esc_at e k escapes bs old new after c n found after_is text =
    let made = escape-adds class Esc esc_at e k escapes bs old c n (sym found) in
    let to_after : Adds (PieceOf class Esc) e old (old ++ encode c) (92 ∷ bs) after = subst (λ (z : List ℕ). Adds (PieceOf class Esc) e old (old ++ encode c) (92 ∷ bs) z) (sym after_is) made in
    subst (λ (z : List ℕ). Adds (PieceOf class Esc) e old z (92 ∷ bs) after) (sym text) to_after

pub position-none : (p : ℕ → Bool) (xs : List ℕ) → None ≡ position p xs → length xs ≡ position_or_len p xs
position-none p xs none =
    let past = ltb-false (position_or_len p xs) (length xs) (if_none _ _ none) in
    omega (arith, past, prefix_len-le-length (λ x. not (p x)) xs)

pub run-stops : (class : ℕ → Bool) (rest after : List ℕ) (n : ℕ) → n ≡ position_or_len (λ x. not (class x)) rest → after ≡ drop n rest → StopsAt class after
run-stops class rest after n is after_is =
    elim (cases_lt n (length rest)) [
      | inl inside ↦ (
          let stops : class (get_or rest n 0) ≡ false = ap (λ (i : ℕ). class (get_or rest i 0)) is ∙ not_true _ (passes_at_first (λ x. not (class x)) rest 0 (subst (λ (i : ℕ). i < length rest) is inside)) in
          subst (StopsAt class) (sym (after_is ∙ drop-cons rest n 0 inside)) stops)
      | inr past ↦ subst (StopsAt class) (sym (after_is ∙ drop_of_length-le rest past)) tt
    ]

pub stop-none : (class : ℕ → Bool) (Esc : List ℕ → ℕ → Type 0) (esc_at : List ℕ → Option (ℕ × ℕ)) (e : ℕ) → Kind class e → Escapes Esc esc_at → (after : List ℕ) → StopsAt class after → starts_with e after ≡ false → starts_with 92 after ≡ false → (v tail : List ℕ) → Body (PieceOf class Esc) e after v tail → ⊥
stop-none class Esc esc_at e k escapes [] stop no_end no_escape v tail body = end-nothing (PieceOf class Esc) e v tail body
stop-none class Esc esc_at e k escapes (b ∷ bs) stop no_end no_escape v tail body =
    let at = at_end class Esc esc_at e k escapes b bs v tail (ascii_stop class e k b stop) stop (λ is. no_both _ (eqb_same b 92 is) no_escape) body in
    no_both _ (eqb_same b e at.0) no_end

pub ended-found : (P : List ℕ → ℕ → Type 0) (e : ℕ) (text bytes tail : List ℕ) → Adds P e [] text bytes (e ∷ tail) → IsBodyPrefix P e bytes text tail
ended-found P e text bytes tail (cs, is, f) =
    (cs, is, subst (λ (z : List ℕ). Body P e bytes z tail) (append-nil cs) (f.sound [] tail (end-sound P e tail)))

pub ended-only : (class : ℕ → Bool) (Esc : List ℕ → ℕ → Type 0) (esc_at : List ℕ → Option (ℕ × ℕ)) (e : ℕ) → Kind class e → Escapes Esc esc_at → (text bytes rest v tail : List ℕ) → Adds (PieceOf class Esc) e [] text bytes (e ∷ rest) → Body (PieceOf class Esc) e bytes v tail → (text ≡ encodes v) × (rest ≡ tail)
ended-only class Esc esc_at e k escapes text bytes rest v tail (cs, is, f) b =
    let on = f.complete v tail b in
    let at = at_end class Esc esc_at e k escapes e rest on.0 tail k.end_ascii k.no_end k.end_other on.2 in
    (is ∙ ap encodes (sym (on.1 ∙ ap (λ (z : List ℕ). cs ++ z) at.1 ∙ append-nil cs)), at.2)

piece-step : (class : ℕ → Bool) (Esc : List ℕ → ℕ → Type 0) (esc_at : List ℕ → Option (ℕ × ℕ)) (e : ℕ) → Kind class e → Escapes Esc esc_at → (piece rest : List ℕ) (d : ℕ) → PieceOf class Esc piece d → Step (PieceOf class Esc) e (encodes piece ++ rest) rest (d ∷ [])
piece-step class Esc esc_at e k escapes piece rest d (inl one) =
    let ok : scalars (d ∷ []) ≡ true = rw one.1 refl in
    let step : Step (PieceOf class Esc) e (encodes (d ∷ []) ++ rest) rest (d ∷ []) = record {
      sound = λ v tail b. run-sound class Esc e (d ∷ []) rest v tail ok (one.2, tt) b;
      complete = λ v tail b. run-complete class Esc esc_at e k escapes (d ∷ []) rest v tail (one.2, tt) b;
    } in
    subst (λ (z : List ℕ). Step (PieceOf class Esc) e (encodes z ++ rest) rest (d ∷ [])) (sym one.0) step
piece-step class Esc esc_at e k escapes piece rest d (inr esc) =
    let known = escapes.complete piece d esc in
    let step = escape-step class Esc esc_at e k escapes (known.0 ++ rest) d (length piece) (known.3 rest) in
    let count : length piece - 1 ≡ length known.0 = ap (λ (z : List ℕ). length z - 1) known.1 ∙ omega arith in
    let after : drop (length piece - 1) (known.0 ++ rest) ≡ rest = ap (λ (i : ℕ). drop i (known.0 ++ rest)) count ∙ drop-past known.0 rest in
    let prefix : 92 ∷ (known.0 ++ rest) ≡ encodes piece ++ rest = ap (λ (z : List ℕ). z ++ rest) (sym (known.2 ∙ known.1)) in
    subst (λ (z : List ℕ). Step (PieceOf class Esc) e z rest (d ∷ [])) prefix (subst (λ (z : List ℕ). Step (PieceOf class Esc) e (92 ∷ (known.0 ++ rest)) z (d ∷ [])) after step)

-- one text has one body at its front: the law of one reading, for IRIREF and for strings
pub body-unique : (class : ℕ → Bool) (Esc : List ℕ → ℕ → Type 0) (esc_at : List ℕ → Option (ℕ × ℕ)) (e : ℕ) → Kind class e → Escapes Esc esc_at → (v w rest tail end : List ℕ) → Body (PieceOf class Esc) e rest v tail → Body (PieceOf class Esc) e rest w end → (v ≡ w) × (tail ≡ end)
body-unique class Esc esc_at e k escapes [] w rest tail end (s, eq, m) other =
    let here : rest ≡ e ∷ tail = eq ∙ ap (λ (z : List ℕ). encodes z ++ e ∷ tail) m in
    let at = at_end class Esc esc_at e k escapes e tail w end k.end_ascii k.no_end k.end_other (subst (λ (z : List ℕ). Body (PieceOf class Esc) e z w end) here other) in
    (sym at.1, at.2)
body-unique class Esc esc_at e k escapes (d ∷ v) w rest tail end (s, eq, (piece, left, parts, one, m)) other =
    let here : rest ≡ encodes piece ++ (encodes left ++ e ∷ tail) =
    eq ∙ ap (λ (z : List ℕ). z ++ e ∷ tail) (ap encodes parts ∙ encodes-append piece left) ∙ append_assoc (encodes piece) (encodes left) (e ∷ tail) in
    let step = piece-step class Esc esc_at e k escapes piece (encodes left ++ e ∷ tail) d one in
    let (u, is, b) = step.complete w end (subst (λ (z : List ℕ). Body (PieceOf class Esc) e z w end) here other) in
    let rec = body-unique class Esc esc_at e k escapes v u (encodes left ++ e ∷ tail) tail end (left, refl, m) b in
    (ap (λ (z : List ℕ). d ∷ z) rec.0 ∙ sym is, rec.1)
