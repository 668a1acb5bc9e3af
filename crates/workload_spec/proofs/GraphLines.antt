-- Each line of a made graph file spells a triple.
use Rattle.std.proofs.Common.{◌≡◌, ◌<◌, ◌≤◌, ◌/◌, ◌^◌, ℕ, zero, suc, Bool, true, false, List, [], ◌∷◌, ◌++◌, append_assoc, append-nil, None, refl, sym, arith, rules, lit<, inl}
use Rattle.std.specs.Prelude.{codes, decimal, encode_utf8_all, ◌&&◌, ◌==◌, if◌then◌else◌, nat_le, nat_lt, slice_index}
use Rattle.std.specs.Char.{is_ascii_digit}
use Rattle.std.specs.List.{list_all}
use Rattle.std.proofs.Math.Utf8.{scalar, scalars, encodes}
use Rattle.std.proofs.lemmas.Bool.{ne_eqb}
use Rattle.std.proofs.lemmas.Str.{encodes-IsAscii}
use Rattle.triples_read.specs.Characters.{is_iri_char, is_string_char}
use Rattle.triples_read.specs.Lines.{IsIri, IsLiteral, IsObject, SpellsTriple, TextOf, xsd_string}
use Rattle.triples_read.specs.Terminals.{Blanks, Many, StringPiece}
use Rattle.triples_read.specs.declared.term.Term.{Term}
use Rattle.triples_read.specs.declared.term.Term.TheVariants.{Iri, Literal}
use Rattle.triples_read.specs.declared.term.Triple.{Triple}
use Rattle.std.proofs.Math.Nat.{mod-lt}
use Rattle.path_query.proofs.LabelBytes.{both}
use Rattle.workload.specs.Generator.{number_at, state_after}
use Rattle.workload.specs.MadeTexts.{graph_line, is_node_at, node_term, object_at, object_term, predicate_at, predicate_term, subject_at, triple_line, value_at, value_term}
use Rattle.workload_spec.proofs.Plain.{all_linked, digits_of_decimal}
use Rattle.workload_spec.proofs.Queries.{pieces}

-- a character of an IRI, as it is
abbrev is_iri_byte : ℕ → Bool
is_iri_byte c = scalar c && is_iri_char c

abbrev is_string_byte : ℕ → Bool
is_string_byte c = scalar c && is_string_char c

quoted_pieces : (cs : List ℕ) → list_all is_string_byte cs ≡ true → Many StringPiece cs cs
quoted_pieces [] h = refl
quoted_pieces (c ∷ cs) h =
    let a = both (is_string_byte c) (list_all is_string_byte cs) h in
    let b = both (scalar c) (is_string_char c) a.0 in
    (c ∷ [], cs, refl, inl (refl, b.0, b.1), quoted_pieces cs a.1)

digits_in : (class : ℕ → Bool) → ((d : ℕ) → is_ascii_digit d ≡ true → class d ≡ true) → (ds : List ℕ) → list_all is_ascii_digit ds ≡ true → list_all class ds ≡ true
digits_in class each [] h = refl
digits_in class each (d ∷ ds) h =
    let a = both (is_ascii_digit d) (list_all is_ascii_digit ds) h in
    rw (each d a.0) (digits_in class each ds a.1)

between : (d : ℕ) → is_ascii_digit d ≡ true → (48 ≤ d) × (d ≤ 57)
between d h =
    let low : nat_le 48 d ≡ true = (both (nat_le 48 d) (nat_le d 57) h).0 in
    let high : nat_le d 57 ≡ true = (both (nat_le 48 d) (nat_le d 57) h).1 in
    (search (rules, arith, low), search (rules, arith, high))

-- a digit is none of the characters on either side
other_below : (d c : ℕ) → 48 ≤ d → c < 48 → (d == c) ≡ false
other_below d c h k = ne_eqb d c (λ e. omega (arith, e, h, k))

other_above : (d c : ℕ) → d ≤ 57 → 57 < c → (d == c) ≡ false
other_above d c h k = ne_eqb d c (λ e. omega (arith, e, h, k))

scalar_digit : (d : ℕ) → d ≤ 57 → scalar d ≡ true
scalar_digit d h = let small : nat_lt d 55296 ≡ true = search (rules, arith, h) in rw small refl

iri_digit : (d : ℕ) → is_ascii_digit d ≡ true → is_iri_byte d ≡ true
iri_digit d h =
    let b = between d h in
    let low : 48 ≤ d = b.0 in
    let above : nat_lt 32 d ≡ true = search (rules, arith, low) in
    rw (scalar_digit d b.1) (rw above (rw (other_above d 60 b.1 (lit< tt)) (rw (other_above d 62 b.1 (lit< tt)) (rw (other_below d 34 b.0 (lit< tt))
    (rw (other_above d 123 b.1 (lit< tt)) (rw (other_above d 125 b.1 (lit< tt)) (rw (other_above d 124 b.1 (lit< tt))
    (rw (other_above d 94 b.1 (lit< tt)) (rw (other_above d 96 b.1 (lit< tt)) (rw (other_above d 92 b.1 (lit< tt)) refl))))))))))

string_digit : (d : ℕ) → is_ascii_digit d ≡ true → is_string_byte d ≡ true
string_digit d h =
    let b = between d h in
    rw (scalar_digit d b.1) (rw (other_below d 34 b.0 (lit< tt)) (rw (other_above d 92 b.1 (lit< tt)) (rw (other_below d 10 b.0 (lit< tt)) (rw (other_below d 13 b.0 (lit< tt)) refl))))

node_iri : (n : ℕ) → n < 2 ^ 64 → IsIri (node_term n) (encode_utf8_all (codes "http://e/s" ++ decimal n))
node_iri n h = (
  codes "http://e/s" ++ decimal n,
  (codes "http://e/s" ++ decimal n, refl, pieces (codes "http://e/s" ++ decimal n) (all_linked is_iri_byte (codes "http://e/s") (decimal n) refl (digits_in is_iri_byte iri_digit (decimal n) (digits_of_decimal n h)))),
  refl,
)

predicate_iri : (n : ℕ) → n < 2 ^ 64 → IsIri (predicate_term n) (encode_utf8_all (codes "http://e/p" ++ decimal n))
predicate_iri n h = (
  codes "http://e/p" ++ decimal n,
  (codes "http://e/p" ++ decimal n, refl, pieces (codes "http://e/p" ++ decimal n) (all_linked is_iri_byte (codes "http://e/p") (decimal n) refl (digits_in is_iri_byte iri_digit (decimal n) (digits_of_decimal n h)))),
  refl,
)

value_literal : (n : ℕ) → n < 2 ^ 64 → IsLiteral (value_term n) (encode_utf8_all (codes "v" ++ decimal n)) xsd_string None
value_literal n h = (
  value_term n,
  [],
  codes "v" ++ decimal n,
  sym (append-nil (value_term n)),
  (codes "v" ++ decimal n, refl, quoted_pieces (codes "v" ++ decimal n) (all_linked is_string_byte (codes "v") (decimal n) refl (digits_in is_string_byte string_digit (decimal n) (digits_of_decimal n h)))),
  refl,
  inl (refl, refl),
)

-- ---- the line

abbrev is_small : ℕ → Bool
is_small b = nat_lt b 128

small_digit : (d : ℕ) → is_ascii_digit d ≡ true → is_small d ≡ true
small_digit d h = let b : d ≤ 57 = (between d h).1 in search (rules, arith, b)

small_decimal : (n : ℕ) → n < 2 ^ 64 → list_all is_small (decimal n) ≡ true
small_decimal n h = digits_in is_small small_digit (decimal n) (digits_of_decimal n h)

small_scalars : (bs : List ℕ) → list_all is_small bs ≡ true → scalars bs ≡ true
small_scalars [] h = refl
small_scalars (b ∷ bs) h =
    let a = both (is_small b) (list_all is_small bs) h in
    let small : is_small b ≡ true = a.0 in
    let bound : b < 128 = search (rules, arith, small) in
    let low : nat_lt b 55296 ≡ true = search (rules, arith, bound) in
    let rest = small_scalars bs a.1 in
    rw low rest

small_ascii : (bs : List ℕ) → list_all is_small bs ≡ true → (i : ℕ) → slice_index bs i < 128
small_ascii [] h i = search (rules, arith)
small_ascii (b ∷ bs) h zero = let small : is_small b ≡ true = (both (is_small b) (list_all is_small bs) h).0 in search (rules, arith, small)
small_ascii (b ∷ bs) h (suc i) = small_ascii bs (both (is_small b) (list_all is_small bs) h).1 i

abbrev text_of : (bs : List ℕ) → list_all is_small bs ≡ true → TextOf bs
text_of bs h = record { chars = bs; scalars = small_scalars bs h; encoded = sym (encodes-IsAscii bs (small_ascii bs h)) }

line_small : (s p o : List ℕ) → list_all is_small s ≡ true → list_all is_small p ≡ true → list_all is_small o ≡ true → list_all is_small (triple_line s p o) ≡ true
line_small s p o f g h =
    all_linked is_small (s ++ codes " " ++ p ++ codes " " ++ o) (codes " .")
    (all_linked is_small (s ++ codes " " ++ p ++ codes " ") o
    (all_linked is_small (s ++ codes " " ++ p) (codes " ")
    (all_linked is_small (s ++ codes " ") p (all_linked is_small s (codes " ") f refl) g) refl) h) refl

line_parts : (s p o gap e : List ℕ) → s ++ gap ++ p ++ gap ++ o ++ (gap ++ e) ≡ s ++ (gap ++ (p ++ (gap ++ (o ++ (gap ++ e)))))
line_parts s p o gap e = simp append_assoc refl

term_small : (head tail : List ℕ) (n : ℕ) → n < 2 ^ 64 → list_all is_small head ≡ true → list_all is_small tail ≡ true → list_all is_small (head ++ decimal n ++ tail) ≡ true
term_small head tail n h f g = all_linked is_small (head ++ decimal n) tail (all_linked is_small head (decimal n) f (small_decimal n h)) g

one_blank : Blanks (codes " ")
one_blank = ((refl, refl), tt)

line_spelled : (s p : ℕ) (o : List ℕ) (object : Term) → s < 2 ^ 64 → p < 2 ^ 64 → list_all is_small o ≡ true → IsObject o object
    → (t : Triple) × SpellsTriple (triple_line (node_term s) (predicate_term p) o) t
line_spelled s p o object hs hp ho is =
    let line = triple_line (node_term s) (predicate_term p) o in (
      record { subject = Iri (encode_utf8_all (codes "http://e/s" ++ decimal s)); predicate = encode_utf8_all (codes "http://e/p" ++ decimal p); object = object },
      (
        text_of line (line_small (node_term s) (predicate_term p) o (term_small (codes "<http://e/s") (codes ">") s hs refl refl) (term_small (codes "<http://e/p") (codes ">") p hp refl refl) ho),
        [],
        line,
        [],
        [],
        sym (append-nil line),
        tt,
        record {
          subject = node_term s;
          gap = codes " ";
          predicate = predicate_term p;
          gap2 = codes " ";
          object = o;
          gap3 = codes " ";
          whole = line_parts (node_term s) (predicate_term p) o (codes " ") (codes ".");
          gaps = (one_blank, one_blank, one_blank);
          is_subject = node_iri s hs;
          is_predicate = predicate_iri p hp;
          is_object = is;
        },
        tt,
        inl refl,
      ),
    )

pub drawn_small : (x m : ℕ) → 0 < m → number_at x m < m
unfolding number_at
drawn_small x m h = mod-lt (x / 2 ^ 33) h

object_spelled : (x : ℕ) → (object : Term) × (list_all is_small (object_term x) ≡ true) × IsObject (object_term x) object
object_spelled x = elim (is_node_at x) as (λ b. (object : Term) × (list_all is_small (if b then node_term (object_at x) else value_term (value_at x)) ≡ true) × IsObject (if b then node_term (object_at x) else value_term (value_at x)) object) [
  | true ↦ (Iri (encode_utf8_all (codes "http://e/s" ++ decimal (object_at x))), term_small (codes "<http://e/s") (codes ">") (object_at x) far refl refl, node_iri (object_at x) far)
  | false ↦ (Literal (encode_utf8_all (codes "v" ++ decimal (value_at x))) xsd_string None, term_small (codes "\"v") (codes "\"") (value_at x) value refl refl, value_literal (value_at x) value)
]
  where
    far : object_at x < 2 ^ 64
    far = let a = drawn_small (state_after 1 x) 4000 (lit< tt) in let c = drawn_small (state_after 3 x) 16 (lit< tt) in omega (arith, a, c)

    value : value_at x < 2 ^ 64
    value = let v = drawn_small (state_after 4 x) 500 (lit< tt) in omega (arith, v)

-- each line of a graph file spells a triple
pub graph_spelled : (x : ℕ) → (t : Triple) × SpellsTriple (graph_line x) t
graph_spelled x =
    let o = object_spelled x in
    let a = drawn_small (state_after 1 x) 4000 (lit< tt) in
    let p = drawn_small (state_after 2 x) 8 (lit< tt) in
    line_spelled (subject_at x) (predicate_at x) (object_term x) o.0 (omega (arith, a)) (omega (arith, p)) o.1 o.2
