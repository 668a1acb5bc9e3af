-- The canonical spelling of a triple spells it.
use Rattle.std.proofs.Common.{◌≡◌, ◌<◌, ℕ, List, [], ◌∷◌, ◌++◌, Bool, true, false, refl, sym, ◌∙◌, ap, subst, arith, map, inl, inr, not, Option, Some, None}
use Rattle.std.specs.Prelude.{nat_eq, bytes_eq, IsUtf8}
use Rattle.std.specs.Char.{to_ascii_lowercase}
use Rattle.std.specs.List.{AllByRecursion, flat_map, list_all}
use Rattle.std.specs.Str.{chars}
use Rattle.std.proofs.Math.Utf8.{scalar, scalars, encodes, low_scalar}
use Rattle.std.proofs.lemmas.Str.{chars-encodes}
use Rattle.std.proofs.lemmas.Str.Ascii.{lowercase-lowercase}
use Rattle.std.proofs.lemmas.Bool.{eqb-true}
use Rattle.std.proofs.lemmas.Bool.Decides.{nat_tests}
use Rattle.std.proofs.lemmas.Slice.Eq.{bytes_eq-Decides}
use Rattle.std.proofs.lemmas.List.{append-nil}
use Rattle.std.proofs.lemmas.List.Concat.{flat_map-cons}
use Rattle.graph_spec.specs.Words.{is_blank, is_letter}
use Rattle.triples_read.specs.Characters.{from_to, is_letter_or_digit}
use Rattle.triples_read.specs.Terminals.{Many, StringPiece, STRING_LITERAL_QUOTE, escape_of, IsLabel, EndsIn, AllOf, OneOrMore, LANGTAG}
use Rattle.triples_read.specs.Lines.{IsIri, IsBlankNode, IsLiteral, IsSubject, IsObject, Suffix, SpellsTriple, xsd_string, lang_string}
use Rattle.triples_read.specs.SpelledPrefixes.{IsLabelPrefix}
use Rattle.triples_read.specs.Quotes.{inner, Escape, escape_at, PieceIn}
use Rattle.triples_read.specs.ByteReaders.{past_tag, tag_part}
use Rattle.triples_read.specs.Canonical.{iri_char, iri_text, string_char, string_text, suffix_text, term_text, triple_text, IsSpelled}
use Rattle.triples_read.specs.declared.quoted.Quote.{Quote}
use Rattle.triples_read.specs.declared.quoted.Quote.TheVariants.{Angle, Double}
use Rattle.triples_read.specs.declared.term.Term.{Term}
use Rattle.triples_read.specs.declared.term.Term.TheVariants.{Iri, Blank, Literal}
use Rattle.triples_read.specs.declared.term.Triple.{Triple}
use Rattle.triples_read.proofs.Basics.{bool_cases, and_both, scalars-both, none_some}
use Rattle.triples_read.proofs.BodyPieces.{many-scalars}
use Rattle.triples_read.proofs.QuotedPieces.{quote_escapes}
use Rattle.triples_read.proofs.SpellingLaws.{pieces_of}
use Rattle.triples_read.proofs.TagLaws.{TagRest, dashed, langtag-rest, rest-whole, rest-langtag, rest_bytes, tag-read, past-part, past-empty, past-dash, past-stop, some_same, no_cons}

-- values are characters
echar_value : (e c : ℕ) → escape_of e ≡ Some c → c < 128
echar_value e c is = grind (arith, nat_tests)

escape_value : (q : Quote) (s : List ℕ) (c : ℕ) → Escape q s c → scalar c ≡ true
escape_value Angle s c (u, hs, sp, which, all, is, good) = good
escape_value Double s c (inl (e, sp, is)) = low_scalar c (omega (arith, echar_value e c is))
escape_value Double s c (inr (u, hs, sp, which, all, is, good)) = good

many_values : (q : Quote) (v s : List ℕ) → Many (PieceIn q) s v → scalars v ≡ true
many_values q [] s m = refl
many_values q (c ∷ v) s (piece, rest, parts, inl one, m) = rw (one.1, many_values q v rest m) refl
many_values q (c ∷ v) s (piece, rest, parts, inr esc, m) = rw (escape_value q piece c esc, many_values q v rest m) refl

all_scalars_of : (class : ℕ → Bool) (xs : List ℕ) → AllOf class xs → scalars xs ≡ true
all_scalars_of class [] all = refl
all_scalars_of class (x ∷ xs) all = rw (all.0.0, all_scalars_of class xs all.1) refl

-- an IRI
pub iri_canonical : (s iri : List ℕ) → IsIri s iri → IsIri (iri_text (chars iri)) iri × (scalars (iri_text (chars iri)) ≡ true)
iri_canonical s iri (v, (body, sp, m), is) =
    let ok = many_values Angle v body m in
    let same : chars iri ≡ v = ap chars is ∙ chars-encodes v ok in
    let pieces = pieces_of v ok in
    let whole : scalars (iri_text v) ≡ true = scalars-both (flat_map iri_char v) (62 ∷ []) (many-scalars (inner Angle) (Escape Angle) (escape_at Angle) (quote_escapes Angle) v (flat_map iri_char v) pieces) refl in
    subst (λ (z : List ℕ). IsIri (iri_text z) iri × (scalars (iri_text z) ≡ true)) (sym same) ((v, (flat_map iri_char v, refl, pieces), is), whole)

-- a string
string_piece : (c : ℕ) → scalar c ≡ true → StringPiece (string_char c) c
string_piece c ok =
    elim (bool_cases (nat_eq c 34)) [
      | inl e ↦ inr (inl (34, rw e refl, ap Some (sym (eqb-true c 34 e))))
      | inr a ↦ elim (bool_cases (nat_eq c 92)) [
        | inl e ↦ inr (inl (92, rw (a, e) refl, ap Some (sym (eqb-true c 92 e))))
        | inr b ↦ elim (bool_cases (nat_eq c 10)) [
          | inl e ↦ inr (inl (110, rw (a, b, e) refl, ap Some (sym (eqb-true c 10 e))))
          | inr d ↦ elim (bool_cases (nat_eq c 13)) [
            | inl e ↦ inr (inl (114, rw (a, b, d, e) refl, ap Some (sym (eqb-true c 13 e))))
            | inr f ↦ inl (rw (a, b, d, f) refl, ok, rw (a, b, d, f) refl)
          ]
        ]
      ]
    ]

string_pieces : (cs : List ℕ) → scalars cs ≡ true → Many StringPiece (flat_map string_char cs) cs
string_pieces [] ok = refl
string_pieces (c ∷ cs) ok =
    let both = and_both (scalar c) (scalars cs) ok in
    (string_char c, flat_map string_char cs, flat_map-cons string_char c cs, string_piece c both.0, string_pieces cs both.1)

string_canonical : (s v text : List ℕ) → STRING_LITERAL_QUOTE s v → text ≡ encodes v → (chars text ≡ v) × STRING_LITERAL_QUOTE (string_text (chars text)) v × (scalars (string_text (chars text)) ≡ true)
string_canonical s v text (body, sp, m) is =
    let ok = many_values Double v body m in
    let same : chars text ≡ v = ap chars is ∙ chars-encodes v ok in
    let pieces = string_pieces v ok in
    let whole : scalars (string_text v) ≡ true = scalars-both (flat_map string_char v) (34 ∷ []) (many-scalars (inner Double) (Escape Double) (escape_at Double) (quote_escapes Double) v (flat_map string_char v) pieces) refl in
    let own = subst (λ (z : List ℕ). STRING_LITERAL_QUOTE (string_text z) v × (scalars (string_text z) ≡ true)) (sym same) ((flat_map string_char v, refl, pieces), whole) in
    (same, own.0, own.1)

-- a label
ends_scalars : (s : List ℕ) (inner_class final : ℕ → Bool) → EndsIn inner_class final s → scalars s ≡ true
ends_scalars s inner_class final (inl none) = ap scalars none
ends_scalars s inner_class final (inr (more, c, parts, all, ok, last)) = ap scalars parts ∙ scalars-both more (c ∷ []) (all_scalars_of inner_class more all) (rw ok refl)

label_scalars : (v : List ℕ) → IsLabel v → scalars v ≡ true
label_scalars v (first, more, parts, ok, good, ends) = ap scalars parts ∙ rw (ok, ends_scalars more _ _ ends) refl

blank_canonical : (s label : List ℕ) → IsBlankNode s label → IsBlankNode (95 ∷ 58 ∷ chars label) label × (scalars (95 ∷ 58 ∷ chars label) ≡ true)
blank_canonical s label (v, (sp, good), is) =
    let ok = label_scalars v good in
    let same : chars label ≡ v = ap chars is ∙ chars-encodes v ok in
    subst (λ (z : List ℕ). IsBlankNode (95 ∷ 58 ∷ z) label × (scalars (95 ∷ 58 ∷ z) ≡ true)) (sym same) ((v, (refl, good), is), ok)

-- a tag
lower_letter : (c : ℕ) → is_letter (to_ascii_lowercase c) ≡ is_letter c
lower_letter c = grind (arith, nat_tests)

lower_other : (c : ℕ) → is_letter_or_digit (to_ascii_lowercase c) ≡ is_letter_or_digit c
lower_other c = grind (arith, nat_tests)

lower_dash : (c : ℕ) → nat_eq (to_ascii_lowercase c) 45 ≡ nat_eq c 45
lower_dash c = grind (arith, nat_tests)

lower_part : (main : Bool) (c : ℕ) → tag_part main (to_ascii_lowercase c) ≡ tag_part main c
lower_part true c = lower_letter c
lower_part false c = lower_other c

past-lower : (xs : List ℕ) (main fresh : Bool) → past_tag main fresh xs ≡ Some [] → past_tag main fresh (map to_ascii_lowercase xs) ≡ Some []
past-lower [] main fresh e = e
past-lower (c ∷ xs) main fresh e =
    let low : ℕ = to_ascii_lowercase c in
    let lows : List ℕ = map to_ascii_lowercase xs in
    elim (bool_cases (tag_part main c)) [
      | inl good ↦ past-part main fresh low lows (lower_part main c ∙ good) ∙ past-lower xs main false (sym (past-part main fresh c xs good) ∙ e)
      | inr bad ↦ elim (bool_cases fresh) [
        | inl f ↦ absurd (none_some [] (sym (past-empty main c xs bad) ∙ ap (λ (b : Bool). past_tag main b (c ∷ xs)) (sym f) ∙ e))
        | inr f ↦ elim (bool_cases (nat_eq c 45)) [
          | inl d ↦ ap (λ (b : Bool). past_tag main b (low ∷ lows)) f ∙ past-dash main low lows (lower_part main c ∙ bad) (lower_dash c ∙ d)
              ∙ past-lower xs false true (sym (past-dash main c xs bad d) ∙ ap (λ (b : Bool). past_tag main b (c ∷ xs)) (sym f) ∙ e)
          | inr d ↦ absurd (no_cons c xs (some_same (c ∷ xs) [] (sym (past-stop main c xs bad d) ∙ ap (λ (b : Bool). past_tag main b (c ∷ xs)) (sym f) ∙ e)))
        ]
      ]
    ]

lower_twice : (xs : List ℕ) → map to_ascii_lowercase (map to_ascii_lowercase xs) ≡ map to_ascii_lowercase xs
lower_twice [] = refl
lower_twice (x ∷ xs) = rw (lowercase-lowercase x, lower_twice xs) refl

pub tag_canonical : (s tag : List ℕ) → LANGTAG (64 ∷ s) tag → TagRest true true tag × (map to_ascii_lowercase tag ≡ tag)
tag_canonical s tag langtag =
    let (rest, lower) = langtag-rest s tag langtag in
    let read : past_tag true true s ≡ Some [] = ap (past_tag true true) (sym (append-nil s)) ∙ rest-whole s true true [] rest tt in
    let low : past_tag true true tag ≡ Some [] = ap (past_tag true true) lower ∙ past-lower s true true read in
    let (whole, parts, tag_rest) = tag-read tag true true [] low in
    (subst (TagRest true true) (sym (parts ∙ append-nil whole)) tag_rest, ap (map to_ascii_lowercase) lower ∙ lower_twice s ∙ sym lower)

subs_scalars : (subs : List (List ℕ)) → AllByRecursion (OneOrMore is_letter_or_digit) subs → scalars (dashed subs) ≡ true
subs_scalars [] all = refl
subs_scalars (sub ∷ subs) all =
    ap scalars (flat_map-cons (λ (x : List ℕ). 45 ∷ x) sub subs) ∙ scalars-both sub (dashed subs) (all_scalars_of is_letter_or_digit sub all.0.1) (subs_scalars subs all.1)

rest_scalars : (s : List ℕ) (main fresh : Bool) → TagRest main fresh s → scalars s ≡ true
rest_scalars s main fresh (part, subs, is, all, some, others) =
    ap scalars is ∙ scalars-both part (dashed subs) (all_scalars_of (tag_part main) part all) (subs_scalars subs others)

tag_chars : (tag : List ℕ) → TagRest true true tag → chars tag ≡ tag
tag_chars tag rest = ap chars (sym (rest_bytes tag true true rest)) ∙ chars-encodes tag (rest_scalars tag true true rest)

-- what follows the string of a literal
plain_text : (datatype : List ℕ) → bytes_eq datatype xsd_string ≡ true → suffix_text datatype None ≡ []
plain_text datatype same = rw same refl

typed_text : (datatype : List ℕ) → bytes_eq datatype xsd_string ≡ false → suffix_text datatype None ≡ 94 ∷ 94 ∷ iri_text (chars datatype)
typed_text datatype other = rw other refl

typed_canonical : (datatype : List ℕ) → bytes_eq datatype xsd_string ≡ false → IsIri (iri_text (chars datatype)) datatype → scalars (iri_text (chars datatype)) ≡ true → Suffix (suffix_text datatype None) datatype None × (scalars (suffix_text datatype None) ≡ true)
typed_canonical datatype other spelled ok =
    let text = typed_text datatype other in
    (inr ([], [], iri_text (chars datatype), text, tt, tt, spelled), ap scalars text ∙ ok)

plain_canonical : (datatype : List ℕ) → bytes_eq datatype xsd_string ≡ true → datatype ≡ xsd_string → Suffix (suffix_text datatype None) datatype None × (scalars (suffix_text datatype None) ≡ true)
plain_canonical datatype same is =
    let text = plain_text datatype same in
    (inl (text, is), ap scalars text)

same_xsd : (datatype : List ℕ) → bytes_eq datatype xsd_string ≡ true → datatype ≡ xsd_string
same_xsd datatype same = (bytes_eq-Decides datatype xsd_string).0 same

xsd_same : (datatype : List ℕ) → datatype ≡ xsd_string → bytes_eq datatype xsd_string ≡ true
xsd_same datatype is = (bytes_eq-Decides datatype xsd_string).1 is

suffix_canonical : (s datatype : List ℕ) (tag : Option (List ℕ)) → Suffix s datatype tag → Suffix (suffix_text datatype tag) datatype tag × (scalars (suffix_text datatype tag) ≡ true)
suffix_canonical s datatype None (inl (none, plain)) = plain_canonical datatype (xsd_same datatype plain) plain
suffix_canonical s datatype None (inr (gap, after, name, sp, before, blanks, spelled)) =
    let iri = iri_canonical name datatype spelled in
    elim (bool_cases (bytes_eq datatype xsd_string)) [
      | inl same ↦ plain_canonical datatype same (same_xsd datatype same)
      | inr other ↦ typed_canonical datatype other iri.0 iri.1
    ]
suffix_canonical s datatype (Some tag) (gap, name, sp, before, (main, subs, first, others, named, lower), kind) =
    let langtag : LANGTAG (64 ∷ (main ++ dashed subs)) tag = subst (λ (z : List ℕ). LANGTAG z tag) named (main, subs, first, others, named, lower) in
    let (rest, same) = tag_canonical (main ++ dashed subs) tag langtag in
    let own : LANGTAG (64 ∷ tag) tag = subst (LANGTAG (64 ∷ tag)) same (rest-langtag tag rest) in
    subst (λ (z : List ℕ). Suffix (64 ∷ z) datatype (Some tag) × (scalars (64 ∷ z) ≡ true)) (sym (tag_chars tag rest)) (([], 64 ∷ tag, refl, tt, own, kind), rest_scalars tag true true rest)

subject_canonical : (s : List ℕ) (t : Term) → IsSubject s t → IsSubject (term_text t) t × (scalars (term_text t) ≡ true)
subject_canonical s (Iri iri) h = iri_canonical s iri h
subject_canonical s (Blank label) h = blank_canonical s label h
subject_canonical s (Literal text datatype tag) h = absurd h

object_canonical : (s : List ℕ) (t : Term) → IsObject s t → IsObject (term_text t) t × (scalars (term_text t) ≡ true)
object_canonical s (Iri iri) h = iri_canonical s iri h
object_canonical s (Blank label) h = blank_canonical s label h
object_canonical s (Literal text datatype tag) (quoted, rest, v, sp, string, text_is, suffix) =
    let (same, string2, ok) = string_canonical quoted v text string text_is in
    let (suffix2, ok2) = suffix_canonical rest datatype tag suffix in
    ((string_text (chars text), suffix_text datatype tag, v, refl, string2, text_is, suffix2), scalars-both (string_text (chars text)) (suffix_text datatype tag) ok ok2)

-- a triple whose parts are spelled is spelled by its canonical text
pub parts_spelled : (t : Triple) (x y z : List ℕ) → IsSubject x t.subject → IsIri y t.predicate → IsObject z t.object → SpellsTriple (encodes (triple_text t)) t
parts_spelled t x y z is_subject is_predicate is_object =
    let (subject, ok1) = subject_canonical x t.subject is_subject in
    let (predicate, ok2) = iri_canonical y t.predicate is_predicate in
    let (object, ok3) = object_canonical z t.object is_object in
    let a : List ℕ = term_text t.subject in
    let b : List ℕ = iri_text (chars t.predicate) in
    let c : List ℕ = term_text t.object in
    let end = scalars-both c (32 ∷ 46 ∷ []) ok3 refl in
    let middle = scalars-both b (32 ∷ (c ++ (32 ∷ 46 ∷ []))) ok2 end in
    let whole = scalars-both a (32 ∷ (b ++ (32 ∷ (c ++ (32 ∷ 46 ∷ []))))) ok1 middle in
    let space : AllOf is_blank (32 ∷ []) = ((refl, refl), tt) in (
      record { chars = triple_text t; scalars = whole; encoded = refl },
      [],
      triple_text t,
      [],
      [],
      sym (append-nil (triple_text t)),
      tt,
      record { subject = a; gap = 32 ∷ []; predicate = b; gap2 = 32 ∷ []; object = c; gap3 = 32 ∷ []; whole = refl; gaps = (space, space, space); is_subject = subject; is_predicate = predicate; is_object = object },
      tt,
      inl refl,
    )

pub spelled-parts : (t : Triple) → IsSpelled t → (s : List ℕ) × (z : List ℕ) × IsSubject s t.subject × IsObject z t.object
spelled-parts t (line, (cs, before, triple, after, comment, parts, blanks, is, blanks2, last)) = (is.subject, is.object, is.is_subject, is.is_object)

-- and so is one that some line spells
pub canonical_spells : (t : Triple) → IsSpelled t → SpellsTriple (encodes (triple_text t)) t
canonical_spells t (line, (cs, before, triple, after, comment, parts, blanks, is, blanks2, last)) =
    parts_spelled t is.subject is.predicate is.object is.is_subject is.is_predicate is.is_object

-- texts that are spelled
pub iri_of_text : (iri : List ℕ) → IsUtf8 iri → (s : List ℕ) × IsIri s iri
iri_of_text iri (cs, (ok, eq)) = (iri_text cs, (cs, (flat_map iri_char cs, refl, pieces_of cs ok), sym eq))

pub string_of_text : (text : List ℕ) → IsUtf8 text → (s : List ℕ) × (v : List ℕ) × STRING_LITERAL_QUOTE s v × (text ≡ encodes v)
string_of_text text (cs, (ok, eq)) = (string_text cs, cs, (flat_map string_char cs, refl, string_pieces cs ok), sym eq)

pub literal_of_text : (q v text s datatype : List ℕ) (tag : Option (List ℕ)) → STRING_LITERAL_QUOTE q v → text ≡ encodes v → Suffix s datatype tag → (w : List ℕ) × IsLiteral w text datatype tag
literal_of_text q v text s datatype tag string is suffix = (q ++ s, (q, s, v, refl, string, is, suffix))

pub plain_suffix : (s datatype : List ℕ) → IsIri s datatype → (r : List ℕ) × Suffix r datatype None
plain_suffix s datatype spelled = (94 ∷ 94 ∷ s, inr ([], [], s, refl, tt, tt, spelled))

pub tagged_suffix : (datatype tag : List ℕ) → bytes_eq datatype lang_string ≡ true → LANGTAG (64 ∷ tag) tag → (s : List ℕ) × Suffix s datatype (Some tag)
tagged_suffix datatype tag same langtag = (64 ∷ tag, ([], 64 ∷ tag, refl, tt, langtag, (bytes_eq-Decides datatype lang_string).0 same))

pub suffix_tag : (s datatype tag : List ℕ) → Suffix s datatype (Some tag) → (bytes_eq datatype lang_string ≡ true) × (u : List ℕ) × LANGTAG (64 ∷ u) tag
suffix_tag s datatype tag (gap, name, sp, before, (main, subs, first, others, named, lower), kind) =
    ((bytes_eq-Decides datatype lang_string).1 kind, main ++ dashed subs, subst (λ (z : List ℕ). LANGTAG z tag) named (main, subs, first, others, named, lower))

-- a whole label
pub label_of_text : (text tail : List ℕ) → IsUtf8 text → IsLabelPrefix text tail → tail ≡ [] → IsBlankNode (95 ∷ 58 ∷ chars text) text
label_of_text text tail utf8 (v, good, eq) none =
    let whole : text ≡ encodes v = eq ∙ ap (λ (z : List ℕ). encodes v ++ z) none ∙ append-nil (encodes v) in
    (blank_canonical (95 ∷ 58 ∷ v) text (v, (refl, good), whole)).0

pub text_of_label : (text s : List ℕ) → IsBlankNode s text → (v : List ℕ) × IsLabel v × (text ≡ encodes (v ++ []))
text_of_label text s (v, (sp, good), is) = (v, good, is ∙ ap encodes (sym (append-nil v)))

-- a whole tag
lower_one : (x : ℕ) → not (from_to 65 90 x) ≡ true → to_ascii_lowercase x ≡ x
lower_one x h = grind (arith, nat_tests)

lower_alone : (xs : List ℕ) → list_all (λ b. not (from_to 65 90 b)) xs ≡ true → map to_ascii_lowercase xs ≡ xs
lower_alone [] all = refl
lower_alone (x ∷ xs) all =
    let both = and_both (not (from_to 65 90 x)) (list_all (λ b. not (from_to 65 90 b)) xs) all in
    rw (lower_one x both.0, lower_alone xs both.1) refl

low_lower : (x : ℕ) → not (from_to 65 90 (to_ascii_lowercase x)) ≡ true
low_lower x = grind (arith, nat_tests)

all_lower : (xs : List ℕ) → list_all (λ b. not (from_to 65 90 b)) (map to_ascii_lowercase xs) ≡ true
all_lower [] = refl
all_lower (x ∷ xs) = rw (low_lower x, all_lower xs) refl

pub tag_of_text : (text : List ℕ) → past_tag true true text ≡ Some [] → list_all (λ b. not (from_to 65 90 b)) text ≡ true → LANGTAG (64 ∷ text) text
tag_of_text text read low =
    let (s, parts, rest) = tag-read text true true [] read in
    let whole : text ≡ s = parts ∙ append-nil s in
    let tag : LANGTAG (64 ∷ text) (map to_ascii_lowercase text) = rest-langtag text (subst (TagRest true true) (sym whole) rest) in
    subst (LANGTAG (64 ∷ text)) (lower_alone text low) tag

pub text_of_tag : (text s : List ℕ) → LANGTAG (64 ∷ s) text → (past_tag true true text ≡ Some []) × (list_all (λ b. not (from_to 65 90 b)) text ≡ true)
text_of_tag text s langtag =
    let (rest, same) = tag_canonical s text langtag in (
      ap (past_tag true true) (sym (append-nil text)) ∙ rest-whole text true true [] rest tt,
      ap (list_all (λ b. not (from_to 65 90 b))) (sym same) ∙ all_lower text,
    )
