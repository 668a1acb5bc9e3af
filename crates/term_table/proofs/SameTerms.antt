-- Terms and texts that are the same are equal.
use Rattle.std.proofs.Common.{◌≡◌, ℕ, Bool, true, false, ◌&&◌, List, Option, Some, None, refl, sym, ap, true≢false}
use Rattle.std.specs.Prelude.{bytes_eq}
use Rattle.std.proofs.lemmas.Slice.Eq.{bytes_eq-Decides}
use Rattle.triples_read.specs.declared.term.Term.{Term}
use Rattle.triples_read.specs.declared.term.Term.TheVariants.{Iri, Blank, Literal}
use Rattle.term_table.specs.Terms.{same_tag, same_term}

pub same_bytes : (x y : List ℕ) → bytes_eq x y ≡ true → x ≡ y
same_bytes x y = (bytes_eq-Decides x y).0

pub bytes_same : (x : List ℕ) → bytes_eq x x ≡ true
bytes_same x = (bytes_eq-Decides x x).1 refl

pub both : (a b : Bool) → (a && b) ≡ true → (a ≡ true) × (b ≡ true)
both true b h = (refl, h)
both false b h = absurd (true≢false (sym h))

tag_is : (s t : Option (List ℕ)) → same_tag s t ≡ true → s ≡ t
tag_is None None h = refl
tag_is (Some s) (Some t) h = ap Some (same_bytes s t h)
tag_is None (Some t) h = absurd (true≢false (sym h))
tag_is (Some s) None h = absurd (true≢false (sym h))

tag_same : (s : Option (List ℕ)) → same_tag s s ≡ true
tag_same None = refl
tag_same (Some s) = bytes_same s

pub term_is : (x y : Term) → same_term x y ≡ true → x ≡ y
term_is (Iri x) (Iri y) h = ap Iri (same_bytes x y h)
term_is (Blank x) (Blank y) h = ap Blank (same_bytes x y h)
term_is (Literal x d s) (Literal y e t) h =
    let p = both _ _ h in
    let q = both _ _ p.1 in
    rw (same_bytes x y p.0, same_bytes d e q.0, tag_is s t q.1) refl
term_is (Iri x) (Blank y) h = absurd (true≢false (sym h))
term_is (Iri x) (Literal y e t) h = absurd (true≢false (sym h))
term_is (Blank x) (Iri y) h = absurd (true≢false (sym h))
term_is (Blank x) (Literal y e t) h = absurd (true≢false (sym h))
term_is (Literal x d s) (Iri y) h = absurd (true≢false (sym h))
term_is (Literal x d s) (Blank y) h = absurd (true≢false (sym h))

pub term_same : (x : Term) → same_term x x ≡ true
term_same (Iri x) = bytes_same x
term_same (Blank x) = bytes_same x
term_same (Literal x d s) = rw (bytes_same x, bytes_same d) (tag_same s)
