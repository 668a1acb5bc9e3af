use Rattle.std.proofs.Common.{◌≡◌, ◌∙◌, ◌+◌, List, ℕ, sym, ap, subst, take, drop, length, arith, ◌∷◌, ◌++◌, length-append}
use Rattle.std.proofs.lemmas.List.{take-append-drop}
use Rattle.bstr.specs.Find.{Nowhere, Passes, is_byte}
use Rattle.triples_read.proofs.IriPrefixes.{end-first, end-passes, cut-there}
use Rattle.triples_read.proofs.iri.up_to_end.Goals as goal

pub returns-in_default-clause-whole : goal.returns-in_default-clause-whole
returns-in_default-clause-whole c xs ys is none =
    let here = subst (λ (z : List ℕ). Passes (is_byte 62) z (length xs)) (sym is) (end-passes xs ys) in
    c.in_default.ensures (length xs) (omega arith) (omega (arith, ap length is ∙ length-append xs (62 ∷ ys))) here

pub split_at-requires : goal.split_at-requires
split_at-requires c = omega (arith, c.in-Some.ensures.0.high)

pub returns-clause-prefix : goal.returns-clause-prefix
returns-clause-prefix c =
    (drop (c.in-Some.end + 1) c.args.b.now, sym (ap (λ z. z ++ drop (c.in-Some.end + 1) c.args.b.now) c.split_at.ensures.front ∙ take-append-drop (c.in-Some.end + 1) c.args.b.now))

pub returns-clause-whole : goal.returns-clause-whole
returns-clause-whole c xs ys is none =
    let end : c.in-Some.end ≡ length xs =
    end-first xs ys _ none (subst (λ (z : List ℕ). Nowhere (Passes (is_byte 62) z) 0 c.in-Some.end) is c.in-Some.ensures.0.before)
    (subst (λ (z : List ℕ). Passes (is_byte 62) z c.in-Some.end) is c.in-Some.ensures.1) in
    c.split_at.ensures.front ∙ ap (λ n. take (n + 1) c.args.b.now) end ∙ cut-there c.args.b.now xs ys is
