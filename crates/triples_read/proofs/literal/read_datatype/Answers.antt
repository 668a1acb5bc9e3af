use Rattle.std.proofs.Common.{◌++◌, sym, subst, List, ℕ}
use Rattle.triples_read.specs.Lines.{IsIri}
use Rattle.triples_read.specs.SpelledPrefixes.{Prefix, IsText}
use Rattle.triples_read.specs.LineRests.{IsDatatype}
use Rattle.triples_read.proofs.BlankLaws.{skip-found}
use Rattle.triples_read.proofs.PrefixLaws.{ok-some-map}
use Rattle.triples_read.proofs.LiteralLaws.{carets-text, datatype-prefix, datatype-stands}
use Rattle.triples_read.proofs.literal.read_datatype.Goals as goal

pub returns-clause-found : goal.returns-clause-found
returns-clause-found c cs is =
    let (cs2, parts, text2) = carets-text c.args.text.now c.in-Some.after.now cs c.in-Some.ensures is in
    let (gap, cs3, split, text3, blanks) = skip-found c.in-Some.after.now cs2 text2 in
    let text4 = subst (λ (z : List ℕ). IsText z cs3) (sym c.skip_blanks.ensures) text3 in
    ok-some-map (λ f. Prefix (λ s. IsIri s f.0) cs3 f.1.now) (λ f. Prefix (λ s. IsDatatype s f.0) cs f.1.now)
    (λ f prefix. datatype-prefix cs cs2 gap cs3 f.1.now f.0 parts split blanks prefix) c.read_iri.result (c.read_iri.ensures.found cs3 text4)

pub returns-clause-whole : goal.returns-clause-whole
returns-clause-whole c s r datatype is spelled =
    let (name, iri, text) = datatype-stands c.args.text.now c.in-Some.after.now s r datatype c.in-Some.ensures is spelled in
    c.read_iri.ensures.whole name r datatype (subst (λ (z : List ℕ). IsText z (name ++ r)) (sym c.skip_blanks.ensures) text) iri
