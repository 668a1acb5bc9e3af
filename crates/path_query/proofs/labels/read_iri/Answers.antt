use Rattle.std.proofs.Common.{◌∙◌, ap}
use Rattle.triples_read.specs.Canonical.{iri_spelling}
use Rattle.path_query.proofs.labels.read_iri.Goals as goal

pub returns-in_default-clause-only : goal.returns-in_default-clause-only
returns-in_default-clause-only c n iri h = let only = rw c.in_default.is at c.in_ok-iri.ensures.only in only n iri h

pub returns-clause-only : goal.returns-clause-only
returns-clause-only c n iri h =
    let only = rw c.in-Some.is at c.in_ok-iri.ensures.only in
    let found = only n iri h in (c.in_ok-label.ensures ∙ ap iri_spelling found.0, found.1)
