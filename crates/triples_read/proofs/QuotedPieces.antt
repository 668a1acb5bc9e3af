-- The laws of pieces hold between either quotes.
use Rattle.triples_read.specs.Quotes.{closing, inner, Escape, escape_at}
use Rattle.triples_read.specs.declared.quoted.Quote.{Quote}
use Rattle.triples_read.specs.declared.quoted.Quote.TheVariants.{Angle, Double}
use Rattle.triples_read.proofs.BodyPieces.{Kind, Escapes}
use Rattle.triples_read.proofs.Uchars.{uchar_escapes, iri_kind}
use Rattle.triples_read.proofs.StringEscapes.{string_escapes, string_kind}

pub quote_kind : (q : Quote) → Kind (inner q) (closing q)
quote_kind Angle = iri_kind
quote_kind Double = string_kind

pub quote_escapes : (q : Quote) → Escapes (Escape q) (escape_at q)
quote_escapes Angle = uchar_escapes
quote_escapes Double = string_escapes
