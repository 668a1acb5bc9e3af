-- Triples whose terms are hashed.
use Rattle.triples_read.specs.declared.term.Triple.{Triple}
use Rattle.graph_load.specs.declared.hashed.HashedTriple.{HashedTriple}

-- the triple without its hashes
abbrev pub triple_of : HashedTriple → Triple
triple_of t = record { subject = t.subject; predicate = t.predicate; object = t.object }

-- the triple, with the hashes of its terms
abbrev pub hashed : Triple → HashedTriple
hashed t = record { subject = t.subject; predicate = t.predicate; object = t.object }
