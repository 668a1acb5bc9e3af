use Rattle.std.proofs.Common.{ap}
use Rattle.std.proofs.lemmas.List.{map-set}
use Rattle.std.proofs.Math.Seq.{map-set_same}
use Rattle.hash_index.proofs.slots.set_link.Goals as goal

pub returns-clause-hashes : goal.returns-clause-hashes
returns-clause-hashes g c = map-set_same (λ s. s.hash) c.args.slots.now.items c.args.n _ c.index_mut.result.now (ap (λ s. s.hash) c.index_mut.ensures.value)

pub returns-clause-items : goal.returns-clause-items
returns-clause-items g c = map-set_same (λ s. s.item) c.args.slots.now.items c.args.n _ c.index_mut.result.now (ap (λ s. s.item) c.index_mut.ensures.value)

pub returns-clause-links : goal.returns-clause-links
returns-clause-links g c = map-set (λ s. s.next) c.args.slots.now.items c.args.n _
