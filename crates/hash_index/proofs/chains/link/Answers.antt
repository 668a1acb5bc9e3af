use Rattle.std.proofs.Common.{◌≡◌, ◌<◌, rules, length}
use Rattle.std.proofs.lemmas.List.{length-map}
use Rattle.hash_index.specs.Items.{hash_at}
use Rattle.hash_index.specs.Slots.{hashes_of, links_of}
use Rattle.hash_index.specs.HashChains.{bucket_of, head_at}
use Rattle.hash_index.proofs.Linked.{linked_set}
use Rattle.hash_index.proofs.chains.link.Goals as goal

pub returns-clause-linked : goal.returns-clause-linked
returns-clause-linked g c =
    let slots = c.args.slots.now.items in
    let heads = c.args.heads.now.items in
    let hash : c.read_hash.result ≡ hash_at (hashes_of slots) c.args.n = search rules in
    let is : c.bucket-b.result ≡ bucket_of heads (hash_at (hashes_of slots) c.args.n) = rw (← hash) (search rules) in
    let within : c.bucket-b.result < length heads = search rules in
    let head : c.read_head.result ≡ head_at heads c.bucket-b.result = search rules in
    linked_set c.args.n (hashes_of slots) _ (links_of slots) _ heads _ c.bucket-b.result c.requires.linked c.set_link.ensures.hashes (rw (length-map slots (λ s. s.next)) c.requires.within)
    is within (rw (← head) c.set_link.ensures.links) c.set_head.ensures
