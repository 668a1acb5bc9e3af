use Rattle.std.proofs.Common.{◌≡◌, ◌<◌, ◌∙◌, ap, arith, length}
use Rattle.std.proofs.lemmas.List.{length-map}
use Rattle.hash_index.specs.Items.{hash_at}
use Rattle.hash_index.specs.Slots.{hashes_of, links_of}
use Rattle.hash_index.specs.HashChains.{link_at}
use Rattle.hash_index.proofs.ChainWalks.{walk_below}
use Rattle.hash_index.proofs.index.HashIndex.older.Goals as goal

pub returns : goal.returns
returns g c =
    let slots = c.self.inside.slots.items in
    let heads = c.self.inside.heads.items in
    let hashes : hashes_of slots ≡ c.args.self.now.hashes = ap (λ x. x.hashes) c.self.view_is in
    let within : c.args.n < length slots = rw (← length-map slots (λ s. s.hash), hashes) c.requires in
    let hash : c.read_hash-hash.result ≡ hash_at (hashes_of slots) c.args.n = c.read_hash-hash.ensures ∙ ap (λ xs. hash_at (hashes_of xs) c.args.n) c.deref.ensures.value in
    let next : c.read_link.result ≡ link_at (links_of slots) c.args.n = c.read_link.ensures ∙ ap (λ xs. link_at (links_of xs) c.args.n) c.deref-3.ensures.value in
    rw (← hashes) (
    (rw (c.deref-2.ensures.value, hash) at c.along.ensures.newest) heads c.args.n c.self.invariant.linked (omega (arith, within))
    (rw next (walk_below (length slots) (hashes_of slots) (links_of slots) heads c.self.invariant.linked c.args.n within)))
