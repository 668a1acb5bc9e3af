use Rattle.std.proofs.Common.{◌≡◌, ◌∙◌, ap, arith, length}
use Rattle.std.proofs.lemmas.List.{length-map}
use Rattle.hash_index.specs.Slots.{hashes_of, links_of}
use Rattle.hash_index.specs.HashChains.{bucket_of, head_at}
use Rattle.hash_index.proofs.ChainWalks.{walk_all}
use Rattle.hash_index.proofs.index.HashIndex.newest.Goals as goal

pub returns : goal.returns
returns g c =
    let slots = c.self.inside.slots.items in
    let heads = c.self.inside.heads.items in
    let hashes : hashes_of slots ≡ c.args.self.now.hashes = ap (λ x. x.hashes) c.self.view_is in
    let head : c.read_head.result ≡ head_at heads (bucket_of heads c.args.hash) =
    c.read_head.ensures ∙ (λ i. head_at (c.deref-2.ensures.value i) ((c.bucket.ensures.is ∙ ap (λ hs. bucket_of hs c.args.hash) c.deref-3.ensures.value) i)) in
    rw (← hashes, length-map slots (λ s. s.hash)) (
    (rw c.deref.ensures.value at c.along.ensures.newest) heads (length slots) c.self.invariant.linked (omega arith)
    (rw head (walk_all (length slots) (hashes_of slots) (links_of slots) heads c.self.invariant.linked c.args.hash)))
