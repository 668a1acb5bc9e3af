use Rattle.std.proofs.Common.{◌≡◌, ◌+◌, ◌<◌, ◌++◌, ◌∷◌, [], ◌∙◌, sym, ap, rules, arith, length}
use Rattle.std.proofs.lemmas.List.{length-map, length_push}
use Rattle.hash_index.specs.Slots.{hashes_of, links_of}
use Rattle.hash_index.specs.HashChains.{bucket_of, head_at}
use Rattle.hash_index.proofs.Linked.{linked_push}
use Rattle.hash_index.proofs.index.add.Goals as goal

pub returns-clause-index : goal.returns-clause-index
returns-clause-index g c =
    let slots = c.args.slots.now.items in
    let new = c.push_slot.new.slots.items in
    let heads = c.args.heads.now.items in
    let n : c.len-n.result ≡ length slots = search rules in
    let full = c.if-n-ge2147483647.false in
    let head : c.read_head.result ≡ head_at heads c.bucket-b.result = search rules in
    let is : c.bucket-b.result ≡ bucket_of heads c.args.hash = search rules in
    let within : c.bucket-b.result < length heads = search rules in
    let hashes : hashes_of new ≡ hashes_of slots ++ c.args.hash ∷ [] = search rules in
    let links : links_of new ≡ links_of slots ++ head_at heads c.bucket-b.result ∷ [] = rw (← head) (search rules) in
    let count : length new ≡ length slots + 1 = sym (length-map new (λ s. s.hash)) ∙ ap length hashes ∙ length_push (hashes_of slots) c.args.hash ∙ ap (λ k. k + 1) (length-map slots (λ s. s.hash)) in
    record {
      few = omega (arith, count, n, full);
      linked = rw count (
          linked_push (length slots) (hashes_of slots) (hashes_of new) (links_of slots) (links_of new) heads _ c.args.hash c.bucket-b.result c.requires.index.linked
          (sym (length-map slots (λ s. s.hash))) (sym (length-map slots (λ s. s.next))) hashes links is within (rw (← n) c.set_head.ensures));
      some = rw c.set_head.ensures (search rules);
    }
