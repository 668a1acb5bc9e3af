use Rattle.std.proofs.Common.{◌≡◌, ◌<◌, arith, length}
use Rattle.block_partition.proofs.NumberSets.{places_pushed}
use Rattle.block_partition.proofs.live.Live.push.Goals as goal

pub invariant_of-self : goal.invariant_of-self
invariant_of-self c =
    let s = c.self.inside in
    let span = rw (← c.self.view_is) at c.requires.within in
    let within : c.args.n < length s.places.items = omega (arith, span) in
    let len : c.len.result ≡ length s.numbers.items = omega arith in
    rw (c.push_reserved.ensures.items, len)
    (places_pushed s.numbers.items s.places.items c.args.n c.self.invariant within (rw (← c.self.view_is) at c.requires.other))
