-- A walk along a chain.
use Rattle.std.proofs.Common.{◌≡◌, ◌≢◌, ℕ, ◌-◌, ◌<◌, ◌≤◌, List, sym, ◌∙◌, ap, arith, Some, None}
use Rattle.hash_index.specs.Items.{hash_at, IsNewest}
use Rattle.hash_index.specs.HashChains.{AreChains, bucket_of, head_at, link_at, IsWalk}

module _ (n : ℕ) (hashes links heads : List ℕ) (k : AreChains n hashes links heads) where
  -- it begins at the head of a bucket
  pub walk_all : (hash : ℕ) → IsWalk hashes heads hash n (head_at heads (bucket_of heads hash))
  walk_all hash = record {
    below = k.head_below _;
    chain = λ p. k.head_is _ p;
    rest = λ j h e. rw (← e) (k.head_covers j h);
  }

  -- or at the link of a number
  pub walk_below : (m : ℕ) → m < n → IsWalk hashes heads (hash_at hashes m) m (link_at links m)
  walk_below m within = record {
    below = k.next_below m within;
    chain = λ p. k.next_is m within p;
    rest = λ j h e. k.next_covers m j within h (ap (bucket_of heads) e);
  }

  pub walk_on : (hash m at : ℕ) → m ≤ n → 0 < at → IsWalk hashes heads hash m at → hash_at hashes (at - 1) ≢ hash → IsWalk hashes heads hash m (link_at links (at - 1))
  walk_on hash m at few p w other =
      let in_range : at - 1 < n = (let b = w.below in omega (arith, b, p, few)) in
      let falls = k.next_below (at - 1) in_range in
      record {
        below = (let b = w.below in omega (arith, falls, b));
        chain = λ q. k.next_is (at - 1) in_range q ∙ w.chain p;
        rest = λ j h e.
            let apart : j ≢ at - 1 = λ (s : j ≡ at - 1). other (rw (← s) e) in
            let less : j < at - 1 = (let r = w.rest j h e in omega (arith, r, apart)) in
            k.next_covers (at - 1) j in_range less (ap (bucket_of heads) e ∙ sym (w.chain p));
      }

pub walk_found : (hashes heads : List ℕ) (hash m at : ℕ) → 0 < at → IsWalk hashes heads hash m at → hash_at hashes (at - 1) ≡ hash → IsNewest hashes hash m (Some (at - 1))
walk_found hashes heads hash m at p w is = record {
  below = (let b = w.below in omega (arith, b, p));
  has = is;
  covers = λ j h e. let r = w.rest j h e in omega (arith, r, p);
}

pub walk_end : (hashes heads : List ℕ) (hash m at : ℕ) → at ≤ 0 → IsWalk hashes heads hash m at → IsNewest hashes hash m None
walk_end hashes heads hash m at none w = record {
  below = omega arith;
  has = tt;
  covers = λ j h e. let r = w.rest j h e in omega (arith, r, none);
}
