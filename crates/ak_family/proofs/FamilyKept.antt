-- What a draft shows is a family once it is settled.
use Rattle.std.proofs.Common.{◌≡◌, ℕ, ◌+◌, ◌<◌, List, length, Option, Some, None, IsSome, is_some, Bool, true, false, true≢false, cond, refl, sym, ◌∙◌, ap, subst, arith, inl, inr}
use Rattle.graph_spec.specs.Members.{at}
use Rattle.bisim_spec.specs.IndexGraphs.{View, support_at}
use Rattle.quotient_draft.specs.Drafts.{has_member, with_added, with_moves, with_supports}
use Rattle.quotient_draft.proofs.Gone.{member_there}
use Rattle.keyed_quotient.specs.KeyedQuotients.{KeyedQuotient, key_at, AreKeyed}
use Rattle.keyed_quotient.specs.Changes.{KeyedChanges, blocks_as_shown, labels_as_shown, support_as_shown, shown_key, IsKeyedOver, IsSettled, AreInhabited, AreUnsupported}
use Rattle.keyed_quotient.proofs.Numbered.{test_is}
use Rattle.keyed_quotient.proofs.SettledKeys.{left_at}
use Rattle.level_spec.specs.Keyed.{first_number, AreLabelled}
use Rattle.bisim_spec.specs.declared.sides.Side.{Side}
use Rattle.bisim_spec.specs.declared.sides.Side.TheVariants as side
use Rattle.bisim_spec.specs.declared.sides.Sides.{Sides}
use Rattle.level_spec.specs.Supported.{support_on}
use Rattle.ak_family.specs.Families.{level_at, blocks_at, AreKeyedBySupports, IsKeyedFamily, HaveSupportedKeys}
use Rattle.ak_family.specs.LevelDrafts.{changes_at, blocks_shown, labels_shown, support_shown, key_shown, AreSeenAs, AreSettled, ShowsFamily, ShowsKeys}
use Rattle.ak_family.proofs.Reserved.{seen_at, key_seen, over_all_seen}

-- The keys of blocks with members, and of those with support, are all that counts.
pub supports_as : (sides : Sides) (below below2 block block2 : List (Option ℕ)) (key key2 : ℕ → Option (List ℕ)) (support support2 : ℕ → ℕ → ℕ) → below2 ≡ below → block2 ≡ block
    → ((n b : ℕ) → at block n ≡ Some b → key2 b ≡ key b) → ((a b : ℕ) → 0 < support a b → (key2 a ≡ key a) × (key2 b ≡ key b)) → ((a b : ℕ) → support2 a b ≡ support a b)
    → AreKeyedBySupports sides below block key support → AreKeyedBySupports sides below2 block2 key2 support2
supports_as sides below below2 block block2 key key2 support support2 belows blocks members ends supports w = record {
  nodes = λ n. ap (λ (bs : List (Option ℕ)). is_some (at bs n)) blocks ∙ w.nodes n ∙ sym (ap (λ (bs : List (Option ℕ)). is_some (at bs n)) belows);
  keyed = λ n b e.
      let here : at block n ≡ Some b = sym (ap (λ (bs : List (Option ℕ)). at bs n) blocks) ∙ e in
      let k = w.keyed n b here in
      record {
        number = k.number;
        around = k.around;
        is = members n b here ∙ k.is;
        own_is = ap (λ (bs : List (Option ℕ)). at bs n) belows ∙ k.own_is;
        rising = k.rising;
        each = λ c h. (let m = k.each c h in
            record {
              side = m.side;
              counted = m.counted;
              block = m.block;
              some = subst (λ x. 0 < x) (sym (same_on m.side m.block b)) m.some;
              first = m.first;
              first_is = ap first_number (source m.side m.block b m.some) ∙ m.first_is;
              is = m.is;
            });
        every = λ c m. (let g : 0 < support_on m.side support m.block b = subst (λ x. 0 < x) (same_on m.side m.block b) m.some in
            k.every c (record {
              side = m.side;
              counted = m.counted;
              block = m.block;
              some = g;
              first = m.first;
              first_is = sym (ap first_number (source m.side m.block b g)) ∙ m.first_is;
              is = m.is;
            }));
      };
}
  where
    same_on : (d : Side) (a b : ℕ) → support_on d support2 a b ≡ support_on d support a b
    same_on side.Parents a b = supports a b
    same_on side.Children a b = supports b a

    source : (d : Side) (a b : ℕ) → 0 < support_on d support a b → key2 a ≡ key a
    source side.Parents a b h = (ends a b h).0
    source side.Children a b h = (ends b a h).1

-- the label and the key of a block that is left
left_label : (q : KeyedQuotient) (d : KeyedChanges) (new : KeyedQuotient) (b : ℕ) → IsSettled q d new
    → at new.quotient.blocks.labels b ≡ cond (has_member (blocks_as_shown q d) b) (at (labels_as_shown q d) b) None
left_label q d new b w = left_at q d new.quotient.blocks.labels (ap (λ (v : View). v.labels) w.view) b

left_blocks : (q : KeyedQuotient) (d : KeyedChanges) (new : KeyedQuotient) → IsSettled q d new → new.quotient.blocks.block_of ≡ blocks_as_shown q d
left_blocks q d new w = ap (λ (v : View). v.block_of) w.view

left_support : (q : KeyedQuotient) (d : KeyedChanges) (new : KeyedQuotient) (a b : ℕ) → IsSettled q d new → support_at new.quotient.supports a b ≡ support_as_shown q d a b
left_support q d new a b w = ap (λ (v : View). support_at v.supports a b) w.view

key_left : (q : KeyedQuotient) (d : KeyedChanges) (new : KeyedQuotient) (b : ℕ) → IsSettled q d new → has_member (blocks_as_shown q d) b ≡ true → key_at new.keys b ≡ shown_key q d b
key_left q d new b w some = w.keys b ∙ ap (λ t. cond t (shown_key q d b) None) some

-- what is left of a block that has a label or a key
some_left : {X : Type 0} (t : Bool) (o : Option X) (x : X) → cond t o None ≡ Some x → (t ≡ true) × (o ≡ Some x)
some_left true o x e = (refl, e)
some_left false o x e = absurd (true≢false (sym (ap is_some e)))

any_left : {X : Type 0} (t : Bool) (o : Option X) → IsSome (cond t o None) → t ≡ true
any_left true o h = refl
any_left false o h = absurd (true≢false (sym h))

both_left : (t : Bool) (x : Option (List ℕ)) (y : Option ℕ) → is_some x ≡ is_some y → is_some (cond t x None) ≡ is_some (cond t y None)
both_left true x y e = e
both_left false x y e = refl

-- exactly the blocks that are left have keys
level_keyed : (q : KeyedQuotient) (d : KeyedChanges) (new : KeyedQuotient) → IsKeyedOver q d → IsSettled q d new → AreKeyed new.quotient.blocks.labels (key_at new.keys)
level_keyed q d new o w = record {
  exactly = λ b. ap is_some (w.keys b) ∙ both_left (has_member (blocks_as_shown q d) b) (shown_key q d b) (at (labels_as_shown q d) b) (o.keyed.exactly b) ∙ sym (ap is_some (left_label q d new b w));
  apart = λ b c x e f.
      let k = some_left {X = List ℕ} (has_member (blocks_as_shown q d) b) (shown_key q d b) x (sym (w.keys b) ∙ e) in
      let l = some_left {X = List ℕ} (has_member (blocks_as_shown q d) c) (shown_key q d c) x (sym (w.keys c) ∙ f) in
      o.keyed.apart b c x k.1 l.1;
}

level_inhabited : (q : KeyedQuotient) (d : KeyedChanges) (new : KeyedQuotient) → IsSettled q d new → AreInhabited new.quotient.blocks.labels new.quotient.blocks.block_of
level_inhabited q d new w b h =
    let some : has_member (blocks_as_shown q d) b ≡ true = any_left {X = ℕ} (has_member (blocks_as_shown q d) b) (at (labels_as_shown q d) b) (sym (ap is_some (left_label q d new b w)) ∙ h) in
    ap (λ (bs : List (Option ℕ)). has_member bs b) (left_blocks q d new w) ∙ some

level_lowest : (q : KeyedQuotient) (d : KeyedChanges) (new : KeyedQuotient) → IsSettled q d new → AreLabelled (labels_as_shown q d) (shown_key q d)
    → AreLabelled new.quotient.blocks.labels (key_at new.keys)
level_lowest q d new w by = record {
  is = λ b l e.
      let k = some_left {X = ℕ} (has_member (blocks_as_shown q d) b) (at (labels_as_shown q d) b) l (sym (left_label q d new b w) ∙ e) in
      key_left q d new b w k.0 ∙ by.is b l k.1;
}

-- a block with support has a member
source_member : (block : List (Option ℕ)) (support : ℕ → ℕ → ℕ) (a b : ℕ) → AreUnsupported block support → 0 < support a b → has_member block a ≡ true
source_member block support a b u h = elim (test_is (has_member block a)) [
  | inl some ↦ some
  | inr none ↦ absurd (let zero_is = u.from a b none in omega (arith, h, zero_is))
]

-- a block to which another one has support has a member
end_member : (block : List (Option ℕ)) (support : ℕ → ℕ → ℕ) (a b : ℕ) → AreUnsupported block support → 0 < support a b → has_member block b ≡ true
end_member block support a b u h = elim (test_is (has_member block b)) [
  | inl some ↦ some
  | inr none ↦ absurd (let zero_is = u.onto b a none in omega (arith, h, zero_is))
]

level_above : (sides : Sides) (p q : KeyedQuotient) (c d : KeyedChanges) (below new : KeyedQuotient) → IsSettled p c below → IsSettled q d new → AreUnsupported (blocks_as_shown q d) (support_as_shown q d)
    → AreKeyedBySupports sides (blocks_as_shown p c) (blocks_as_shown q d) (shown_key q d) (support_as_shown q d)
    → AreKeyedBySupports sides below.quotient.blocks.block_of new.quotient.blocks.block_of (key_at new.keys) (support_at new.quotient.supports)
level_above sides p q c d below new v w u by =
    supports_as sides (blocks_as_shown p c) below.quotient.blocks.block_of (blocks_as_shown q d) new.quotient.blocks.block_of (shown_key q d) (key_at new.keys) (support_as_shown q d)
    (support_at new.quotient.supports) (left_blocks p c below v) (left_blocks q d new w)
    (λ n b e. key_left q d new b w (member_there (blocks_as_shown q d) b n e))
    (λ a b h. (key_left q d new a w (source_member (blocks_as_shown q d) (support_as_shown q d) a b u h), key_left q d new b w (end_member (blocks_as_shown q d) (support_as_shown q d) a b u h)))
    (λ a b. left_support q d new a b w) by

-- a draft that shows a family leaves one
pub settled_family : (f : List KeyedQuotient) (d : List KeyedChanges) (new : List KeyedQuotient) → ShowsFamily f d → AreSettled f d new → 0 < length f → IsKeyedFamily new
settled_family f d new shows w some =
    let count = w.count in
    let within : (i : ℕ) → i < length new → i < length f = λ i h. omega (arith, h, count) in
    record {
      keyed = λ i h. level_keyed (level_at f i) (changes_at d i) (level_at new i) (shows.over.each i (within i h)) (w.each i (within i h));
      inhabited = λ i h. level_inhabited (level_at f i) (changes_at d i) (level_at new i) (w.each i (within i h));
      lowest = level_lowest (level_at f 0) (changes_at d 0) (level_at new 0) (w.each 0 some) shows.lowest;
    }

-- and one whose keys are as the supports say
pub settled_supported : (sides : Sides) (f : List KeyedQuotient) (d : List KeyedChanges) (new : List KeyedQuotient) → ShowsFamily f d → ShowsKeys sides f d → AreSettled f d new → HaveSupportedKeys sides new
settled_supported sides f d new shows keys w =
    let count = w.count in
    record {
      above = λ i h.
          let here : i + 1 < length f = omega (arith, h, count) in
          let before : i < length f = omega (arith, h, count) in
          level_above sides (level_at f i) (level_at f (i + 1)) (changes_at d i) (changes_at d (i + 1)) (level_at new i) (level_at new (i + 1)) (w.each i before) (w.each (i + 1) here)
          (shows.empty (i + 1) here) (keys.above i here);
    }

-- What is the same but for reserved capacity is a family too.
pub family_seen : (f f2 : List KeyedQuotient) → AreSeenAs f f2 → IsKeyedFamily f → IsKeyedFamily f2
family_seen f f2 s w =
    let count = s.count in
    let within : (i : ℕ) → i < length f2 → i < length f = λ i h. omega (arith, h, count) in
    let labels : (i b : ℕ) → at (level_at f2 i).quotient.blocks.labels b ≡ at (level_at f i).quotient.blocks.labels b = λ i b. ap (λ (v : View). at v.labels b) (s.views i) in
    let blocks : (i : ℕ) → blocks_at f2 i ≡ blocks_at f i = λ i. ap (λ (v : View). v.block_of) (s.views i) in
    let keys : (i b : ℕ) → key_at (level_at f2 i).keys b ≡ key_at (level_at f i).keys b = λ i b. ap (λ (ks : List (Option (List ℕ))). key_at ks b) (s.keys i) in
    record {
      keyed = λ i h. (let k = w.keyed i (within i h) in
          record {
            exactly = λ b. ap is_some (keys i b) ∙ k.exactly b ∙ sym (ap is_some (labels i b));
            apart = λ b c x e g. k.apart b c x (sym (keys i b) ∙ e) (sym (keys i c) ∙ g);
          });
      inhabited = λ i h b live. ap (λ (bs : List (Option ℕ)). has_member bs b) (blocks i) ∙ w.inhabited i (within i h) b (sym (ap is_some (labels i b)) ∙ live);
      lowest = record { is = λ b l e. keys 0 b ∙ w.lowest.is b l (sym (labels 0 b) ∙ e) };
    }

-- the draft shows a family whatever is reserved
pub shows_seen : (f f2 : List KeyedQuotient) (d : List KeyedChanges) → AreSeenAs f f2 → ShowsFamily f d → ShowsFamily f2 d
shows_seen f f2 d s w =
    let count = s.count in
    let blocks : (i : ℕ) → blocks_shown f2 d i ≡ blocks_shown f d i = λ i. ap (λ (v : View). with_moves v.block_of (changes_at d i).drafted.moves) (s.views i) in
    let supports : (i a b : ℕ) → support_shown f2 d i a b ≡ support_shown f d i a b = λ i a b. ap (λ (v : View). support_at (with_supports v.supports (changes_at d i).drafted.supports) a b) (s.views i) in
    let keys : (i b : ℕ) → key_shown f2 d i b ≡ key_shown f d i b = λ i b. key_seen (level_at f i) (level_at f2 i) (changes_at d i) b (seen_at f f2 i s) in
    let labels : (b : ℕ) → at (labels_shown f2 d 0) b ≡ at (labels_shown f d 0) b = λ b. ap (λ (v : View). at (with_added v.labels (changes_at d 0).drafted.added) b) (s.views 0) in
    record {
      over = over_all_seen f f2 d s w.over;
      lowest = record { is = λ b l e. keys 0 b ∙ w.lowest.is b l (sym (labels b) ∙ e) };
      empty = λ i h. (let u = w.empty i (omega (arith, h, count)) in
          record {
            from = λ b c none. supports i b c ∙ u.from b c (sym (ap (λ (bs : List (Option ℕ)). has_member bs b) (blocks i)) ∙ none);
            onto = λ b c none. supports i c b ∙ u.onto b c (sym (ap (λ (bs : List (Option ℕ)). has_member bs b) (blocks i)) ∙ none);
          });
    }

pub keys_seen : (sides : Sides) (f f2 : List KeyedQuotient) (d : List KeyedChanges) → AreSeenAs f f2 → ShowsKeys sides f d → ShowsKeys sides f2 d
keys_seen sides f f2 d s w =
    let count = s.count in
    let blocks : (i : ℕ) → blocks_shown f2 d i ≡ blocks_shown f d i = λ i. ap (λ (v : View). with_moves v.block_of (changes_at d i).drafted.moves) (s.views i) in
    let supports : (i a b : ℕ) → support_shown f2 d i a b ≡ support_shown f d i a b = λ i a b. ap (λ (v : View). support_at (with_supports v.supports (changes_at d i).drafted.supports) a b) (s.views i) in
    let keys : (i b : ℕ) → key_shown f2 d i b ≡ key_shown f d i b = λ i b. key_seen (level_at f i) (level_at f2 i) (changes_at d i) b (seen_at f f2 i s) in
    record {
      above = λ i h.
          supports_as sides (blocks_shown f d i) (blocks_shown f2 d i) (blocks_shown f d (i + 1)) (blocks_shown f2 d (i + 1)) (key_shown f d (i + 1)) (key_shown f2 d (i + 1)) (support_shown f d (i + 1))
          (support_shown f2 d (i + 1)) (blocks i) (blocks (i + 1)) (λ n b e. keys (i + 1) b) (λ a b g. (keys (i + 1) a, keys (i + 1) b)) (supports (i + 1)) (w.above i (omega (arith, h, count)));
    }

-- and the keys of a family are as its supports say
pub supported_seen : (sides : Sides) (f f2 : List KeyedQuotient) → AreSeenAs f f2 → HaveSupportedKeys sides f → HaveSupportedKeys sides f2
supported_seen sides f f2 s w =
    let count = s.count in
    let blocks : (i : ℕ) → blocks_at f2 i ≡ blocks_at f i = λ i. ap (λ (v : View). v.block_of) (s.views i) in
    let supports : (i a b : ℕ) → support_at (level_at f2 i).quotient.supports a b ≡ support_at (level_at f i).quotient.supports a b = λ i a b. ap (λ (v : View). support_at v.supports a b) (s.views i) in
    let keys : (i b : ℕ) → key_at (level_at f2 i).keys b ≡ key_at (level_at f i).keys b = λ i b. ap (λ (ks : List (Option (List ℕ))). key_at ks b) (s.keys i) in
    record {
      above = λ i h.
          supports_as sides (blocks_at f i) (blocks_at f2 i) (blocks_at f (i + 1)) (blocks_at f2 (i + 1)) (key_at (level_at f (i + 1)).keys) (key_at (level_at f2 (i + 1)).keys)
          (support_at (level_at f (i + 1)).quotient.supports) (support_at (level_at f2 (i + 1)).quotient.supports) (blocks i) (blocks (i + 1)) (λ n b e. keys (i + 1) b)
          (λ a b g. (keys (i + 1) a, keys (i + 1) b)) (supports (i + 1)) (w.above i (omega (arith, h, count)));
    }
