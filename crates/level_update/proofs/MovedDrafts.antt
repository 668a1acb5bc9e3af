-- A draft whose levels have moved shows a family, and fits the graph after the change once it is settled.
use Rattle.std.proofs.Common.{◌≡◌, ℕ, zero, suc, ◌+◌, ◌<◌, List, [], ◌∷◌, length, Option, Some, None, IsSome, IsTrue, is_some, refl, sym, ◌∙◌, ap, subst, arith, true, false, Bool, cond, true≢false}
use Rattle.std.specs.Prelude.{slice_get, option_and_then, position, bytes_eq}
use Rattle.graph_spec.specs.Graphs.{Graph, IsGraph, label_of}
use Rattle.graph_spec.specs.Shapes.{Shape, shape_of}
use Rattle.graph_spec.specs.Members.{at}
use Rattle.graph_spec.proofs.GraphLaws.{is_shape}
use Rattle.label_graph.proofs.Positions.{text-at}
use Rattle.bisim_spec.specs.Fits.{FitsLevel}
use Rattle.bisim_spec.specs.Partitions.{IsPartition, Agrees}
use Rattle.bisim_spec.specs.declared.sides.Sides.{Sides}
use Rattle.bisim_spec.specs.SidedLevels.{AtLevel, affected, DiffersBy}
use Rattle.bisim_spec.proofs.LevelSides.{lowest_level}
use Rattle.quotient_draft.specs.Drafts.{has_member, inhabited_from, settled_view}
use Rattle.quotient_draft.proofs.Gone.{member_at, member_there}
use Rattle.keyed_quotient.specs.KeyedQuotients.{KeyedQuotient, key_at}
use Rattle.keyed_quotient.specs.Changes.{KeyedChanges, blocks_as_shown, labels_as_shown, support_as_shown, AreUnsupported}
use Rattle.level_spec.specs.Keyed.{IsKeyed, AreDistinctKeys, SameFar, IsLevelOf}
use Rattle.level_spec.proofs.AffectedLevels.{keyed_level, keyed_after}
use Rattle.level_spec.proofs.LowestLevel.{lowest_agrees}
use Rattle.level_spec.proofs.SupportedKeys.{keyed_by_supports, none_from, none_onto}
use Rattle.ak_family.specs.Families.{level_at, blocks_at, AreKeyedBySupports}
use Rattle.ak_family.specs.LevelDrafts.{changes_at, blocks_shown, labels_shown, support_shown, key_shown, ShowsFamily, ShowsKeys}
use Rattle.level_update.specs.MovedLevels.{HasMovedAffected, AreKeyedAffected}
use Rattle.level_update.specs.FamilyDrafts.{ShownFit}
use Rattle.level_update.specs.LevelEffects.{AreKeyedBases}
use Rattle.level_update.proofs.Bases.{next_is}

-- What is known once all affected nodes have moved.
pub record HaveMoved (sides : Sides) (ends : ℕ → Bool) (g g2 : Graph) (f : List KeyedQuotient) (d : List KeyedChanges) : Type 0 where
  pub graph : IsGraph g2
  pub differs : DiffersBy sides ends (shape_of g) (shape_of g2)
  pub bases : AreKeyedBases sides g f
  pub moving : HasMovedAffected sides ends g2 f d
  pub within_keyed : AreKeyedAffected sides ends g2 f d
  pub some : 0 < length f

-- no two blocks of a level have one key
apart_at : (sides : Sides) (ends : ℕ → Bool) (g g2 : Graph) (f : List KeyedQuotient) (d : List KeyedChanges) → HaveMoved sides ends g g2 f d → (i : ℕ) → i < length f → AreDistinctKeys (key_shown f d i)
apart_at sides ends g g2 f d w i h = record { apart = (w.moving.over.each i h).keyed.apart }

-- above the lowest level each node is in the block of its key
pub keyed_at : (sides : Sides) (ends : ℕ → Bool) (g g2 : Graph) (f : List KeyedQuotient) (d : List KeyedChanges) → HaveMoved sides ends g g2 f d → (i n : ℕ) → i + 1 < length f
    → IsKeyed sides (shape_of g2) (blocks_shown f d i) (blocks_shown f d (i + 1)) (key_shown f d (i + 1)) n
keyed_at sides ends g g2 f d w i n h =
    keyed_after sides ends (shape_of g) (shape_of g2) (is_shape g2 w.graph) w.differs (blocks_at f i) (blocks_shown f d i) (blocks_at f (i + 1)) (blocks_shown f d (i + 1))
    (key_at (level_at f (i + 1)).keys) (key_shown f d (i + 1)) i (w.moving.far i (omega (arith, h)))
    (subst (λ j. SameFar sides ends (shape_of g2) j (blocks_at f (i + 1)) (blocks_shown f d (i + 1))) (next_is i) (w.moving.far (i + 1) h))
    (w.moving.levels (i + 1) h).partition (w.moving.stay (i + 1) h)
    (λ m. w.bases.keyed i m h)
    (λ m on. w.within_keyed.each i m h (subst (λ j. IsTrue (affected sides (shape_of g2) ends j m)) (sym (next_is i)) on)) n

-- each level is that of bisimilarity
agrees_at : (sides : Sides) (ends : ℕ → Bool) (g g2 : Graph) (f : List KeyedQuotient) (d : List KeyedChanges) → HaveMoved sides ends g g2 f d → (i : ℕ) → i < length f
    → Agrees (shape_of g2) (blocks_shown f d i) (AtLevel sides (shape_of g2) i)
agrees_at sides ends g g2 f d w zero h =
    lowest_level sides (shape_of g2) (blocks_shown f d 0)
    (lowest_agrees g2 (blocks_shown f d 0) (labels_shown f d 0) (key_shown f d 0) w.graph (w.moving.levels 0 h).partition (w.moving.levels 0 h).block_labels w.moving.lowest
    (apart_at sides ends g g2 f d w 0 h))
agrees_at sides ends g g2 f d w (suc i) h =
    let up : i + 1 < length f = omega (arith, h) in
    subst (λ j. Agrees (shape_of g2) (blocks_shown f d j) (AtLevel sides (shape_of g2) (suc i))) (next_is i)
    (keyed_level sides (shape_of g2) (blocks_shown f d i) (blocks_shown f d (i + 1)) (key_shown f d (i + 1)) i (is_shape g2 w.graph) (agrees_at sides ends g g2 f d w i (omega (arith, h)))
    (w.moving.levels (i + 1) up).partition (apart_at sides ends g g2 f d w (i + 1) up) (λ n. keyed_at sides ends g g2 f d w i n up))

-- ---- once it is settled

-- the text of a label that has a number
text_of : (o : Option (List ℕ)) (seen : List (List ℕ)) (d : ℕ) → option_and_then (λ t. position (bytes_eq t) seen) o ≡ Some d
    → (t : List ℕ) × (slice_get seen d ≡ Some t) × (o ≡ Some t)
text_of None seen d h = absurd (cc)
text_of (Some t) seen d h = (t, text-at t seen d h, refl)

abbrev none_label : Option ℕ
none_label = None

no_label : (t : Bool) → cond t none_label none_label ≡ none_label
no_label true = refl
no_label false = refl

inhabited_at : (block : List (Option ℕ)) (b : ℕ) (labels : List (Option ℕ)) (i : ℕ) → at (inhabited_from block b labels) i ≡ cond (has_member block (b + i)) (at labels i) None
inhabited_at block b [] i = sym (no_label (has_member block (b + i)))
inhabited_at block b (x ∷ xs) zero = (let same : b ≡ b + 0 = omega arith in ap (λ n. cond (has_member block n) x None) same)
inhabited_at block b (x ∷ xs) (suc i) = (let same : b + 1 + i ≡ b + suc i = omega arith in inhabited_at block (b + 1) xs i ∙ ap (λ n. cond (has_member block n) (at xs i) None) same)

-- the label of a block once the draft is settled: that which is shown, where the block has members
inhabited_whole : (block labels : List (Option ℕ)) (b : ℕ) → at (inhabited_from block 0 labels) b ≡ cond (has_member block b) (at labels b) None
inhabited_whole block labels b = (let same : 0 + b ≡ b = omega arith in inhabited_at block 0 labels b ∙ ap (λ n. cond (has_member block n) (at labels b) None) same)

member_from_label : (t : Bool) (o : Option ℕ) → IsSome (cond t o none_label) → t ≡ true
member_from_label true o h = refl
member_from_label false o h = absurd (true≢false (sym h))

shown_inhabited : (block labels : List (Option ℕ)) (b : ℕ) → IsSome (at (inhabited_from block 0 labels) b) → (n : ℕ) × (at block n ≡ Some b)
shown_inhabited block labels b h = member_at block b (member_from_label (has_member block b) (at labels b) (sym (ap is_some (inhabited_whole block labels b)) ∙ h))

shown_label : (block labels : List (Option ℕ)) (n b l : ℕ) → at block n ≡ Some b → at labels b ≡ Some l → at (inhabited_from block 0 labels) b ≡ Some l
shown_label block labels n b l e h = inhabited_whole block labels b ∙ ap (λ t. cond t (at labels b) none_label) (member_there block b n e) ∙ h

level_fits : (sides : Sides) (g : Graph) (i : ℕ) (q : KeyedQuotient) (d : KeyedChanges) → IsLevelOf g (blocks_as_shown q d) (labels_as_shown q d) (support_as_shown q d)
    → Agrees (shape_of g) (blocks_as_shown q d) (AtLevel sides (shape_of g) i) → FitsLevel sides g i (settled_view q.quotient d.drafted)
level_fits sides g i q d level agrees = record {
  view = record {
    inhabited = λ b h. shown_inhabited (blocks_as_shown q d) (labels_as_shown q d) b h;
    labelled = λ n b e.
        let k = level.block_labels.is n b e in
        let r = text_of (label_of g n) g.seen k.0 k.2 in
        (k.0, r.0, shown_label (blocks_as_shown q d) (labels_as_shown q d) n b k.0 e k.1, r.1, r.2);
    supports = level.supports.each;
  };
  agrees = agrees;
}

pub shown_fit : (sides : Sides) (ends : ℕ → Bool) (g g2 : Graph) (f : List KeyedQuotient) (d : List KeyedChanges) → HaveMoved sides ends g g2 f d → ShownFit sides g2 f d
shown_fit sides ends g g2 f d w i h = level_fits sides g2 i (level_at f i) (changes_at d i) (w.moving.levels i h) (agrees_at sides ends g g2 f d w i h)

-- ---- what is shown is a family

both_same : (p q : Bool) → (p ≡ true → q ≡ true) → (q ≡ true → p ≡ true) → p ≡ q
both_same true q f h = sym (f refl)
both_same false true f h = h refl
both_same false false f h = refl

same_nodes : (s : Shape) (below block : List (Option ℕ)) → IsPartition s below → IsPartition s block → (n : ℕ) → is_some (at block n) ≡ is_some (at below n)
same_nodes s below block lower upper n = both_same (is_some (at block n)) (is_some (at below n)) (λ h. lower.live n (upper.only n h)) (λ h. upper.live n (lower.only n h))

level_keyed : (sides : Sides) (g : Graph) (below block labels : List (Option ℕ)) (key : ℕ → Option (List ℕ)) (support : ℕ → ℕ → ℕ) → IsGraph g → IsPartition (shape_of g) below
    → IsLevelOf g block labels support → ((n : ℕ) → IsKeyed sides (shape_of g) below block key n) → AreKeyedBySupports sides below block key support
level_keyed sides g below block labels key support graph lower level keyed = record {
  nodes = same_nodes (shape_of g) below block lower level.partition;
  keyed = keyed_by_supports sides g graph below block key support level.partition level.supports keyed;
}

no_member : (block : List (Option ℕ)) (b : ℕ) → has_member block b ≡ false → (n : ℕ) → at block n ≡ Some b → ⊥
no_member block b h n e = true≢false (sym (member_there block b n e) ∙ h)

level_unsupported : (g : Graph) (block labels : List (Option ℕ)) (support : ℕ → ℕ → ℕ) → IsLevelOf g block labels support → AreUnsupported block support
level_unsupported g block labels support level = record {
  from = λ b c h. none_from g block support b c level.supports (no_member block b h);
  onto = λ b c h. none_onto g block support c b level.supports (no_member block b h);
}

pub shows_family : (sides : Sides) (ends : ℕ → Bool) (g g2 : Graph) (f : List KeyedQuotient) (d : List KeyedChanges) → HaveMoved sides ends g g2 f d → ShowsFamily f d
shows_family sides ends g g2 f d w = record {
  over = w.moving.over;
  lowest = w.moving.lowest;
  empty = λ i h. level_unsupported g2 (blocks_shown f d i) (labels_shown f d i) (support_shown f d i) (w.moving.levels i h);
}

pub shows_keys : (sides : Sides) (ends : ℕ → Bool) (g g2 : Graph) (f : List KeyedQuotient) (d : List KeyedChanges) → HaveMoved sides ends g g2 f d → ShowsKeys sides f d
shows_keys sides ends g g2 f d w = record {
  above = λ i h.
      level_keyed sides g2 (blocks_shown f d i) (blocks_shown f d (i + 1)) (labels_shown f d (i + 1)) (key_shown f d (i + 1)) (support_shown f d (i + 1)) w.graph
      (w.moving.levels i (omega (arith, h))).partition (w.moving.levels (i + 1) h) (λ n. keyed_at sides ends g g2 f d w i n h);
}
