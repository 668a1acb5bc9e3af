-- Levels in which capacity is reserved.
use Rattle.std.proofs.Common.{◌≡◌, ℕ, ◌+◌, ◌<◌, ◌≤◌, List, length, Option, None, is_some, cond, nat_eq, refl, sym, ◌∙◌, ap, subst, arith, inl, inr, slice_set, get_or}
use Rattle.std.specs.Map.{lookup}
use Rattle.std.specs.Option.{option_or}
use Rattle.std.proofs.lemmas.Bool.Decides.{eqb_tells}
use Rattle.std.proofs.lemmas.List.{get_or_default, get_or-set_same, get_or-set_other, length-set}
use Rattle.graph_spec.specs.Members.{at}
use Rattle.bisim_spec.specs.IndexGraphs.{View}
use Rattle.quotient.specs.Quotients.{view_of}
use Rattle.quotient_draft.specs.Drafts.{has_member, inhabited_from, with_added, with_moves, with_supports}
use Rattle.quotient_draft.specs.Basis.{IsOver}
use Rattle.keyed_quotient.specs.KeyedQuotients.{KeyedQuotient, no_level, key_at}
use Rattle.keyed_quotient.specs.Changes.{KeyedChanges, shown_key, IsKeyedOver, HasReservedKeys, IsSettled}
use Rattle.ak_family.specs.Families.{level_at}
use Rattle.ak_family.specs.LevelDrafts.{changes_at, AreOver, AreSeenAs, AreSettled, HaveReserved}

-- a level that is read off the list
pub level_read : (f : List KeyedQuotient) (i : ℕ) (q : KeyedQuotient) → i < length f → q ≡ get_or f i q → q ≡ level_at f i
level_read f i q h e = e ∙ get_or_default f i q no_level h

-- the level is the same but for reserved capacity
pub record IsSeenAs (q q2 : KeyedQuotient) : Type 0 where
  pub view : view_of q2.quotient ≡ view_of q.quotient
  pub keys : q2.keys ≡ q.keys

pub seen_at : (f f2 : List KeyedQuotient) (i : ℕ) → AreSeenAs f f2 → IsSeenAs (level_at f i) (level_at f2 i)
seen_at f f2 i s = record { view = s.views i; keys = s.keys i }

-- what a draft shows of a key
pub key_seen : (q q2 : KeyedQuotient) (d : KeyedChanges) (b : ℕ) → IsSeenAs q q2 → shown_key q2 d b ≡ shown_key q d b
key_seen q q2 d b s = ap (λ (ks : List (Option (List ℕ))). option_or (lookup (nat_eq b) d.keys) (key_at ks b)) s.keys

-- a draft over a level stays one
pub over_seen : (q q2 : KeyedQuotient) (d : KeyedChanges) → IsSeenAs q q2 → IsKeyedOver q d → IsKeyedOver q2 d
over_seen q q2 d s o = record {
  over = subst (λ (v : View). IsOver v.block_of v.labels d.drafted) (sym s.view) o.over;
  once = o.once;
  further = λ b key e. ap (λ (ks : List (Option (List ℕ))). key_at ks b) s.keys ∙ o.further b key e;
  keyed = record {
    exactly = λ b. ap is_some (key_seen q q2 d b s) ∙ o.keyed.exactly b ∙ sym (ap (λ (v : View). is_some (at (with_added v.labels d.drafted.added) b)) s.view);
    apart = λ b c x e f. o.keyed.apart b c x (sym (key_seen q q2 d b s) ∙ e) (sym (key_seen q q2 d c s) ∙ f);
  };
}

-- what the draft makes of a level is the same
pub settled_seen : (q q2 : KeyedQuotient) (d : KeyedChanges) (new : KeyedQuotient) → IsSeenAs q q2 → IsSettled q2 d new → IsSettled q d new
settled_seen q q2 d new s w = record {
  view = w.view ∙ ap (λ (v : View). record {
    block_of = with_moves v.block_of d.drafted.moves;
    labels = inhabited_from (with_moves v.block_of d.drafted.moves) 0 (with_added v.labels d.drafted.added);
    supports = with_supports v.supports d.drafted.supports;
  }) s.view;
  keys = λ b. w.keys b ∙ ap (λ (v : View). cond (has_member (with_moves v.block_of d.drafted.moves) b) (shown_key q2 d b) None) s.view
      ∙ ap (λ k. cond (has_member (with_moves q.quotient.blocks.block_of d.drafted.moves) b) k None) (key_seen q q2 d b s);
}

pub seen_same : (f : List KeyedQuotient) → AreSeenAs f f
seen_same f = record { count = refl; views = λ i. refl; keys = λ i. refl }

-- one more level is the same but for reserved capacity
pub seen_set : (f now : List KeyedQuotient) (i : ℕ) (y : KeyedQuotient) → AreSeenAs f now → i < length now → IsSeenAs (level_at now i) y → AreSeenAs f (slice_set now i y)
seen_set f now i y s h is =
    let here : level_at (slice_set now i y) i ≡ y = get_or-set_same now i y no_level h in
    record {
      count = length-set now i y ∙ s.count;
      views = λ j. elim (eqb_tells j i) [
        | inl t ↦ ap (λ n. view_of (level_at (slice_set now i y) n).quotient) t.1 ∙ ap (λ (q : KeyedQuotient). view_of q.quotient) here ∙ is.view ∙ s.views i ∙ ap (λ n. view_of (level_at f n).quotient) (sym t.1)
        | inr t ↦ ap (λ (q : KeyedQuotient). view_of q.quotient) (get_or-set_other now i j y no_level t.1) ∙ s.views j
      ];
      keys = λ j. elim (eqb_tells j i) [
        | inl t ↦ ap (λ n. (level_at (slice_set now i y) n).keys) t.1 ∙ ap (λ (q : KeyedQuotient). q.keys) here ∙ is.keys ∙ s.keys i ∙ ap (λ n. (level_at f n).keys) (sym t.1)
        | inr t ↦ ap (λ (q : KeyedQuotient). q.keys) (get_or-set_other now i j y no_level t.1) ∙ s.keys j
      ];
    }

-- the levels below i have capacity reserved for the draft, and all are the same but for reserved capacity
pub record IsReserved (f now : List KeyedQuotient) (d : List KeyedChanges) (i : ℕ) : Type 0 where
  pub seen : AreSeenAs f now
  pub reserved : (j : ℕ) → j < i → HasReservedKeys (level_at now j) (changes_at d j)

pub reserved_none : (f : List KeyedQuotient) (d : List KeyedChanges) → IsReserved f f d 0
reserved_none f d = record { seen = seen_same f; reserved = λ j h. absurd (omega (arith, h)) }

pub reserved_over : (f now : List KeyedQuotient) (d : List KeyedChanges) (i : ℕ) → IsReserved f now d i → AreOver f d → i < length now → IsKeyedOver (level_at now i) (changes_at d i)
reserved_over f now d i w o h = (let count = w.seen.count in
    over_seen (level_at f i) (level_at now i) (changes_at d i) (seen_at f now i w.seen) (o.each i (omega (arith, h, count))))

pub reserved_next : (f now : List KeyedQuotient) (d : List KeyedChanges) (i : ℕ) (y : KeyedQuotient) → IsReserved f now d i → i < length now → IsSeenAs (level_at now i) y
    → HasReservedKeys y (changes_at d i) → IsReserved f (slice_set now i y) d (i + 1)
reserved_next f now d i y w h is reserved =
    let here : level_at (slice_set now i y) i ≡ y = get_or-set_same now i y no_level h in
    record {
      seen = seen_set f now i y w.seen h is;
      reserved = λ j b. elim (eqb_tells j i) [
        | inl t ↦ subst (λ n. HasReservedKeys (level_at (slice_set now i y) n) (changes_at d n)) (sym t.1) (subst (λ (q : KeyedQuotient). HasReservedKeys q (changes_at d i)) (sym here) reserved)
        | inr t ↦ (let other = t.1 in
            subst (λ (q : KeyedQuotient). HasReservedKeys q (changes_at d j)) (sym (get_or-set_other now i j y no_level other)) (w.reserved j (omega (arith, b, other))))
      ];
    }

pub reserved_all : (f now : List KeyedQuotient) (d : List KeyedChanges) (i : ℕ) → IsReserved f now d i → length now ≤ i → HaveReserved now d
reserved_all f now d i w all j h = w.reserved j (omega (arith, h, all))

-- the draft stays one over the family
pub over_all_seen : (f f2 : List KeyedQuotient) (d : List KeyedChanges) → AreSeenAs f f2 → AreOver f d → AreOver f2 d
over_all_seen f f2 d s o = record {
  count = o.count ∙ sym s.count;
  each = λ i h. (let count = s.count in over_seen (level_at f i) (level_at f2 i) (changes_at d i) (seen_at f f2 i s) (o.each i (omega (arith, h, count))));
}

-- what the draft makes of the family is the same
pub settled_all_seen : (f f2 new : List KeyedQuotient) (d : List KeyedChanges) → AreSeenAs f f2 → AreSettled f2 d new → AreSettled f d new
settled_all_seen f f2 new d s w = record {
  count = w.count ∙ s.count;
  each = λ i h. (let count = s.count in settled_seen (level_at f i) (level_at f2 i) (changes_at d i) (level_at new i) (seen_at f f2 i s) (w.each i (omega (arith, h, count))));
}
