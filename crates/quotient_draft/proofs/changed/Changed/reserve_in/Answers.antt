use Rattle.std.proofs.Common.{◌<◌, ◌≤◌, ◌∙◌, ℕ, List, length, sym, subst, ap}
use Rattle.std.specs.Prelude.{slice_index}
use Rattle.std.specs.Map.{lookup, keys_of}
use Rattle.quotient.specs.QuotientTables.{GivesMore}
use Rattle.quotient_draft.specs.Drafts.{is_pair}
use Rattle.quotient_draft.specs.ReservedCapacity.{from_count}
use Rattle.quotient_draft.proofs.PairCounts.{key_at, reserved_met}
use Rattle.quotient_draft.proofs.Noted.{ends_count}
use Rattle.quotient_draft.proofs.changed.Changed.reserve_in.Goals as goal

pub reserve_children-requires : goal.reserve_children-requires
reserve_children-requires c =
    let both = c.requires.ends c.in-Some.p.now c.in-Some.field-0-1.now (ap (lookup (is_pair c.in-Some.p.now)) (sym c.self.view_is) ∙ c.in-Some.ensures.value) in
    record { within = subst (λ m. c.in-Some.p.now.0 < m) (sym c.loop-i.invariant.span) both.0 }

pub reserve_parents-requires : goal.reserve_parents-requires
reserve_parents-requires c =
    let both = c.requires.ends c.in-Some.p.now c.in-Some.field-0-1.now (ap (lookup (is_pair c.in-Some.p.now)) (sym c.self.view_is) ∙ c.in-Some.ensures.value) in
    record { within = subst (λ m. c.in-Some.p.now.1 < m) (sym (c.in_ok-reserve_children.ensures.span ∙ c.loop-i.invariant.span)) both.1 }

pub loop-i-preserved : goal.loop-i-preserved
loop-i-preserved c =
    let es = c.self.inside.pairs.entries in
    let inv = c.loop-i.invariant in
    let p = c.in-Some.p.now in
    let key = key_at es c.loop-i.i p c.in-Some.field-0-1.now (sym c.in-Some.ensures.entry) in
    let first = c.in_ok-reserve_children.ensures in
    let second = c.in_ok-reserve_parents.ensures in
    let from_is = ap length (c.ends_of.ensures ∙ c.self.invariant.from_are p.0) ∙ ends_count (λ q. q.0) (λ q. q.1) (keys_of es) p.0 in
    let onto_is = ap length (c.ends_of-in-loop-i.ensures ∙ c.self.invariant.onto_are p.1) ∙ ends_count (λ q. q.1) (λ q. q.0) (keys_of es) p.1 in
    record {
      same = second.same ∙ first.same ∙ inv.same;
      blocks = second.blocks ∙ first.blocks ∙ inv.blocks;
      pairs = second.pairs ∙ first.pairs ∙ inv.pairs;
      span = second.span ∙ first.span ∙ inv.span;
      children = reserved_met (λ q. q.0) (keys_of es) c.loop-i.i p c.loop-i.base.reserved.children c.reserve_parents.new.self.reserved.children key inv.children
          (subst (GivesMore c.loop-i.base.reserved.children) (sym second.children) first.children)
          (subst (λ (r : List ℕ). from_count (keys_of es) p.0 ≤ slice_index r p.0) (sym second.children) (subst (λ m. m ≤ slice_index c.reserve_children.new.self.reserved.children p.0) from_is first.ok));
      parents = reserved_met (λ q. q.1) (keys_of es) c.loop-i.i p c.loop-i.base.reserved.parents c.reserve_parents.new.self.reserved.parents key inv.parents
          (subst (λ (r : List ℕ). GivesMore r c.reserve_parents.new.self.reserved.parents) first.parents second.parents)
          (subst (λ m. m ≤ slice_index c.reserve_parents.new.self.reserved.parents p.1) onto_is second.ok);
    }
