use Rattle.std.proofs.Common.{ℕ, ◌≤◌, ◌^◌, length, ◌∙◌, ap, sym, subst}
use Rattle.std.specs.FinSet as set
use Rattle.bisim_spec.specs.Fits.{FitsOne}
use Rattle.quotient.specs.Quotients.{view_of}
use Rattle.graph_update.specs.PendingChanges.{Pending}
use Rattle.one_update.proofs.tests.is_parting.Goals as goal

pub are_parted-requires-clause-before : goal.are_parted-requires-clause-before
are_parted-requires-clause-before g c = record {
  fits = subst (λ (a : Pending). FitsOne a.before (view_of c.args.base.now)) (sym c.new-after.ensures.pending) c.requires.fits;
  new = c.new-after.ensures.new;
  graph = c.new-after.ensures.before;
  graph_after = c.new-after.ensures.after;
  few =
      subst (λ (a : Pending). set.len a.before.edges ≤ 2 ^ 30) (sym c.new-after.ensures.pending)
      (subst (λ (n : ℕ). n ≤ 2 ^ 30) c.edge_count-known.ensures.count c.edge_count-known.ensures.few);
  small =
      subst (λ (a : Pending). length a.before.allocated ≤ 2 ^ 30) (sym c.new-after.ensures.pending)
      (subst (λ (n : ℕ). n ≤ 2 ^ 30) c.created-known.ensures.count c.created-known.ensures.few);
}

pub are_parted-requires-clause-links : goal.are_parted-requires-clause-links
are_parted-requires-clause-links g c = ap (λ (a : Pending). a.change) c.new-after.ensures.pending ∙ c.requires.links
