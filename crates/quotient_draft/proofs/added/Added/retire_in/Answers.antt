use Rattle.std.proofs.Common.{◌∙◌, ℕ, sym, ap}
use Rattle.std.specs.Prelude.{option_map}
use Rattle.std.specs.Map.{keys_of}
use Rattle.std.proofs.lemmas.Option.{slice_get-map}
use Rattle.quotient_draft.proofs.Gone.{retired_next}
use Rattle.quotient_draft.proofs.added.Added.retire_in.Goals as goal

pub loop-i-preserved : goal.loop-i-preserved
loop-i-preserved c =
    let es = c.self.inside.blocks.entries in
    retired_next (keys_of es) c.loop-i.i c.in-Some.b.now c.args.base.now c.loop-i.base c.retire_if_empty.new.base
    (slice_get-map (λ (e : ℕ × ℕ). e.0) es c.loop-i.i ∙ ap (option_map (λ (e : ℕ × ℕ). e.0)) (sym c.in-Some.ensures.entry)) c.loop-i.invariant c.retire_if_empty.ensures
