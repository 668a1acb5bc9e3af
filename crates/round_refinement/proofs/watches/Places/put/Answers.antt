use Rattle.std.proofs.Common.{◌∷◌, [], ◌∙◌, sym, subst}
use Rattle.key_table.specs.NumberedKeys.{Interns}
use Rattle.round_refinement.proofs.WatchLaws.{puts_one}
use Rattle.round_refinement.proofs.watches.Places.put.Goals as goal

pub returns : goal.returns
returns c =
    let interns = subst (λ s. Interns c.args.self.now.keys c.intern.new.self (c.args.n ∷ s ∷ c.args.b ∷ []) c.in_ok-k.k) c.side_number.ensures c.in_ok-k.ensures.ok in
    puts_one c.args.self.now (record { keys = c.intern.new.self; nodes = c.push.new.self; heads = c.put_head.new.heads }) c.args.n c.args.side c.args.b c.args.p c.in_ok-k.k c.in_ok-i.i
    (sym c.len-known.ensures.hashes ∙ c.len-known.ensures.items) interns c.in_ok-i.ensures.number c.in_ok-i.ensures.ok c.in_ok-put_head.ensures
