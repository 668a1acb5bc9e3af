use Rattle.std.proofs.Common.{◌≡◌, ◌≤◌, List, ℕ, [], vec_len}
use Rattle.std.specs.Prelude.{vec_capacity, map}
use Rattle.std.proofs.Math.ListN.{replicate}
use Rattle.index_picture.proofs.ListLaws.{no_text}
use Rattle.index_picture.proofs.names.NodeNames.new.Given as goal

abbrev pub invariant-loop : goal.invariant-loop
invariant-loop l =
    (vec_len l.texts ≡ l.counter) × (l.numbers ≤ vec_capacity l.texts) × (map (λ t. t.items) l.texts.items ≡ replicate l.counter no_text)
