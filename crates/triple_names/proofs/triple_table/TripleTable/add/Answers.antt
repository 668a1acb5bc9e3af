use Rattle.std.proofs.Common.{◌∙◌, rules}
use Rattle.indexmap.proofs.CallerLemmas.{insert_entry-new}
use Rattle.triple_names.specs.TableIndexes.{same_key}
use Rattle.triple_names.specs.contracts.triple_table.KeyPartialEq.TheImpl as key
use Rattle.triple_names.proofs.PlaceLaws.{lookup_none}
use Rattle.triple_names.proofs.triple_table.TripleTable.add.Goals as goal

pub returns : goal.returns
returns c =
    rw (← c.self.view_is) (c.in_ok-insert.ensures.entries
    ∙ insert_entry-new key.eq-value.it c.self.inside.numbers c.args.key c.args.number (lookup_none (same_key c.args.key) c.self.inside.numbers.entries (rw c.self.view_is c.requires.absent)))
