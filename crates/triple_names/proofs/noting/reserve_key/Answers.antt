use Rattle.std.proofs.Common.{◌∙◌, sym}
use Rattle.std.specs.Map.{lookup}
use Rattle.indexmap.proofs.CallerLemmas.{insert_entry-new}
use Rattle.triple_names.specs.TableIndexes.{same_key}
use Rattle.triple_names.specs.contracts.triple_table.KeyPartialEq.TheImpl as key
use Rattle.triple_names.proofs.TableLaws.{none_by}
use Rattle.triple_names.proofs.StagedLaws.{entry_new}
use Rattle.triple_names.proofs.noting.reserve_key.Goals as goal

pub returns-clause-added : goal.returns-clause-added
returns-clause-added c =
    let old = c.args.later.now in
    let off = sym c.contains_key.ensures ∙ c.if-contains_key.false in
    c.in_ok-insert.ensures.entries
    ∙ insert_entry-new key.eq-value.it old c.args.key c.args.number (none_by (lookup (same_key c.args.key) old.entries) off)
    ∙ entry_new (same_key c.args.key) (c.args.key, c.args.number) old.entries off
