use Rattle.std.proofs.Common.{◌∙◌, Some, nat_eq, sym}
use Rattle.std.specs.Map.{lookup}
use Rattle.indexmap.proofs.CallerLemmas.{insert_entry-new}
use Rattle.triple_names.proofs.TableLaws.{none_by}
use Rattle.triple_names.proofs.StagedLaws.{entry_new}
use Rattle.triple_names.proofs.noting.reserve_place.Goals as goal

pub returns-clause-added : goal.returns-clause-added
returns-clause-added c =
    let old = c.args.later.now in
    let off = sym c.contains_key.ensures ∙ c.if-contains_key.false in
    c.in_ok-insert.ensures.entries
    ∙ insert_entry-new nat_eq old c.args.place (Some c.args.number) (none_by (lookup (nat_eq c.args.place) old.entries) off)
    ∙ entry_new (nat_eq c.args.place) (c.args.place, Some c.args.number) old.entries off
