use Rattle.std.proofs.Common.{refl}
use Rattle.std.proofs.lemmas.Result.{err_from_is_err_and}
use Rattle.term_table.specs.declared.entries.Entry.{Entry}
use Rattle.term_table.specs.TermParts.{parts_of, parts_value}
use Rattle.term_table.proofs.FoundLemmas.{parts_again, term_again}
use Rattle.term_table.proofs.Spelled.{IsNewTerm, new_entry, table_kept, table_pushed, terms_kept, terms_pushed, terms_left}
use Rattle.term_table.proofs.table.put.Goals as goal

pub returns-in_err-span-clause-table : goal.returns-in_err-span-clause-table
returns-in_err-span-clause-table c =
    let b = c.store.ensures.begins in
    table_kept c.args.arena.now.items b.0 c.store.new.arena.items c.args.index.now b.1 c.requires.table c.store.ensures.short

pub returns-in_err-span-clause-err : goal.returns-in_err-span-clause-err
returns-in_err-span-clause-err c =
    let b = c.store.ensures.begins in
    let p = err_from_is_err_and c.from_residual.result c.from_residual.ensures.1 in
    rw p.1 (terms_kept c.args.arena.now.items b.0 c.store.new.arena.items c.args.index.now b.1 c.requires.table)

pub returns-clause-table : goal.returns-clause-table
returns-clause-table c =
    let b = c.store.ensures.begins in
    let e : Entry = record { span = c.in_ok-span.span; sort = c.parts-parts.result.sort; number = c.args.number } in
    let is : IsNewTerm c.store.new.arena.items c.args.index.now e (parts_of c.args.term.now) c.hash.result =
    new_entry c.args.arena.now.items b.0 c.store.new.arena.items c.args.index.now e (parts_value c.parts-parts.result) (parts_of c.args.term.now) c.hash.result b.1 c.requires.table c.requires.absent
    c.in_ok-span.ensures.within c.in_ok-span.ensures.texts refl c.parts-parts.ensures c.hash.ensures (parts_again c.args.term.now) in
    table_pushed c.push.result c.store.new.arena.items c.args.index.now c.push.new.self e (parts_of c.args.term.now) c.hash.result
    (table_kept c.args.arena.now.items b.0 c.store.new.arena.items c.args.index.now b.1 c.requires.table c.store.ensures.short) is c.push.ensures.ok c.push.ensures.err

pub returns-clause-added : goal.returns-clause-added
returns-clause-added c =
    let b = c.store.ensures.begins in
    let e : Entry = record { span = c.in_ok-span.span; sort = c.parts-parts.result.sort; number = c.args.number } in
    let is : IsNewTerm c.store.new.arena.items c.args.index.now e (parts_of c.args.term.now) c.hash.result =
    new_entry c.args.arena.now.items b.0 c.store.new.arena.items c.args.index.now e (parts_value c.parts-parts.result) (parts_of c.args.term.now) c.hash.result b.1 c.requires.table c.requires.absent
    c.in_ok-span.ensures.within c.in_ok-span.ensures.texts refl c.parts-parts.ensures c.hash.ensures (parts_again c.args.term.now) in
    terms_pushed c.push.result c.args.arena.now.items b.0 c.store.new.arena.items b.1 c.args.index.now c.push.new.self e (parts_of c.args.term.now) c.hash.result c.args.term.now c.requires.table is
    (term_again c.args.term.now) c.push.ensures.ok

pub returns-clause-err : goal.returns-clause-err
returns-clause-err c =
    let b = c.store.ensures.begins in
    terms_left c.push.result c.args.arena.now.items b.0 c.store.new.arena.items b.1 c.args.index.now c.push.new.self c.requires.table c.push.ensures.err
