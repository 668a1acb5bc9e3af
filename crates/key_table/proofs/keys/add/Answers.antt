use Rattle.std.proofs.Common.{◌≡◌, ◌+◌, ◌<◌, ◌^◌, ◌++◌, rules, length, arith}
use Rattle.std.proofs.lemmas.List.{length-append}
use Rattle.key_table.specs.declared.spans.KeyRange.{KeyRange}
use Rattle.key_table.proofs.DistinctKeys.{new_key, table_kept, table_pushed, keys_pushed, keys_left}
use Rattle.key_table.proofs.keys.add.Goals as goal

pub returns-clause-table : goal.returns-clause-table
returns-clause-table c =
    let arena = c.args.arena.now.items in
    let key = c.args.key.now in
    let grown = c.in_ok-extend_from_slice.ensures.items in
    let span : KeyRange = record { from = c.len-from.result; to = c.len-to.result } in
    let from : span.from ≡ length arena = search rules in
    let to : span.to ≡ length arena + length key = search (rules, length-append) in
    let m = length-append arena key in
    let short : length (arena ++ key) < 2 ^ 32 = (let f = c.if-key-from.false in let s = c.requires.table.short in omega (arith, f, from, s, m)) in
    rw grown (table_pushed c.push.result (arena ++ key) c.args.index.now c.push.new.self span key c.args.hash (table_kept arena key c.args.index.now c.requires.table short)
    (new_key arena key c.args.index.now span c.args.hash c.requires.table c.requires.absent from to c.requires.hash) c.push.ensures.ok c.push.ensures.err)

pub returns-clause-added : goal.returns-clause-added
returns-clause-added c =
    let arena = c.args.arena.now.items in
    let key = c.args.key.now in
    let grown = c.in_ok-extend_from_slice.ensures.items in
    let span : KeyRange = record { from = c.len-from.result; to = c.len-to.result } in
    let from : span.from ≡ length arena = search rules in
    let to : span.to ≡ length arena + length key = search (rules, length-append) in
    rw grown (keys_pushed c.push.result arena key c.args.index.now c.push.new.self span c.args.hash c.requires.table from to c.push.ensures.ok)

pub returns-clause-err : goal.returns-clause-err
returns-clause-err c =
    rw c.in_ok-extend_from_slice.ensures.items (keys_left c.push.result c.args.arena.now.items c.args.key.now c.args.index.now c.push.new.self c.requires.table c.push.ensures.err)
