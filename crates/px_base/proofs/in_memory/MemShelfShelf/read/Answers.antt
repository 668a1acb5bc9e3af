use Rattle.std.proofs.Common.{◌+◌, ◌∙◌, ap, sym, length-drop, arith}
use Rattle.px_base.proofs.Shelves.{open_at, at_next, left_at, read_part, read_end, slice_from}
use Rattle.px_base.proofs.in_memory.MemShelfShelf.read.Goals as goal

pub invariant_of-self-in-Some : goal.invariant_of-self-in-Some
invariant_of-self-in-Some c =
    let o = open_at c.self.inside.files.items _ c.in-Some.at c.self.inside.next c.index.result.now c.in-Some.is c.self.invariant.1 c.index.ensures in
    let rest = slice_from c.index.result.now.1.items _ c.self.inside.next c.deref.ensures.value in
    let size = length-drop c.self.inside.next c.index.result.now.1.items in
    let count = rw rest at c.copy_prefix-count.ensures.count in
    (c.self.invariant.0, at_next _ _ _ _ c.index.result.now c.in-Some.is o.at_is (omega (arith, o.within, count, size)))

pub returns-in-Some-clause-bytes : goal.returns-in-Some-clause-bytes
returns-in-Some-clause-bytes c =
    let o = open_at c.self.inside.files.items _ c.in-Some.at c.self.inside.next c.index.result.now c.in-Some.is c.self.invariant.1 c.index.ensures in
    let bytes = c.index.result.now.1.items in
    let next = c.self.inside.next in
    let n = c.copy_prefix-count.result in
    let rest = slice_from bytes _ next c.deref.ensures.value in
    let size = length-drop next bytes in
    let count = rw rest at c.copy_prefix-count.ensures.count in
    let before = sym (ap (λ s. s.left) c.self.view_is) ∙ left_at _ _ _ next c.index.result.now c.in-Some.is o.at_is in
    let after = left_at _ _ _ (next + n) c.index.result.now c.in-Some.is o.at_is in (
      read_part _ _ bytes _ next n before after (rw rest at c.copy_prefix-count.ensures.prefix),
      λ z h. read_end _ bytes (next + n) after (omega (arith, z, h, count, size, c.self.invariant.0, c.copy_prefix-count.ensures.len)),
    )

pub returns-in-Some-clause-moved : goal.returns-in-Some-clause-moved
returns-in-Some-clause-moved c =
    let o = open_at c.self.inside.files.items _ c.in-Some.at c.self.inside.next c.index.result.now c.in-Some.is c.self.invariant.1 c.index.ensures in
    let rest = slice_from c.index.result.now.1.items _ c.self.inside.next c.deref.ensures.value in
    let count = rw rest at c.copy_prefix-count.ensures.count in
    let before = left_at _ _ _ c.self.inside.next c.index.result.now c.in-Some.is o.at_is in
    rw (← c.self.view_is, before) count
