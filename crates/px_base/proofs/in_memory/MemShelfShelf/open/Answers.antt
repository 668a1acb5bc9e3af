use Rattle.std.proofs.Common.{refl, arith}
use Rattle.px_base.proofs.Shelves.{found, missing, opens, is_open}
use Rattle.px_base.proofs.in_memory.MemShelfShelf.open.Goals as goal

pub invariant_of-self-in-Some : goal.invariant_of-self-in-Some
invariant_of-self-in-Some c =
    let f = found c.self.inside.files.items _ c.args.name.now c.in-Some.at c.deref.ensures.value c.in-Some.ensures in
    (c.self.invariant.0, (f.file, f.at_is, omega arith))

pub returns-in-Some-clause-found : goal.returns-in-Some-clause-found
returns-in-Some-clause-found c =
    let f = found c.self.inside.files.items _ c.args.name.now c.in-Some.at c.deref.ensures.value c.in-Some.ensures in
    rw (← c.self.view_is) (opens c.self.inside.files.items c.args.name.now c.in-Some.at f)

pub returns-in-Some-clause-open : goal.returns-in-Some-clause-open
returns-in-Some-clause-open c =
    let f = found c.self.inside.files.items _ c.args.name.now c.in-Some.at c.deref.ensures.value c.in-Some.ensures in
    (λ _. refl, λ _. is_open c.self.inside.files.items c.args.name.now c.in-Some.at f)

pub returns-in-None-clause-found : goal.returns-in-None-clause-found
returns-in-None-clause-found c =
    rw (← c.self.view_is) (missing c.self.inside.files.items _ c.args.name.now c.deref.ensures.value c.in-None.ensures)
