use Rattle.std.proofs.Common.{◌/◌, ◌%◌, get_or, refl, arith}
use Rattle.path_automaton.proofs.Bits.{bit_clear, bits_with}
use Rattle.path_automaton.proofs.row.set_bit.Goals as goal

pub returns-clause-new : goal.returns-clause-new
returns-clause-new c = bit_clear (get_or c.args.words.now (c.args.n / 64) 0) (c.args.n % 64) (omega arith)

pub returns-clause-bits : goal.returns-clause-bits
returns-clause-bits c k = bits_with c.args.words.now c.args.n (get_or c.args.words.now (c.args.n / 64) 0) c.requires refl k
