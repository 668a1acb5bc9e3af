-- Worked values of the generator and of the texts.
use Rattle.std.proofs.Common.{◌≡◌, ◌/◌, ◌^◌, [], codes, refl}
use Rattle.std.specs.Fmt.{digits}
use Rattle.workload.specs.Generator.{drawn, next_state, number_at, state_after}
use Rattle.workload.specs.MadeTexts.{after_line, graph_line, graph_lines, lines_text, step_lines}

first_state : next_state 1 ≡ 7806831264735756412
unfolding next_state
first_state = refl

first_upper_bits : 7806831264735756412 / 2 ^ 33 ≡ 908834774
first_upper_bits = refl

first_number : drawn 1 4000 1 ≡ 2774
unfolding next_state number_at
first_number = refl

first_line : graph_line 1 ≡ codes "<http://e/s2774> <http://e/p1> \"v370\" ."
unfolding next_state number_at digits
first_line = refl

after_first : after_line 1 ≡ state_after 4 1
unfolding next_state number_at
after_first = refl

-- the greatest seed
greatest : graph_line 18446744073709551615 ≡ codes "<http://e/s488> <http://e/p7> <http://e/s3910> ."
unfolding next_state number_at digits
greatest = refl

after_greatest : after_line 18446744073709551615 ≡ state_after 3 18446744073709551615
unfolding next_state number_at
after_greatest = refl

three_lines : lines_text (graph_lines 3 1) ≡ codes "<http://e/s2774> <http://e/p1> \"v370\" .\n<http://e/s3034> <http://e/p3> \"v402\" .\n<http://e/s2089> <http://e/p2> \"v302\" .\n"
unfolding next_state number_at digits
three_lines = refl

-- the first step of the script of the seed 1, which begins at this state, for a graph of 100 nodes
first_step : lines_text (step_lines 100 100 4851688216654711192 []) ≡ codes "node g0\nlink n100 n33\nlink n100 n73\nunlink n100 n33\n"
unfolding next_state number_at digits
first_step = refl

-- without nodes to draw from
without_nodes : lines_text (step_lines 0 0 4851688216654711192 []) ≡ codes "node g0\nlink n0 n648185933\nlink n0 n781369773\nunlink n0 n648185933\n"
unfolding next_state number_at digits
without_nodes = refl
