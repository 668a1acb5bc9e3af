-- The texts of an answer and of a walk, at worked values.
use Rattle.std.proofs.Common.{◌≡◌, [], ◌∷◌, true, false, refl, lit<}
use Rattle.std.specs.Prelude.{codes}
use Rattle.std.proofs.lemmas.Fmt.{decimal_digit}
use Rattle.index_api.specs.declared.answers.How.TheVariants.{Data, Exact, Checked}
use Rattle.extent_report.specs.PrintedAnswers.{answer_text, walk_text}

-- if there are no answers, no second line follows
no_answers : answer_text Data true [] ≡ codes "answers 0\n"
no_answers = rw (decimal_digit 0 (lit< tt)) refl

two_answers : answer_text Data true (1 ∷ 3 ∷ []) ≡ codes "answers 2\nn1 n3\n"
two_answers = rw (decimal_digit 2 (lit< tt), decimal_digit 1 (lit< tt), decimal_digit 3 (lit< tt)) refl

-- two candidates of an index, of which the graph has one
one_of_two : answer_text (Checked 2) true (5 ∷ []) ≡ codes "answers 1 candidates 2 checked\nn5\n"
one_of_two = rw (decimal_digit 1 (lit< tt), decimal_digit 2 (lit< tt), decimal_digit 5 (lit< tt)) refl

none_of_two : answer_text (Checked 2) true [] ≡ codes "answers 0 candidates 2 checked\n"
none_of_two = rw (decimal_digit 0 (lit< tt), decimal_digit 2 (lit< tt)) refl

-- the answers themselves are left out if they aren't asked for
first_line : answer_text (Exact 2) false (4 ∷ 9 ∷ []) ≡ codes "answers 2 candidates 2 exact\n"
first_line = rw (decimal_digit 2 (lit< tt)) refl

-- the nodes of a walk stand in its order, and one may stand in it twice
walk_of_three : walk_text (2 ∷ 1 ∷ 2 ∷ []) ≡ codes "walk 3\nn2 n1 n2\n"
walk_of_three = rw (decimal_digit 3 (lit< tt), decimal_digit 2 (lit< tt), decimal_digit 1 (lit< tt)) refl
