-- Tokens as contracts see them.
use Rattle.std.specs.Prelude.{List, map}
use Rattle.branch_spec.specs.Tokens as tokens
use Rattle.branch_expr.specs.Axes.{axis_of}
use Rattle.branch_text.specs.declared.token.Token.{Token}
use Rattle.branch_text.specs.declared.token.Token.TheVariants.{Label, Along, Mark}
use Rattle.branch_text.specs.declared.token.Mark as mark
use Rattle.branch_text.specs.declared.token.Mark.TheVariants.{Any, Left, Right, Open, Close, Not, And, Or}

-- the token that a mark of the code stands for
abbrev pub mark_token : mark.Mark → tokens.Token
mark_token Any = tokens.underscore
mark_token Left = tokens.left
mark_token Right = tokens.right
mark_token Open = tokens.opening
mark_token Close = tokens.closing
mark_token Not = tokens.not_word
mark_token And = tokens.and_word
mark_token Or = tokens.or_word

-- the token that a token of the code stands for
abbrev pub token_of : Token → tokens.Token
token_of (Label t) = tokens.lab t
token_of (Along a) = tokens.axis (axis_of a)
token_of (Mark m) = mark_token m

-- the tokens that those of the code stand for
abbrev pub seen : List Token → List tokens.Token
seen ts = map token_of ts
