-- Tokens as contracts see them.
use Rattle.std.specs.Prelude.{List, map}
use Rattle.path_spec.specs.Tokens as tokens
use Rattle.path_expr.specs.ExprTrees.{sign_of, sep_of}
use Rattle.path_query.specs.declared.token.Token.{Token}
use Rattle.path_query.specs.declared.token.Token.TheVariants.{Label, Any, Sep, Bar, Open, Close, Sign}

-- the token that a value of the code stands for
abbrev pub token_of : Token → tokens.Token
token_of (Label t) = tokens.lab t
token_of Any = tokens.underscore
token_of (Sep s) = tokens.sep_token (sep_of s)
token_of Bar = tokens.bar
token_of Open = tokens.opening
token_of Close = tokens.closing
token_of (Sign s) = tokens.sign (sign_of s)

-- the token that each value stands for
abbrev pub seen : List Token → List tokens.Token
seen ts = map token_of ts
