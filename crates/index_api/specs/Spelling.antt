-- How it is written through what a query is asked, as `data`, `a2`, `one`, `fb`, `b1`, and how a kind of index: `a`, `one`, `fb`,
-- `b`.
use Rattle.std.specs.Prelude.{ℕ, List, ◌∷◌, codes, decimal}
use Rattle.bisim_spec.specs.declared.kind.Kind.{Kind}
use Rattle.bisim_spec.specs.declared.kind.Kind.TheVariants as kind
use Rattle.index_api.specs.declared.kinds.Via.{Via}
use Rattle.index_api.specs.declared.kinds.Via.TheVariants.{Data, A, One, Fb, B}

-- how it is written through what a query is asked
abbrev pub via_word : Via → List ℕ
via_word Data = codes "data"
via_word (A level) = 97 ∷ decimal level
via_word One = codes "one"
via_word Fb = codes "fb"
via_word (B level) = 98 ∷ decimal level

-- how a kind of index is written
abbrev pub kind_word : Kind → List ℕ
kind_word kind.A = codes "a"
kind_word kind.One = codes "one"
kind_word kind.Fb = codes "fb"
kind_word kind.B = codes "b"
