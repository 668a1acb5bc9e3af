use Rattle.std.proofs.Common.{◌≡◌, ◌<◌, ◌^◌, ◌∙◌, sym, subst, arith, Ok}
use Rattle.std.specs.Prelude.{IsUtf8}
use Rattle.std.proofs.lemmas.Fmt.{parse-decimal, IsAscii-decimal}
use Rattle.std.proofs.lemmas.Str.{IsUtf8-from_ascii}
use Rattle.script_read.proofs.nodes.lenient_number.Goals as goal

pub returns-in-Ok-parse : goal.returns-in-Ok-parse
returns-in-Ok-parse c n l e =
    let wide : n < 2 ^ 64 = omega arith in
    let p : c.parse.result ≡ Ok n = parse-decimal 32 n c.in-Ok.text.now _ l wide (c.in-Ok.ensures.cases.0 ∙ e) c.parse.ensures.value.0 in
    let q = c.in-Ok-parse.is in
    let same : Ok c.in-Ok-parse.number ≡ Ok n = sym q ∙ p in cc

pub returns-in-Err-parse : goal.returns-in-Err-parse
returns-in-Err-parse c n l e =
    let wide : n < 2 ^ 64 = omega arith in
    let p : c.parse.result ≡ Ok n = parse-decimal 32 n c.in-Ok.text.now _ l wide (c.in-Ok.ensures.cases.0 ∙ e) c.parse.ensures.value.0 in
    let q = sym c.in-Err-parse.is ∙ p in cc

pub returns-in-Err : goal.returns-in-Err
returns-in-Err c n l e =
    let wide : n < 2 ^ 64 = omega arith in
    absurd (c.in-Err.ensures.cases.0 (subst IsUtf8 (sym e) (IsUtf8-from_ascii _ (IsAscii-decimal n wide))))
